-- The bytes of the summary of a workload that was analysed and simulated. Own choice.
use Rattle.std.specs.Prelude.{ℕ, ◌++◌, List, length, codes}
use Rattle.std.specs.Fmt.{decimal}
use Rattle.rational.specs.Extended.{Ext}
use Rattle.fraction128.specs.Text.{text_of}
use Rattle.input_texts.specs.plain_text.Numbers.{number_text}
use Rattle.net_model.specs.Networks.{Net}
use Rattle.net_cells.specs.Meanings.{CellTable}
use Rattle.report_text.specs.Report.{live_flows}
use Rattle.report_text.specs.RunReport.{Found, breach_line}
use Rattle.exercise_load.specs.exercise_report.Largest.{largest_bound, largest_delay}

unfoldable pub title_line : ℕ → List ℕ
title_line seed = codes "exercise " ++ decimal seed ++ codes "\n"

-- how many servers, live flows and packets
unfoldable pub count_line : Net → ℕ → List ℕ
count_line net packets =
    codes "servers " ++ decimal (length net.servers) ++ codes " flows " ++ decimal (length (live_flows net))
    ++ codes " packets " ++ decimal packets ++ codes "\n"

unfoldable pub bound_line : Ext → List ℕ
bound_line most = codes "largest bound " ++ number_text most ++ codes "\n"

unfoldable pub worst_line : Found → List ℕ
worst_line found = codes "largest worst " ++ text_of (largest_delay found.worst) ++ codes "\n"

-- and what the run breaks first
unfoldable pub summary_of : ℕ → Net → CellTable → Found → List ℕ
summary_of seed net at found =
    title_line seed ++ count_line net found.packets ++ bound_line (largest_bound net at) ++ worst_line found
    ++ breach_line net found.breach
