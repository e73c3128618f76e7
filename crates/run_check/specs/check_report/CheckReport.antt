-- The bytes of the report on a recorded run, beside the bounds of its network where the run is lawful. Own choice.
use Rattle.std.specs.Prelude.{ℕ, ◌++◌, List, length, Option, Some, None, codes}
use Rattle.std.specs.Fmt.{decimal}
use Rattle.std.specs.List.{flat_map, range_with_len}
use Rattle.rational.specs.Rational.{ℚ}
use Rattle.run_check.specs.declared.broken_laws.law.Law.{Law}
use Rattle.run_check.specs.broken_laws.FirstBroken.{number_of}
use Rattle.net_model.specs.declared.breach.Breach.{Breach}
use Rattle.net_model.specs.Networks.{Net}
use Rattle.net_cells.specs.Meanings.{CellTable}
use Rattle.report_text.specs.Report.{head_line}
use Rattle.report_text.specs.RunReport.{Found, run_line, worst_lines, peak_lines, breach_words}

-- ---- the verdict
abbrev pub law_words : Law → List ℕ
law_words law = codes "L" ++ decimal (number_of law)

-- on a lawful run: what it breaks first, if anything
abbrev pub verdict_words : Net → Option Breach → List ℕ
verdict_words net None = codes "admissible"
verdict_words net (Some breach) = codes "breach " ++ breach_words net (Some breach)

unfoldable pub verdict_line : Net → Option Breach → List ℕ
verdict_line net breach = codes "verdict " ++ verdict_words net breach ++ codes "\n"

-- on one that is not: the first law that it breaks, and the row
unfoldable pub unlawful_line : ℕ → Law → List ℕ
unlawful_line row law =
    codes "verdict unlawful row " ++ decimal row ++ codes " " ++ law_words law ++ codes "\n"

-- ---- the report
-- the live flows by number, the servers in the order of their file
unfoldable pub lawful_report_of : Net → CellTable → Found → List ℕ
lawful_report_of net at found =
    head_line net ++ run_line found.packets found.end
    ++ flat_map (worst_lines net at found.worst) (range_with_len 0 (length net.flows))
    ++ flat_map (peak_lines net at found.peaks) (range_with_len 0 (length net.servers))
    ++ verdict_line net found.breach

unfoldable pub unlawful_report_of : Net → ℕ → ℚ → ℕ → Law → List ℕ
unlawful_report_of net packets end row law = head_line net ++ run_line packets end ++ unlawful_line row law
