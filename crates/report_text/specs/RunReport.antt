-- The bytes of the report on a simulated run, beside the bounds of its network. Own choice.
use Rattle.std.specs.Prelude.{ℕ, List, [], ◌++◌, length, Option, Some, None, option_and_then, slice_get, map, codes}
use Rattle.std.specs.Fmt.{decimal}
use Rattle.std.specs.List.{flat_map, range_with_len}
use Rattle.rational.specs.Rational.{ℚ}
use Rattle.fraction128.specs.Text.{text_of}
use Rattle.net_model.specs.declared.breach.Breach.{Breach}
use Rattle.net_model.specs.declared.breach.Breach.TheVariants.{Size, Arrival, Service}
use Rattle.net_model.specs.Networks.{Net, NetFlow}
use Rattle.net_cells.specs.declared.cell.Kind.TheVariants.{QueueBacklog, Bound}
use Rattle.net_cells.specs.Meanings.{CellTable}
use Rattle.net_cells.specs.Numbered.{flow_at, queues}
use Rattle.report_text.specs.declared.run_found.RunFound.{RunFound}
use Rattle.report_text.specs.CellWords.{server_name, flow_name}
use Rattle.report_text.specs.Shown.{shown}
use Rattle.report_text.specs.Report.{head_line}

-- what a simulation found: how many packets entered, when the run ends, the worst delay of each flow and the greatest
-- backlog of each queue, by their numbers, and what the run breaks first
pub record Found : Type 0 where
  pub packets : ℕ
  pub end : ℚ
  pub worst : List ℚ
  pub peaks : List (List ℕ)
  pub breach : Option Breach

abbrev pub found_of : RunFound → Found
found_of f = record {
  packets = f.packets;
  end = f.end;
  worst = f.worst.items;
  peaks = map (λ row. row.items) f.peaks.items;
  breach = f.breach;
}

-- ---- numbers; nothing where there is none
abbrev pub time_text : Option ℚ → List ℕ
time_text None = []
time_text (Some time) = text_of time

abbrev pub bits_text : Option ℕ → List ℕ
bits_text None = []
bits_text (Some bits) = decimal bits

abbrev pub peak_at : List (List ℕ) → ℕ → ℕ → Option ℕ
peak_at peaks s q = option_and_then (λ row. slice_get row q) (slice_get peaks s)

-- ---- lines
unfoldable pub run_line : ℕ → ℚ → List ℕ
run_line packets end = codes "run packets " ++ decimal packets ++ codes " end " ++ text_of end ++ codes "\n"

-- a flow's worst delay, beside its bound
unfoldable pub worst_line : List ℕ → CellTable → List ℚ → ℕ → List ℕ
worst_line name at worst i =
    codes "worst " ++ name ++ codes " " ++ time_text (slice_get worst i) ++ codes " bound " ++ shown at Bound i 0
    ++ codes "\n"

-- a queue's greatest backlog, beside its bound, of the server with a name and a number
unfoldable pub peak_line : List ℕ → CellTable → List (List ℕ) → ℕ → ℕ → List ℕ
peak_line name at peaks s q =
    codes "peak " ++ name ++ codes " " ++ decimal q ++ codes " " ++ bits_text (peak_at peaks s q)
    ++ codes " bound " ++ shown at QueueBacklog s q ++ codes "\n"

-- packets by their numbers in their flow, from 0
abbrev pub breach_words : Net → Option Breach → List ℕ
breach_words net None = codes "none"
breach_words net (Some (Size i packet)) = codes "size " ++ flow_name net i ++ codes " " ++ decimal packet
breach_words net (Some (Arrival i first last)) =
    codes "arrival " ++ flow_name net i ++ codes " " ++ decimal first ++ codes " " ++ decimal last
breach_words net (Some (Service s start end)) =
    codes "service " ++ server_name net s ++ codes " " ++ text_of start ++ codes " " ++ text_of end

abbrev pub breach_line : Net → Option Breach → List ℕ
breach_line net breach = codes "breach " ++ breach_words net breach ++ codes "\n"

-- ---- all of them
-- no line where the flow was dropped
abbrev pub live_worst : CellTable → List ℚ → ℕ → Option NetFlow → List ℕ
live_worst at worst i None = []
live_worst at worst i (Some f) = worst_line f.name at worst i

abbrev pub worst_lines : Net → CellTable → List ℚ → ℕ → List ℕ
worst_lines net at worst i = live_worst at worst i (flow_at net i)

abbrev pub peak_lines : Net → CellTable → List (List ℕ) → ℕ → List ℕ
peak_lines net at peaks s = flat_map (peak_line (server_name net s) at peaks s) (range_with_len 0 (queues net s))

-- the live flows by number, the servers in the order of their file
unfoldable pub run_report_of : Net → CellTable → Found → List ℕ
run_report_of net at found =
    head_line net ++ run_line found.packets found.end
    ++ flat_map (worst_lines net at found.worst) (range_with_len 0 (length net.flows))
    ++ flat_map (peak_lines net at found.peaks) (range_with_len 0 (length net.servers))
    ++ breach_line net found.breach
