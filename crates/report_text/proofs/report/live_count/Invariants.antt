use Rattle.std.proofs.Common.{◌≡◌, ◌≤◌, length}
use Rattle.std.specs.List.{filter, range_with_len}
use Rattle.net_cells.specs.Numbered.{is_live}
use Rattle.report_text.proofs.report.live_count.Given as goal

abbrev pub invariant-loop-number : goal.invariant-loop-number
invariant-loop-number l =
    (l.count ≡ length (filter (is_live l.net) (range_with_len 0 l.number))) × (l.count ≤ l.number)
