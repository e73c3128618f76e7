use Rattle.std.proofs.Common.{◌≡◌, ◌++◌, map}
use Rattle.std.specs.List.{flat_map, range_with_len}
use Rattle.commands.specs.edit_report.EditReport.{line_at}
use Rattle.commands.specs.edit_report.Said.{said_view}
use Rattle.commands.proofs.edit_report.listing.push_lines.Given as goal

abbrev pub invariant-loop-place : goal.invariant-loop-place
invariant-loop-place l =
    l.into.items ≡ l.initial.into.items ++ flat_map (line_at (map said_view l.said)) (range_with_len 0 l.place)
