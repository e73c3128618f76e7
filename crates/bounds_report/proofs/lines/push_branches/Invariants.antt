use Rattle.std.proofs.Common.{◌≡◌, ◌++◌, take}
use Rattle.std.specs.List.{flat_map}
use Rattle.std.specs.String.{string_bytes}
use Rattle.bounds_report.specs.Lines.{branch_line}
use Rattle.bounds_report.proofs.lines.push_branches.Given as goal

abbrev pub invariant-loop-row : goal.invariant-loop-row
invariant-loop-row l = string_bytes l.into ≡ string_bytes l.initial.into ++ flat_map branch_line (take l.row-index l.rows)
