use Rattle.std.proofs.Common.{◌≡◌, false, take}
use Rattle.cell_rules.specs.Finding.{is_flagged}
use Rattle.cell_rules.proofs.finding.one_flagged.Given as goal

abbrev pub invariant-loop-cell : goal.invariant-loop-cell
invariant-loop-cell l = is_flagged l.flags (take l.cell-index l.cells) ≡ false
