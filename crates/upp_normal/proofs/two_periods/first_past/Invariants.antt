use Rattle.std.proofs.Common.{◌≡◌, drop}
use Rattle.upp_normal.specs.Normalising.{past}
use Rattle.upp_normal.proofs.two_periods.first_past.Given as goal

abbrev pub invariant-loop-p : goal.invariant-loop-p
invariant-loop-p l = past l.t (drop l.p-index l.pieces) ≡ past l.t l.pieces
