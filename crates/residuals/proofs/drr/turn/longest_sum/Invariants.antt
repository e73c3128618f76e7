use Rattle.std.proofs.Common.{◌≡◌, ◌*◌, ◌≤◌, ◌^◌, sum, take}
use Rattle.residuals.proofs.drr.turn.longest_sum.Given as goal

abbrev pub invariant-loop-bits : goal.invariant-loop-bits
invariant-loop-bits l = (l.total ≡ sum (take l.bits-index l.longest)) × (l.total ≤ 2 ^ 32 * l.bits-index)
