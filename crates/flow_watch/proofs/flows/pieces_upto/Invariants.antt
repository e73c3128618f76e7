use Rattle.std.proofs.Common.{ℕ, ◌<◌, ◌≤◌, length, drop}
use Rattle.flow_watch.specs.Flows.{KeepsAt}
use Rattle.flow_watch.proofs.flows.pieces_upto.Given as goal

abbrev pub invariant-loop-i : goal.invariant-loop-i
invariant-loop-i l = (l.least ≤ length l.entries) × ((k : ℕ) → k < l.i → KeepsAt l.entries l.far l.least (drop k l.pieces))
