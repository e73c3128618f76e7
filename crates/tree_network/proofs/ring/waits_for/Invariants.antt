use Rattle.std.proofs.Common.{ℕ, ◌<◌, get_or}
use Rattle.tree_network.specs.Spots.{spot_at}
use Rattle.tree_network.specs.Turns.{NoneComesLate}
use Rattle.tree_network.proofs.ring.waits_for.Given as goal

abbrev pub invariant-loop-n : goal.invariant-loop-n
invariant-loop-n l = (k : ℕ) → k < l.n-index → NoneComesLate l.is_done (spot_at l.spots (get_or l.numbers k 0)).source
