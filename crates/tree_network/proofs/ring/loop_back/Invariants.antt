use Rattle.std.proofs.Common.{◌≡◌, ◌-◌, length}
use Rattle.tree_network.specs.Turns.{AreNoted}
use Rattle.tree_network.proofs.Walked.{Walked}
use Rattle.tree_network.proofs.ring.loop_back.Given as goal

abbrev pub invariant-loop-place : goal.invariant-loop-place
invariant-loop-place l = record {
  walked : Walked l.spots l.is_done l.start l.seen.items l.port;
  noted : AreNoted l.seen.items l.places.items;
  count : length l.places.items ≡ length l.is_done;
}

abbrev pub decreases-loop-place : goal.decreases-loop-place
decreases-loop-place l = length l.is_done - length l.seen.items
