use Rattle.std.specs.Prelude.{ℕ, ◌<◌, get_or}
use Rattle.run_packets.specs.declared.place.Place.{Place}
use Rattle.run_packets.specs.Places.{IsLate}
use Rattle.run_packets.proofs.place.some_late.Given as goal

abbrev pub invariant-loop-place : goal.invariant-loop-place
invariant-loop-place l = (k : ℕ) (d : Place) → k < l.place-index → ¬ IsLate l.end (get_or l.places k d)
