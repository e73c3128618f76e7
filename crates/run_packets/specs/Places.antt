-- Where a packet of a recorded run is.
use Rattle.rational.specs.Rational.{ℚ, ◌≤ℚ◌}
use Rattle.run_packets.specs.declared.place.Place.{Place}
use Rattle.run_packets.specs.declared.place.Place.TheVariants.{At, OnLink, Gone}

-- a packet on a link is due by a time
abbrev pub IsLate : ℚ → Place → Type 0
IsLate end (At s) = ⊥
IsLate end (OnLink s t) = t ≤ℚ end
IsLate end Gone = ⊥
