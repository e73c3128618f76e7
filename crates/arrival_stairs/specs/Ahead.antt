-- How far bundles are above a rate at most: from 0 to a time, and for ever. (Le Boudec and Thiran, chapter 1: the
-- largest distance of an arrival curve from a line.)
use Rattle.std.specs.Prelude.{ℕ, ◌<◌, List}
use Rattle.rational.specs.Rational.{ℚ, ◌≤ℚ◌}
use Rattle.min_plus.specs.Functions.{zero_q}
use Rattle.arrival_lines.specs.Grid.{micros}
use Rattle.arrival_heights.specs.Greatest.{IsBelow, IsNear}
use Rattle.arrival_stairs.specs.Stairs.{bundles_at}
use Rattle.arrival_stairs.specs.declared.stairs.Bundle.{Bundle}

-- up to a time in picoseconds at most so many grains above the rate, rounded up; 0 where they are nowhere above it
pub record IsAheadUpTo (bundles : List Bundle) (rate end x : ℕ) : Type 0 where
  pub over : (t : ℚ) → zero_q ≤ℚ t → t ≤ℚ micros end → IsBelow (bundles_at bundles) rate x t
  pub near : 0 < x → IsNear (bundles_at bundles) rate x zero_q (micros end)
