-- Windows whose pieces repeat from a time on.
use Rattle.std.specs.Prelude.{◌≡◌, pos}
use Rattle.rational.specs.Rational.{ℚ, ◌+ℚ◌, ◌≤ℚ◌, ◌<ℚ◌, int}
use Rattle.rational.specs.Grid.{Whole}
use Rattle.upp_limits.specs.Limits.{Sizes}
use Rattle.upp_limits.specs.Sized.{grid_of}

-- a tail from `from` on whose first period ends with the window
pub record TailOf (z : Sizes) (end from period rise : ℚ) : Type 0 where
  pub nonneg : int (pos 0) ≤ℚ from
  pub some : int (pos 0) <ℚ period
  pub ends : from +ℚ period ≡ end
  pub time : Whole z.dt from
  pub whole : Whole z.dt period
  pub value : Whole (grid_of z) rise
