-- Where two lines meet.
use Rattle.std.specs.Prelude.{ℕ, ◌*◌, ◌≤◌}
use Rattle.rational.specs.Rational.{ℚ}
use Rattle.rational.specs.Grid.{Whole}
use Rattle.upp_limits.specs.Limits.{Sizes}

-- a time on the grid of the q steps that the slopes are apart
pub record IsCrossing (z : Sizes) (t : ℚ) : Type 0 where
  pub apart : ℕ
  pub some : 1 ≤ apart
  pub few : apart ≤ z.steepness * z.ds
  pub whole : Whole (z.dv * z.dt * apart) t
