-- The times of an open stretch.
use Rattle.rational.specs.Rational.{ℚ, ◌<ℚ◌}

-- a time strictly between two
pub record Between (lo hi : ℚ) : Type 0 where
  pub at : ℚ
  pub above : lo <ℚ at
  pub below : at <ℚ hi

-- a time strictly after one
pub record After (lo : ℚ) : Type 0 where
  pub at : ℚ
  pub above : lo <ℚ at
