-- Functions that bend only downwards between the times of a grid: there the value in the middle of two times is at
-- least the mean of both. The least of such functions is one again, so it tells bends apart from what a period may
-- repeat. Own choice.
use Rattle.std.specs.Prelude.{ℕ, pos}
use Rattle.rational.specs.Rational.{ℚ, ◌+ℚ◌, ◌-ℚ◌, ◌≤ℚ◌, ◌<ℚ◌, int}
use Rattle.rational.specs.Grid.{Whole}
use Rattle.rational.specs.Extended.{Ext, ◌≤ₑ◌, ◌+ₑ◌}

-- no whole multiple of 1 / T lies strictly between
abbrev pub IsBare : ℕ → ℚ → ℚ → Type 0
IsBare T low high = (t : ℚ) → low <ℚ t → t <ℚ high → ¬ (Whole T t)

-- y and the times h before and after it lie strictly between `low` and `high`, with no time of the grid; from 0 on
-- and up to `end`
pub record IsAround (T : ℕ) (end low high y h : ℚ) : Type 0 where
  pub bare : IsBare T low high
  pub nonneg : int (pos 0) ≤ℚ low
  pub most : high ≤ℚ end
  pub before : low <ℚ y -ℚ h
  pub after : y +ℚ h <ℚ high
  pub some : int (pos 0) ≤ℚ h

abbrev pub Arches : ℕ → ℚ → (ℚ → Ext) → Type 0
Arches T end f = (low high y h : ℚ) → IsAround T end low high y h → f (y -ℚ h) +ₑ f (y +ℚ h) ≤ₑ f y +ₑ f y
