-- The excess of what parts bring over a rate: the supremum over the times from 0 on of their sum less the rate for the time, rounded up to
-- grains. (Le Boudec and Thiran, chapter 1: the largest distance of an arrival curve from a line.)
use Rattle.std.specs.Prelude.{ℕ, List}
use Rattle.rational.specs.Rational.{ℚ, ◌+ℚ◌, ◌≤ℚ◌, ◌<ℚ◌}
use Rattle.rational.specs.Line.{line_at}
use Rattle.min_plus.specs.Functions.{zero_q}
use Rattle.arrival_lines.specs.Grid.{grain, bits, speed, parts_value}
use Rattle.arrival_lines.specs.declared.grid.Part.{Part}

-- from 0 on the sum is at most so many grains above the rate, and at some time it is less than a grain below that
pub record IsExcess (parts : List Part) (rate x : ℕ) : Type 0 where
  pub over : (t : ℚ) → zero_q ≤ℚ t → parts_value parts t ≤ℚ line_at (bits x) (speed rate) t
  pub at : ℚ
  pub on : zero_q ≤ℚ at
  pub near : line_at (bits x) (speed rate) at <ℚ parts_value parts at +ℚ grain

-- it comes above each number over the rate: there is no excess
abbrev pub IsEndless : List Part → ℕ → Type 0
IsEndless parts rate = (y : ℚ) → (t : ℚ) × (zero_q ≤ℚ t) × (line_at y (speed rate) t <ℚ parts_value parts t)
