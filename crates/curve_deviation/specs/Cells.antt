-- Two rising lines, each over a stretch of time: how long the second lies behind the first. (The horizontal deviation
-- of Le Boudec and Thiran, of two lines over part of the times.)
use Rattle.std.specs.Prelude.{◌≡◌, pos, ◌⊎◌}
use Rattle.rational.specs.Rational.{ℚ, ◌-ℚ◌, ◌≤ℚ◌, ◌<ℚ◌, int}
use Rattle.rational.specs.Grid.{Whole}
use Rattle.upp_curve.specs.affine_segment.Values.{line_at}
use Rattle.upp_limits.specs.Limits.{Sizes}
use Rattle.upp_normal.specs.Operand.{AreLimited, OperandLine}
use Rattle.curve_deviation.specs.declared.cells.Cell.{Cell}
use Rattle.curve_deviation.specs.declared.cells.Levels.{Levels}

-- no line falls, and no stretch is empty
pub record RisingCell (c : Cell) : Type 0 where
  pub first : int (pos 0) ≤ℚ c.first.slope
  pub second : int (pos 0) ≤ℚ c.second.slope
  pub start : c.start <ℚ c.end
  pub from : c.from <ℚ c.until

-- the values of both lines where their stretches start and end
pub record AreLevels (c : Cell) (l : Levels) : Type 0 where
  pub start : l.start ≡ line_at c.first c.start
  pub end : l.end ≡ line_at c.first c.end
  pub from : l.from ≡ line_at c.second c.from
  pub until : l.until ≡ line_at c.second c.until

-- the second line at u is still below the first at s
pub record IsBehind (c : Cell) (s u : ℚ) : Type 0 where
  pub start : c.start ≤ℚ s
  pub end : s <ℚ c.end
  pub from : c.from <ℚ u
  pub until : u ≤ℚ c.until
  pub below : line_at c.second u <ℚ line_at c.first s

-- the same, as much earlier on both lines as the second's stretch lets go
pub record IsBehindEarlier (c : Cell) (s u : ℚ) : Type 0 where
  pub start : c.start <ℚ c.from -ℚ (u -ℚ s)
  pub end : c.from -ℚ (u -ℚ s) <ℚ c.end
  pub below : line_at c.second c.from <ℚ line_at c.first (c.from -ℚ (u -ℚ s))

-- times within both stretches, more than y apart, with the second line below the first
pub record BehindBy (c : Cell) (y : ℚ) : Type 0 where
  pub first : ℚ
  pub second : ℚ
  pub start : c.start <ℚ first
  pub end : first <ℚ c.end
  pub from : c.from <ℚ second
  pub until : second <ℚ c.until
  pub below : line_at c.second second <ℚ line_at c.first first
  pub more : y <ℚ second -ℚ first

-- no lag is longer than q but what the start of the second's stretch owes already, and each number from 0 on below q
-- is below one
pub record IsCellLag (c : Cell) (q : ℚ) : Type 0 where
  pub most : (s u : ℚ) → IsBehind c s u → (u -ℚ s ≤ℚ q) ⊎ IsBehindEarlier c s u
  pub near : (y : ℚ) → y <ℚ q → (y <ℚ int (pos 0)) ⊎ BehindBy c y

-- a time on the grid of a window's times, up to its end
pub record IsTimeTo (z : Sizes) (last t : ℚ) : Type 0 where
  pub whole : Whole z.dt t
  pub nonneg : int (pos 0) ≤ℚ t
  pub high : t ≤ℚ last

-- a cell of two operands of a window that ends at `last`
pub record CellSizes (z : Sizes) (last : ℚ) (c : Cell) : Type 0 where
  pub limited : AreLimited z last
  pub first : OperandLine z c.first
  pub second : OperandLine z c.second
  pub start : IsTimeTo z last c.start
  pub end : IsTimeTo z last c.end
  pub from : IsTimeTo z last c.from
  pub until : IsTimeTo z last c.until
