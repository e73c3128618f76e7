-- Room for the numbers of a normal form: the grids that they stand on, and their sizes. With it no step of the normal
-- form is too wide. Own choice.
use Rattle.std.specs.Prelude.{◌≡◌, ℕ, ◌*◌, ◌<◌, ◌≤◌, pos, List, Option, Some, None}
use Prim.Native.Nat.{◌∣◌}
use Rattle.rational.specs.Rational.{ℚ, ◌+ℚ◌, ◌*ℚ◌, ◌≤ℚ◌, int}
use Rattle.rational.specs.Grid.{Whole, Within}
use Rattle.rational.specs.Extended.{Ext}
use Rattle.rational.specs.declared.Extended.TheVariants.{Fin, Inf}
use Rattle.upp_curve.specs.declared.affine_segment.line.Line.{Line}
use Rattle.upp_curve.specs.declared.affine_segment.line.Piece.{Piece}
use Rattle.upp_curve.specs.declared.curve.Tail.{Tail}
use Rattle.upp_curve.specs.declared.curve.Tail.TheVariants.{Periodic, Affine, Infinite}
use Rattle.upp_curve.specs.affine_segment.Pieces.{Each}
use Rattle.upp_limits.specs.Spans.{piece_read}

-- the largest number of 127 bits
abbrev pub top : ℕ
top = 170141183460469231731687303715884105727

-- times: the grid of the tail's rank and period; base: the least grid of a start; slopes: that of the slopes; values
-- are on the grid of base slopes; largest: at least 1, and what bounds values; end: what bounds times
pub record Room : Type 0 where
  pub times : ℕ
  pub base : ℕ
  pub slopes : ℕ
  pub largest : ℕ
  pub end : ℚ

pub record IsRoom (m : Room) : Type 0 where
  pub some_times : 0 < m.times
  pub some_base : 0 < m.base
  pub some_slopes : 0 < m.slopes
  pub some_largest : 1 ≤ m.largest
  pub nested : m.times ∣ m.base
  pub some_end : int (pos 0) ≤ℚ m.end
  pub rate : m.end *ℚ int (pos (m.base * m.slopes)) ≤ℚ int (pos top)

-- a time: on a grid of its own, on which its values have room
pub record TimeHasRoom (m : Room) (x : ℚ) : Type 0 where
  pub grid : ℕ
  pub some : 0 < grid
  pub base : m.base ∣ grid
  pub whole : Whole grid x
  pub low : int (pos 0) ≤ℚ x
  pub time_size : m.end *ℚ int (pos grid) ≤ℚ int (pos top)
  pub value_size : 8 * m.largest * (grid * m.slopes) ≤ top

-- n times the largest value
abbrev pub many : Room → ℕ → ℚ
many m n = int (pos (n * m.largest))

-- a value at a time of the grid `grid`, at most n times the largest
pub record ValueInRoom (m : Room) (n grid : ℕ) (v : ℚ) : Type 0 where
  pub whole : Whole (grid * m.slopes) v
  pub within : Within (many m n) v

abbrev pub ValueHasRoom : Room → ℕ → ℕ → Ext → Type 0
ValueHasRoom m n grid Inf = Unit {0}
ValueHasRoom m n grid (Fin v) = ValueInRoom m n grid v

-- a line: its value at 0 at most n times the largest, and its rise up to the end of times at most the largest
pub record LineInRoom (m : Room) (n : ℕ) (l : Line) : Type 0 where
  pub icept : Whole (m.base * m.slopes) l.icept
  pub within : Within (many m n) l.icept
  pub slope : Whole m.slopes l.slope
  pub rise : Within (many m 1) (l.slope *ℚ m.end)

abbrev pub LineHasRoom : Room → ℕ → Option Line → Type 0
LineHasRoom m n None = Unit {0}
LineHasRoom m n (Some l) = LineInRoom m n l

pub record PieceHasRoom (m : Room) (n : ℕ) (p : Piece) : Type 0 where
  pub time : TimeHasRoom m p.x
  pub at : ValueHasRoom m n time.grid p.at
  pub line : LineHasRoom m n p.line

-- a move by a time on the tail's grid and a rise
pub record IsMove (m : Room) (by rise : ℚ) : Type 0 where
  pub time : Whole m.times by
  pub low : int (pos 0) ≤ℚ by
  pub height : Whole (m.base * m.slopes) rise
  pub within : Within (many m 1) rise

-- ---- curves
-- pieces that start up to the end of times
pub record PiecesHaveRoom (m : Room) (n : ℕ) (ps : List Piece) : Type 0 where
  pub is : IsRoom m
  pub each : Each (PieceHasRoom m n) ps
  pub early : Each (λ p. p.x ≤ℚ m.end) ps

-- a curve that is infinite past its rank; a line that starts there is read at no time
pub record EndHasRoom (m : Room) (ps : List Piece) (rank : ℚ) : Type 0 where
  pub is : IsRoom m
  pub each : Each (λ p. PieceHasRoom m 1 (piece_read (Infinite rank) p)) ps
  pub time : TimeHasRoom m rank
  pub early : rank ≤ℚ m.end

-- a periodic curve: three periods past the rank end up to the end of times
pub record TurnHasRoom (m : Room) (times values : ℕ) (ps : List Piece) (rank period rise : ℚ) : Type 0 where
  pub is : IsRoom m
  pub times_is : m.times ≡ times
  pub values_is : m.base * m.slopes ≡ values
  pub each : Each (PieceHasRoom m 1) ps
  pub time : TimeHasRoom m rank
  pub move : IsMove m period rise
  pub ends : rank +ℚ period +ℚ period +ℚ period ≤ℚ m.end

-- pieces of a periodic curve below rank + 2 period
pub record TwoHaveRoom (m : Room) (times values : ℕ) (ps : List Piece) (rank period rise : ℚ) : Type 0 where
  pub is : IsRoom m
  pub times_is : m.times ≡ times
  pub values_is : m.base * m.slopes ≡ values
  pub each : Each (PieceHasRoom m 4) ps
  pub time : TimeHasRoom m rank
  pub move : IsMove m period rise
  pub ends : rank +ℚ period +ℚ period +ℚ period ≤ℚ m.end

-- a curve whose period begins at the start of one of its pieces
pub record CycleHasRoom (m : Room) (times values : ℕ) (ps : List Piece) (rank period rise : ℚ) : Type 0 where
  pub is : IsRoom m
  pub times_is : m.times ≡ times
  pub values_is : m.base * m.slopes ≡ values
  pub each : Each (PieceHasRoom m 4) ps
  pub move : IsMove m period rise
  pub ends : rank +ℚ period +ℚ period ≤ℚ m.end

-- a curve in any form, whose fractions of the period are on the grids of 1 / times and 1 / values
abbrev pub TailHasRoom : ℕ → ℕ → List Piece → Tail → Type 0
TailHasRoom times values ps (Periodic rank period rise) = (m : Room) × TurnHasRoom m times values ps rank period rise
TailHasRoom times values ps (Affine rank) = (m : Room) × PiecesHaveRoom m 1 ps
TailHasRoom times values ps (Infinite rank) = (m : Room) × EndHasRoom m ps rank
