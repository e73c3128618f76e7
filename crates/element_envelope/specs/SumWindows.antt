-- Windows of what elements make: where their pieces start, and where their values and lines stand. Own choice.
use Rattle.std.specs.Prelude.{ℕ, ◌*◌, ◌⊎◌, pos, List, Option, Some, None}
use Prim.Native.Nat.{◌∣◌}
use Rattle.rational.specs.Rational.{ℚ, ◌≤ℚ◌, ◌<ℚ◌, int}
use Rattle.rational.specs.Extended.{Ext}
use Rattle.rational.specs.declared.Extended.TheVariants.{Fin, Inf}
use Rattle.rational.specs.Grid.{Whole, Within}
use Rattle.upp_curve.specs.declared.affine_segment.line.Line.{Line}
use Rattle.upp_curve.specs.declared.affine_segment.line.Piece.{Piece}
use Rattle.upp_limits.specs.Limits.{Sizes}
use Rattle.upp_curve.specs.affine_segment.Pieces.{Each, StartsAtZero}
use Rattle.upp_limits.specs.Sized.{times_largest}
use Rattle.upp_normal.specs.Crossings.{IsCrossing}
use Rattle.element_envelope.specs.ElementRoom.{SumLine}

-- a time of the window, on the grid of times or where two lines cross
pub record SumStart (z : Sizes) (end x : ℚ) : Type 0 where
  pub place : Whole z.dt x ⊎ IsCrossing z x
  pub nonneg : int (pos 0) ≤ℚ x
  pub before : x <ℚ end

-- a value at the time x: on the grid of any grid of that time, within seven times the largest
pub record SumValueOn (z : Sizes) (x v : ℚ) : Type 0 where
  pub whole : (grid : ℕ) → z.dv * z.dt ∣ grid → Whole grid x → Whole (grid * z.ds) v
  pub within : Within (times_largest 7 z) v

abbrev pub SumValueAt : Sizes → ℚ → Ext → Type 0
SumValueAt z x Inf = Unit {0}
SumValueAt z x (Fin v) = SumValueOn z x v

abbrev pub SumLineAt : Sizes → Option Line → Type 0
SumLineAt z None = Unit {0}
SumLineAt z (Some l) = SumLine z l

pub record SumPiece (z : Sizes) (end : ℚ) (p : Piece) : Type 0 where
  pub start : SumStart z end p.x
  pub at : SumValueAt z p.x p.at
  pub line : SumLineAt z p.line

-- pieces from 0 on
pub record SumWindow (z : Sizes) (end : ℚ) (ps : List Piece) : Type 0 where
  pub starts : StartsAtZero ps
  pub each : Each (SumPiece z end) ps
