-- A curve with its value at 0 set to another. Own choice.
use Rattle.std.specs.Prelude.{◌≡◌, List, [], ◌∷◌}
use Rattle.rational.specs.Rational.{ℚ, ◌<ℚ◌}
use Rattle.rational.specs.Extended.{Ext}
use Rattle.upp_curve.specs.declared.affine_segment.line.Piece.{Piece}
use Rattle.upp_curve.specs.declared.curve.Tail.{Tail}
use Rattle.upp_curve.specs.declared.curve.Tail.TheVariants.{Periodic, Affine, Infinite}
use Rattle.upp_curve.specs.Curve.{SpecCurve, value_at}
use Rattle.min_plus.specs.Functions.{zero_q}
use Rattle.upp_curve.specs.Steady.{Repeats}

-- the first of some pieces, from 0 on, with the value v at its start
abbrev pub first_at : Ext → List Piece → List Piece
first_at v [] = []
first_at v (p ∷ ps) = record { x = p.x; at = v; line = p.line } ∷ ps

abbrev pub started_at : Ext → SpecCurve → SpecCurve
started_at v c = record { pieces = first_at v c.pieces; tail = c.tail }

-- with the value f at times the tail stays as it is: an affine one does; a periodic one does where it begins after 0
-- and f does not repeat from 0 on
abbrev pub KeepsTail : (ℚ → Ext) → Tail → Type 0
KeepsTail f (Periodic rank period rise) = (zero_q <ℚ rank) × ¬ (Repeats f zero_q period rise)
KeepsTail f (Affine rank) = Unit {0}
KeepsTail f (Infinite rank) = ⊥

-- d is c with the value v at 0
pub record IsStartedAt (v : Ext) (c d : SpecCurve) : Type 0 where
  pub zero : value_at d zero_q ≡ v
  pub past : (t : ℚ) → zero_q <ℚ t → value_at d t ≡ value_at c t
