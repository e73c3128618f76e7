-- The least of all pairs of two lists of elements of operands, as pieces. Own choice.
use Rattle.std.specs.Prelude.{◌≡◌, pos, List}
use Rattle.rational.specs.Rational.{ℚ, ◌≤ℚ◌, ◌<ℚ◌, int}
use Rattle.rational.specs.Extended.{Ext, min_ext}
use Rattle.upp_curve.specs.declared.affine_segment.line.Piece.{Piece}
use Rattle.upp_curve.specs.declared.affine_segment.element.Element.{Element}
use Rattle.upp_curve.specs.affine_segment.Elements.{IsProper}
use Rattle.upp_limits.specs.Limits.{Sizes}
use Rattle.upp_curve.specs.affine_segment.Pieces.{StartsAtZero}
use Rattle.upp_normal.specs.Operand.{AreLimited}
use Rattle.upp_curve.specs.affine_segment.Reading.{read}
use Rattle.element_envelope.specs.PieceElements.{Among}
use Rattle.element_envelope.specs.ConvolutionWindows.{WindowPieces}
use Rattle.element_envelope.specs.ElementRoom.{OperandElement}
use Rattle.element_envelope.specs.Envelopes.{IsEnvelope}
use Rattle.element_envelope.specs.SumWindows.{SumWindow}
use Rattle.element_envelope.specs.Arches.{Arches}

-- segments start before their ends, and all elements stand within one call's sizes, for a window that ends after 0
pub record EnvelopeRoom (end : ℚ) (xs ys : List Element) : Type 0 where
  pub sizes : Sizes
  pub limited : AreLimited sizes end
  pub some : int (pos 0) <ℚ end
  pub left_proper : (e : Element) → Among e xs → IsProper e
  pub right_proper : (e : Element) → Among e ys → IsProper e
  pub left : (e : Element) → Among e xs → OperandElement sizes end e
  pub right : (e : Element) → Among e ys → OperandElement sizes end e

-- pieces from 0 on that read, before the end, as the least of all pairs; they stand where what elements make stands,
-- and bend only downwards between the times of the grid
pub record IsEnvelopeWindow (end : ℚ) (xs ys : List Element) (ps : List Piece) : Type 0 where
  pub starts : StartsAtZero ps
  pub reads : (t : ℚ) → int (pos 0) ≤ℚ t → t <ℚ end → IsEnvelope xs ys t (read ps t)
  pub stands : (r : EnvelopeRoom end xs ys) → SumWindow r.sizes end ps
  pub arches : (r : EnvelopeRoom end xs ys) → Arches r.sizes.dt end (read ps)

-- ---- beside a window
-- the pieces of a window stand within the same sizes
pub record BesideRoom (end : ℚ) (ps : List Piece) (xs ys : List Element) : Type 0 where
  pub room : EnvelopeRoom end xs ys
  pub own : WindowPieces room.sizes end ps

-- v is the lesser of what is read of a window and of the least of all pairs
pub record IsLesser (ps : List Piece) (xs ys : List Element) (t : ℚ) (v : Ext) : Type 0 where
  pub least : Ext
  pub is : IsEnvelope xs ys t least
  pub lesser : v ≡ min_ext (read ps t) least

-- pieces from 0 on that read, before the end, as the lesser of a window and of the least of all pairs; they stand where
-- what elements make stands, and bend only downwards between the times of the grid
pub record IsLowerEnvelope (end : ℚ) (ps : List Piece) (xs ys : List Element) (qs : List Piece) : Type 0 where
  pub starts : StartsAtZero qs
  pub reads : (t : ℚ) → int (pos 0) ≤ℚ t → t <ℚ end → IsLesser ps xs ys t (read qs t)
  pub stands : (r : BesideRoom end ps xs ys) → SumWindow r.room.sizes end qs
  pub arches : (r : BesideRoom end ps xs ys) → Arches r.room.sizes.dt end (read qs)
