-- What makes a convolution of curves out of those of elements.
use Rattle.std.specs.Prelude.{◌≡◌, ◌↔◌, pos, List, [], ◌∷◌, ◌++◌}
use Rattle.rational.specs.Rational.{ℚ, ◌≤ℚ◌, ◌<ℚ◌, int}
use Rattle.rational.specs.Extended.{Ext, ◌≤ₑ◌, ◌<ₑ◌, min_ext}
use Rattle.rational.specs.declared.Extended.TheVariants.{Fin, Inf}
use Rattle.upp_curve.specs.declared.affine_segment.line.Piece.{Piece}
use Rattle.upp_curve.specs.declared.affine_segment.element.Element.{Element}
use Rattle.upp_curve.specs.declared.affine_segment.element.Joined.{Joined}
use Rattle.upp_curve.specs.affine_segment.Elements.{IsProper, level, joined_value, IsConvolved}
use Rattle.upp_curve.specs.Curve.{SpecCurve, value_at}
use Rattle.upp_curve.specs.affine_segment.Pieces.{StartsAtZero}
use Rattle.upp_curve.specs.Normal.{IsNormal}
use Rattle.upp_curve.specs.affine_segment.Reading.{read}
use Rattle.min_plus.specs.Convolution.{IsConvolution}
use Rattle.upp_curve.specs.Unrolled.{unroll}
use Rattle.element_envelope.specs.PieceElements.{elements_of, StartBefore, Among, ElementAt}
use Rattle.element_envelope.specs.Envelopes.{IsEnvelope, StartLate}

-- ---- cover
-- the elements of pieces from 0 on: each starts before its end; each reads as the pieces at its times; a time before
-- the end with a finite value is a time of one of them; and no time is one of two
pub record ElementsCover (ps : List Piece) (end : Ext) : Type 0 where
  pub proper : (e : Element) → Among e (elements_of ps end) → IsProper e
  pub reads : (t : ℚ) (e : ElementAt (elements_of ps end) t) → read ps t ≡ Fin (level e.element t)
  pub found : (t v : ℚ) → int (pos 0) ≤ℚ t → Fin t <ₑ end → read ps t ≡ Fin v → ElementAt (elements_of ps end) t
  pub one : (t : ℚ) (d e : ElementAt (elements_of ps end) t) → d.element ≡ e.element

abbrev pub PiecesAreCovered : Type 0
PiecesAreCovered = (ps : List Piece) (end : Ext) → StartsAtZero ps → StartBefore end ps → ElementsCover ps end

-- ---- envelopes
-- of no pairs infinity; of one pair what the two make; of two parts of a list the lesser; and pairs that start late
-- do not count
pub record EnvelopeRules : Type 0 where
  pub none : (xs : List Element) (t : ℚ) → IsEnvelope [] xs t Inf × IsEnvelope xs [] t Inf
  pub pair : (a b : Element) (j : Joined) (t : ℚ) → IsConvolved a b j
      → IsEnvelope (a ∷ []) (b ∷ []) t (joined_value j t)
  pub left : (xs ys zs : List Element) (t : ℚ) (v w : Ext) → IsEnvelope xs zs t v → IsEnvelope ys zs t w
      → IsEnvelope (xs ++ ys) zs t (min_ext v w)
  pub right : (xs ys zs : List Element) (t : ℚ) (v w : Ext) → IsEnvelope xs ys t v → IsEnvelope xs zs t w
      → IsEnvelope xs (ys ++ zs) t (min_ext v w)
  pub late : (xs ys : List Element) (end t : ℚ) → StartLate xs ys end → t <ℚ end → IsEnvelope xs ys t Inf

-- ---- convolution
-- before the end of two windows, the least of all pairs of elements is the convolution
abbrev pub PairsConvolveWindows : Type 0
PairsConvolveWindows =
    (f g : List Piece) (end : Ext) (t : ℚ) (v : Ext) → StartsAtZero f → StartsAtZero g → StartBefore end f
    → StartBefore end g
    → Fin t <ₑ end → IsEnvelope (elements_of f end) (elements_of g end) t v ↔ IsConvolution (read f) (read g) t v

-- before the end of the pieces of two curves, the last of them gone on with at least up to that end
abbrev pub PairsConvolveCurves : Type 0
PairsConvolveCurves =
    (f g : SpecCurve) (until : ℚ) (end : Ext) (t : ℚ) (v : Ext) → IsNormal f → IsNormal g → int (pos 0) <ℚ until
    → Fin until ≤ₑ end → t <ℚ until
    → IsEnvelope (elements_of (unroll f until) end) (elements_of (unroll g until) end) t v
    ↔ IsConvolution (value_at f) (value_at g) t v
