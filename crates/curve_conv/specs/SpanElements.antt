-- The elements of a function over some times, and the pieces of a part of a convolution that are made of them. Own
-- choice.
use Rattle.std.specs.Prelude.{◌≡◌, pos, List, [], ◌∷◌, Option, Some, None}
use Rattle.rational.specs.Rational.{ℚ, ◌≤ℚ◌, ◌<ℚ◌, int}
use Rattle.rational.specs.Extended.{Ext}
use Rattle.rational.specs.declared.Extended.TheVariants.{Fin}
use Rattle.upp_curve.specs.declared.affine_segment.line.Piece.{Piece}
use Rattle.upp_curve.specs.declared.affine_segment.element.Element.{Element}
use Rattle.upp_curve.specs.affine_segment.Elements.{IsProper, Covers, level}
use Rattle.upp_limits.specs.Limits.{Sizes}
use Rattle.upp_curve.specs.affine_segment.Reading.{read}
use Rattle.upp_normal.specs.Ahead.{IsBeforeNext}
use Rattle.element_envelope.specs.PieceElements.{Among, ElementAt}
use Rattle.element_envelope.specs.ElementRoom.{OperandElement}
use Rattle.element_envelope.specs.SumWindows.{SumWindow}
use Rattle.curve_conv.specs.Parts.{IsPart}
use Rattle.curve_conv.specs.Scans.{InPart}

-- an element that may be missing, as a list
abbrev pub listed : Option Element → List Element
listed None = []
listed (Some e) = e ∷ []

-- what e is at a time of it before the end: a time before `until`, and the value of f
pub record ReadsAs (f : ℚ → Ext) (until : Option ℚ) (e : Element) (s : ℚ) : Type 0 where
  pub before : IsBeforeNext s until
  pub value : f s ≡ Fin (level e s)

-- all elements stand within a window's sizes; their times are `from` or later, and before the end they read as f
-- before `until`; each time of these at which f is finite is a time of one
pub record AreSpanElements (z : Sizes) (end : ℚ) (f : ℚ → Ext) (from : ℚ) (until : Option ℚ)
    (es : List Element) : Type 0 where
  pub proper : (e : Element) → Among e es → IsProper e
  pub stands : (e : Element) → Among e es → OperandElement z end e
  pub late : (e : Element) (s : ℚ) → Among e es → Covers e s → from ≤ℚ s
  pub reads : (e : Element) (s : ℚ) → Among e es → Covers e s → s <ℚ end → ReadsAs f until e s
  pub found : (s v : ℚ) → from ≤ℚ s → IsBeforeNext s until → s <ℚ end → f s ≡ Fin v → ElementAt es s

-- pieces from 0 on that read, before the end, as what f and g make of the splits of which the first side is in [from,
-- until) and the second is `low` or later
pub record IsPartWindow (z : Sizes) (end : ℚ) (f g : ℚ → Ext) (from : ℚ) (until : Option ℚ) (low : ℚ)
    (ps : List Piece) : Type 0 where
  pub stands : SumWindow z end ps
  pub reads : (t : ℚ) → int (pos 0) ≤ℚ t → t <ℚ end → IsPart f g (InPart from None until low) t (read ps t)
