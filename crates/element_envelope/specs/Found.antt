-- What pairs of elements make, and the convolutions of windows: there are such pieces, whether or not there is memory for them.
-- Own choice.
use Rattle.std.specs.Prelude.{List}
use Rattle.rational.specs.Rational.{ℚ}
use Rattle.upp_curve.specs.declared.affine_segment.line.Piece.{Piece}
use Rattle.upp_curve.specs.declared.affine_segment.element.Element.{Element}
use Rattle.upp_curve.specs.declared.affine_segment.element.Joined.{Joined}
use Rattle.upp_curve.specs.affine_segment.Elements.{IsProper, IsConvolved}
use Rattle.upp_curve.specs.affine_segment.MadeParts.{AreParts}
use Rattle.element_envelope.specs.EnvelopeWindows.{EnvelopeRoom, IsEnvelopeWindow}
use Rattle.element_envelope.specs.ConvolutionWindows.{OperandWindows, IsConvolutionWindow, WindowsFrom, IsConvolutionFrom}

-- what two elements make
abbrev pub PairsExist : Type 0
PairsExist = (a b : Element) → IsProper a → IsProper b → (j : Joined) × IsConvolved a b j × AreParts a b j

-- the least of all pairs of two lists
abbrev pub EnvelopesExist : Type 0
EnvelopesExist = (end : ℚ) (xs ys : List Element) → EnvelopeRoom end xs ys → (ps : List Piece) × IsEnvelopeWindow end xs ys ps

-- the convolution of two windows that are made of operands', from a time on
abbrev pub ConvolutionsFromExist : Type 0
ConvolutionsFromExist = (from end : ℚ) (f g : List Piece) → WindowsFrom from end f g → (ps : List Piece) × IsConvolutionFrom f g from end ps

-- the convolution of two operands' windows
abbrev pub ConvolutionWindowsExist : Type 0
ConvolutionWindowsExist = (end : ℚ) (f g : List Piece) → OperandWindows end f g → (ps : List Piece) × IsConvolutionWindow f g end ps
