-- The elements of operands have room, and so has what two of them make. Own choice.
use Rattle.std.specs.Prelude.{List}
use Rattle.rational.specs.Rational.{ℚ}
use Rattle.rational.specs.Extended.{Ext}
use Rattle.upp_curve.specs.declared.affine_segment.line.Piece.{Piece}
use Rattle.upp_curve.specs.declared.affine_segment.element.Element.{Element}
use Rattle.upp_curve.specs.declared.affine_segment.element.Joined.{Joined}
use Rattle.upp_curve.specs.affine_segment.MadeParts.{AreParts}
use Rattle.upp_limits.specs.Limits.{Sizes}
use Rattle.upp_normal.specs.Operand.{AreLimited, OperandPieces}
use Rattle.element_envelope.specs.PieceElements.{elements_of, Among}
use Rattle.element_envelope.specs.ElementRoom.{WindowEnd, OperandElement, SumJoined}

-- each element of an operand's pieces, the last gone on with up to a time of the window or for ever
abbrev pub ElementsStand : Type 0
ElementsStand =
    (z : Sizes) (end : ℚ) (ps : List Piece) (until : Ext) (e : Element) → OperandPieces z end ps → WindowEnd z end until
    → Among e (elements_of ps until) → OperandElement z end e

-- the parts of what two such elements make
abbrev pub JoinedStand : Type 0
JoinedStand =
    (z : Sizes) (end : ℚ) (a b : Element) (j : Joined) → AreLimited z end → OperandElement z end a
    → OperandElement z end b
    → AreParts a b j → SumJoined z end j
