-- The lower of two windows of what elements make. Own choice.
use Rattle.std.specs.Prelude.{List}
use Rattle.rational.specs.Rational.{ℚ}
use Rattle.upp_curve.specs.declared.affine_segment.line.Piece.{Piece}
use Rattle.upp_limits.specs.Limits.{Sizes}
use Rattle.upp_normal.specs.Operand.{AreLimited}
use Rattle.curve_call.specs.Stretches.{CutsFit}
use Rattle.curve_call.specs.Lower.{LowerFits, IsLowerOf}
use Rattle.element_envelope.specs.SumWindows.{SumWindow}

-- no step that cuts two of them is too wide
abbrev pub SumCutsFit : Type 0
SumCutsFit = (z : Sizes) (end : ℚ) (f g : List Piece) → AreLimited z end → SumWindow z end f → SumWindow z end g
    → CutsFit f g

-- nor is any step of their lower
abbrev pub SumLowerFits : Type 0
SumLowerFits = (z : Sizes) (end : ℚ) (f g : List Piece) → AreLimited z end → SumWindow z end f → SumWindow z end g
    → LowerFits end f g

-- which is one of them
abbrev pub SumLowerIsOne : Type 0
SumLowerIsOne =
    (z : Sizes) (end : ℚ) (f g ps : List Piece) → AreLimited z end → SumWindow z end f → SumWindow z end g
    → IsLowerOf f g end ps
    → SumWindow z end ps
