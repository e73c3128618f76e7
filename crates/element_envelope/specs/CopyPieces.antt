-- A copy of some of a window's pieces: where it starts, and which pieces are over before a time. Own choice.
use Rattle.std.specs.Prelude.{ℕ, ◌-◌, List, [], ◌∷◌, length}
use Rattle.rational.specs.Rational.{ℚ, ◌+ℚ◌}
use Rattle.upp_curve.specs.declared.affine_segment.line.Piece.{Piece}
use Rattle.upp_curve.specs.Unrolled.{upto}

-- where the first of some pieces starts when it is moved x later; x where there is none
abbrev pub copy_start : ℚ → List Piece → ℚ
copy_start x [] = x
copy_start x (p ∷ ps) = p.x +ℚ x

-- how many pieces are before the last that starts before t
abbrev pub skipped : ℚ → List Piece → ℕ
skipped t ps = length (upto t ps) - 1
