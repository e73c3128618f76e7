-- The pieces of a curve that start before a time, its periods written out, and their number. Own choice.
use Rattle.std.specs.Prelude.{ℕ, zero, suc, ◌+◌, cond, List, [], ◌∷◌, ◌++◌, length, Option, Some, None, sum_by}
use Rattle.rational.specs.Rational.{ℚ, ◌+ℚ◌, ◌-ℚ◌, ◌*ℚ◌, ◌/ℚ◌, lt_q}
use Rattle.rational.specs.Whole.{periods}
use Rattle.rational.specs.Extended.{◌+ₑ◌}
use Rattle.rational.specs.declared.Extended.TheVariants.{Fin}
use Rattle.upp_curve.specs.declared.affine_segment.line.Line.{Line}
use Rattle.upp_curve.specs.declared.affine_segment.line.Piece.{Piece}
use Rattle.upp_curve.specs.declared.curve.Tail.{Tail}
use Rattle.upp_curve.specs.declared.curve.Tail.TheVariants.{Periodic, Affine, Infinite}
use Rattle.min_plus.specs.WholeUp.{whole_up}
use Rattle.upp_curve.specs.Curve.{SpecCurve}

-- ---- a copy of a piece, a whole number of periods later
abbrev pub line_later : ℚ → ℚ → Option Line → Option Line
line_later d c None = None
line_later d c (Some l) = Some record { icept = l.icept +ℚ c -ℚ l.slope *ℚ d; slope = l.slope }

-- a piece, d later and c higher
abbrev pub later : ℚ → ℚ → Piece → Piece
later d c p = record { x = p.x +ℚ d; at = p.at +ₑ Fin c; line = line_later d c p.line }

unfoldable pub each_later : ℚ → ℚ → List Piece → List Piece
each_later d c [] = []
each_later d c (p ∷ ps) = later d c p ∷ each_later d c ps

-- the pieces n times one after another, each time d later and c higher, the first time as they are
unfoldable pub copies : ℕ → ℚ → ℚ → List Piece → List Piece
copies zero d c ps = []
copies (suc n) d c ps = ps ++ each_later d c (copies n d c ps)

-- ---- cutting a list whose starts rise
-- the pieces that start before x
unfoldable pub upto : ℚ → List Piece → List Piece
upto x [] = []
upto x (p ∷ ps) = cond (lt_q p.x x) (p ∷ upto x ps) []

-- the pieces that start at x or later
unfoldable pub from : ℚ → List Piece → List Piece
from x [] = []
from x (p ∷ ps) = cond (lt_q p.x x) (from x ps) (p ∷ ps)

-- ---- the unrolled pieces
abbrev pub unrolled : List Piece → Tail → ℚ → List Piece
unrolled ps (Periodic rank period rise) end =
    upto end (upto rank ps ++ copies (suc (periods rank period end)) period rise (from rank ps))
unrolled ps (Affine rank) end = upto end ps
unrolled ps (Infinite rank) end = upto end ps

-- the pieces that start before `end`: those before the rank, and one copy per period of those from the rank on
unfoldable pub unroll : SpecCurve → ℚ → List Piece
unroll c end = unrolled c.pieces c.tail end

-- ---- their number, without unrolling
-- how many copies of p start before `end`
abbrev pub copies_below : ℚ → ℚ → Piece → ℕ
copies_below period end p = whole_up ((end -ℚ p.x) /ℚ period)

abbrev pub counted : List Piece → Tail → ℚ → ℕ
counted ps (Periodic rank period rise) end =
    length (upto end (upto rank ps)) + sum_by (copies_below period end) (from rank ps)
counted ps (Affine rank) end = length (upto end ps)
counted ps (Infinite rank) end = length (upto end ps)

-- how many unrolled pieces start before `end`
unfoldable pub count : SpecCurve → ℚ → ℕ
count c end = counted c.pieces c.tail end
