-- A curve, and its value at a time: pieces, and a tail that says how they go on past the rank.
-- (Bouillard, Boyer and Le Corronc: ultimately pseudo-periodic functions.)
use Rattle.std.specs.Prelude.{◌≡◌, pos, cond, List}
use Rattle.rational.specs.Rational.{ℚ, ◌-ℚ◌, ◌*ℚ◌, ◌≤ℚ◌, int, le_q}
use Rattle.rational.specs.Whole.{periods}
use Rattle.rational.specs.Extended.{Ext, ◌+ₑ◌}
use Rattle.rational.specs.declared.Extended.TheVariants.{Fin, Inf}
use Rattle.upp_curve.specs.declared.affine_segment.line.Piece.{Piece}
use Rattle.upp_curve.specs.declared.curve.Tail.{Tail}
use Rattle.upp_curve.specs.declared.curve.Tail.TheVariants.{Periodic, Affine, Infinite}
use Rattle.upp_curve.specs.affine_segment.Reading.{read}

-- what a contract sees of a curve
pub record SpecCurve : Type 0 where
  pub pieces : List Piece
  pub tail : Tail

-- f at the time that is left of t when as many whole periods are taken off as lie between the rank and t, and the rise
-- once for each of them; up to the rank it is f itself
unfoldable pub repeated : (ℚ → Ext) → ℚ → ℚ → ℚ → ℚ → Ext
repeated f rank period rise t =
    let n = int (pos (periods rank period t)) in
    f (t -ℚ n *ℚ period) +ₑ Fin (n *ℚ rise)

-- f up to the rank, the rank too, and then infinity
unfoldable pub cut : (ℚ → Ext) → ℚ → ℚ → Ext
cut f rank t = cond (le_q t rank) (f t) Inf

-- f with a tail: a periodic tail repeats f, an affine one goes on with it, an infinite one is infinity after its rank
abbrev pub with_tail : (ℚ → Ext) → Tail → ℚ → Ext
with_tail f (Periodic rank period rise) t = repeated f rank period rise t
with_tail f (Affine rank) t = f t
with_tail f (Infinite rank) t = cut f rank t

-- the value of a curve at a time
unfoldable pub value_at : SpecCurve → ℚ → Ext
value_at c t = with_tail (read c.pieces) c.tail t

-- the two have one value at each time from 0 on
abbrev pub HasSameValues : SpecCurve → SpecCurve → Type 0
HasSameValues c d = (t : ℚ) → int (pos 0) ≤ℚ t → value_at c t ≡ value_at d t
