-- A curve times a number, piece by piece: its values, and that it is a curve in some form.
use Rattle.std.specs.Prelude.{◌≡◌, pos, Bool, true, false, cond, List, [], ◌∷◌, map, Option, Some, None}
use Rattle.std.proofs.Common.{sym, ap, ap₂, ◌∙◌, refl, inl, inr}
use Rattle.rational.specs.Rational.{ℚ, ◌+ℚ◌, ◌-ℚ◌, ◌*ℚ◌, ◌≤ℚ◌, ◌<ℚ◌, int, le_q}
use Rattle.rational.specs.Whole.{periods}
use Rattle.rational.specs.Extended.{Ext, ◌+ₑ◌}
use Rattle.rational.specs.declared.Extended.TheVariants.{Fin, Inf}
use Rattle.rational.proofs.Laws.{le_or_lt, mul_add, mul_assoc, mul_comm}
use Rattle.upp_curve.specs.declared.affine_segment.line.Line.{Line}
use Rattle.upp_curve.specs.declared.affine_segment.line.Piece.{Piece}
use Rattle.upp_curve.specs.affine_segment.Values.{line_value}
use Rattle.upp_curve.specs.declared.curve.Tail.{Tail}
use Rattle.upp_curve.specs.declared.curve.Tail.TheVariants.{Periodic, Affine, Infinite}
use Rattle.upp_curve.specs.affine_segment.Reading.{read, piece_in, piece_value}
use Rattle.upp_curve.specs.Curve.{SpecCurve, repeated, cut, with_tail, value_at}
use Rattle.upp_curve.specs.affine_segment.Pieces.{Each, RisesFrom}
use Rattle.upp_curve.specs.Normal.{TailFits, IsRaw}
use Rattle.min_plus.specs.Pointwise.{scaled}
use Rattle.upp_limits.specs.Gauges.{scaled_line, scaled_piece, scaled_tail, scaled_curve}
use Rattle.upp_curve.proofs.affine_segment.PieceIn.{piece_in_stop, piece_in_go, piece_in_end}
use Rattle.upp_limits.proofs.ScaledCurves.{starts_scaled}

-- ---- values
scaled_value : (q t : ℚ) (l : Option Line) → line_value (scaled_line q l) t ≡ scaled q (line_value l t)
scaled_value q t None = refl
scaled_value q t (Some l) = ap Fin (ap (λ x. q *ℚ l.icept +ℚ x) (mul_assoc q l.slope t) ∙ sym (mul_add q l.icept (l.slope *ℚ t)))

choose : (q : ℚ) (b : Bool) (v w : Ext) → cond b (scaled q v) (scaled q w) ≡ scaled q (cond b v w)
choose q true v w = refl
choose q false v w = refl

piece_scaled : (q t : ℚ) (p : Piece) → piece_value (scaled_piece q p) t ≡ scaled q (piece_value p t)
unfolding piece_value
piece_scaled q t p = ap (λ (v : Ext). cond (le_q t p.x) (scaled q p.at) v) (scaled_value q t p.line) ∙ choose q (le_q t p.x) p.at (line_value p.line t)

found_scaled : (q t : ℚ) (p : Piece) (ps : List Piece) → piece_in (scaled_piece q p) (map (scaled_piece q) ps) t ≡ scaled_piece q (piece_in p ps t)
found_scaled q t p [] = piece_in_end (scaled_piece q p) t ∙ ap (scaled_piece q) (sym (piece_in_end p t))
found_scaled q t p (r ∷ rs) = elim (le_or_lt r.x t) [
  | inl l ↦ piece_in_go (scaled_piece q p) (scaled_piece q r) (map (scaled_piece q) rs) t l ∙ found_scaled q t r rs ∙ ap (scaled_piece q) (sym (piece_in_go p r rs t l))
  | inr l ↦ piece_in_stop (scaled_piece q p) (scaled_piece q r) (map (scaled_piece q) rs) t l ∙ ap (scaled_piece q) (sym (piece_in_stop p r rs t l))
]

read_scaled : (q t : ℚ) (ps : List Piece) → read (map (scaled_piece q) ps) t ≡ scaled q (read ps t)
unfolding read
read_scaled q t [] = refl
read_scaled q t (p ∷ ps) = ap (λ r. piece_value r t) (found_scaled q t p ps) ∙ piece_scaled q t (piece_in p ps t)

risen : (q c : ℚ) (v : Ext) → scaled q v +ₑ Fin (q *ℚ c) ≡ scaled q (v +ₑ Fin c)
risen q c Inf = refl
risen q c (Fin v) = ap Fin (sym (mul_add q v c))

swap : (n q c : ℚ) → n *ℚ (q *ℚ c) ≡ q *ℚ (n *ℚ c)
swap n q c = sym (mul_assoc n q c) ∙ ap (λ x. x *ℚ c) (mul_comm n q) ∙ mul_assoc q n c

tail_scaled : (q t : ℚ) (ps : List Piece) (tail : Tail) → with_tail (read (map (scaled_piece q) ps)) (scaled_tail q tail) t ≡ scaled q (with_tail (read ps) tail t)
unfolding repeated cut
tail_scaled q t ps (Periodic rank period rise) =
    let n = int (pos (periods rank period t)) in
    ap₂ (λ (v : Ext) (c : ℚ). v +ₑ Fin c) (read_scaled q (t -ℚ n *ℚ period) ps) (swap n q rise) ∙ risen q (n *ℚ rise) (read ps (t -ℚ n *ℚ period))
tail_scaled q t ps (Affine rank) = read_scaled q t ps
tail_scaled q t ps (Infinite rank) = ap (λ (v : Ext). cond (le_q t rank) v Inf) (read_scaled q t ps) ∙ choose q (le_q t rank) (read ps t) Inf

pub curve_scaled : (q t : ℚ) (c : SpecCurve) → value_at (scaled_curve q c) t ≡ scaled q (value_at c t)
unfolding value_at
curve_scaled q t c = tail_scaled q t c.pieces c.tail

-- ---- a curve in some form
pub each_start : (P : ℚ → Type 0) (q : ℚ) (ps : List Piece) → Each (λ p. P p.x) ps → Each (λ p. P p.x) (map (scaled_piece q) ps)
each_start P q [] h = tt
each_start P q (p ∷ ps) h = (h.0, each_start P q ps h.1)

rises_scaled : (q x : ℚ) (ps : List Piece) → RisesFrom x ps → RisesFrom x (map (scaled_piece q) ps)
rises_scaled q x [] h = tt
rises_scaled q x (p ∷ ps) h = (h.0, rises_scaled q p.x ps h.1)

fits_scaled : (q : ℚ) (ps : List Piece) (tail : Tail) → TailFits ps tail → TailFits (map (scaled_piece q) ps) (scaled_tail q tail)
fits_scaled q ps (Periodic rank period rise) h = record { nonneg = h.nonneg; some = h.some; starts = each_start (λ x. x <ℚ rank +ℚ period) q ps h.starts }
fits_scaled q ps (Affine rank) h = record { nonneg = h.nonneg; starts = each_start (λ x. x ≤ℚ rank) q ps h.starts }
fits_scaled q ps (Infinite rank) h = record { nonneg = h.nonneg; starts = each_start (λ x. x ≤ℚ rank) q ps h.starts }

pub raw_scaled : (q : ℚ) (c : SpecCurve) → IsRaw c → IsRaw (scaled_curve q c)
raw_scaled q c h = record { starts = starts_scaled q c.pieces h.starts; tail = fits_scaled q c.pieces c.tail h.tail }
