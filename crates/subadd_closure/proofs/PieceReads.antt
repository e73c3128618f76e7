-- How a list of pieces is read, piece by piece.
use Rattle.std.specs.Prelude.{◌≡◌, List, ◌∷◌}
use Rattle.std.proofs.Common.{refl, ap, ◌∙◌, inl, inr}
use Rattle.rational.specs.Rational.{ℚ, ◌≤ℚ◌, ◌<ℚ◌}
use Rattle.rational.specs.declared.Extended.TheVariants.{Fin, Inf}
use Rattle.rational.proofs.Laws.{le_trans, le_lt_trans, lt_le_trans, le_or_lt}
use Rattle.rational.proofs.Over.{lt_q_out}
use Rattle.rational.proofs.MinMax.{lt_q_not}
use Rattle.upp_curve.specs.declared.affine_segment.line.Piece.{Piece}
use Rattle.upp_curve.specs.declared.affine_segment.line.Line.{Line}
use Rattle.upp_curve.specs.affine_segment.Values.{line_at}
use Rattle.min_plus.specs.Functions.{zero_q}
use Rattle.upp_curve.specs.affine_segment.Reading.{piece_value, read, nothing_at}
use Rattle.upp_curve.proofs.affine_segment.PieceIn.{read_go, read_stop, value_by, value_past, nothing_read}
use Rattle.subadd_closure.specs.ElementCurves.{opening, after_gap, from_zero}

-- ---- gaps
pub opening_here : (x : ℚ) (l : Line) (t : ℚ) → t ≤ℚ x → piece_value (opening x l) t ≡ Inf
opening_here x l t h = value_by (opening x l) t h

pub opening_past : (x : ℚ) (l : Line) (t : ℚ) → x <ℚ t → piece_value (opening x l) t ≡ Fin (line_at l t)
opening_past x l t h = value_past (opening x l) t h

pub gap_kept : (x y : ℚ) (ps : List Piece) → x <ℚ y → after_gap x y ps ≡ nothing_at x ∷ ps
unfolding after_gap
gap_kept x y ps h = rw (lt_q_out x y h) refl

pub gap_left : (x y : ℚ) (ps : List Piece) → y ≤ℚ x → after_gap x y ps ≡ ps
unfolding after_gap
gap_left x y ps h = rw (lt_q_not x y h) refl

pub late_start : (a : ℚ) (ps : List Piece) → zero_q <ℚ a → from_zero a ps ≡ nothing_at zero_q ∷ ps
unfolding from_zero
late_start a ps h = rw (lt_q_out zero_q a h) refl

pub early_start : (a : ℚ) (ps : List Piece) → a ≤ℚ zero_q → from_zero a ps ≡ ps
unfolding from_zero
early_start a ps h = rw (lt_q_not zero_q a h) refl

-- past the end of a piece, over a gap up to the next
pub over_gap : (p : Piece) (x : ℚ) (q : Piece) (qs : List Piece) (t : ℚ) → q.x ≤ℚ t → x ≤ℚ q.x
    → read (p ∷ after_gap x q.x (q ∷ qs)) t ≡ read (q ∷ qs) t
over_gap p x q qs t h k = elim (le_or_lt q.x x) [
  | inl l ↦ ap (λ z. read (p ∷ z) t) (gap_left x q.x (q ∷ qs) l) ∙ read_go p q qs t h
  | inr l ↦ ap (λ z. read (p ∷ z) t) (gap_kept x q.x (q ∷ qs) l) ∙ read_go p (nothing_at x) (q ∷ qs) t (le_trans k h)
      ∙ read_go (nothing_at x) q qs t h
]

-- before the gap
pub before_gap : (p : Piece) (x : ℚ) (q : Piece) (qs : List Piece) (t : ℚ) → t <ℚ x → x ≤ℚ q.x
    → read (p ∷ after_gap x q.x (q ∷ qs)) t ≡ piece_value p t
before_gap p x q qs t h k = elim (le_or_lt q.x x) [
  | inl l ↦ ap (λ z. read (p ∷ z) t) (gap_left x q.x (q ∷ qs) l) ∙ read_stop p q qs t (lt_le_trans h k)
  | inr l ↦ ap (λ z. read (p ∷ z) t) (gap_kept x q.x (q ∷ qs) l) ∙ read_stop p (nothing_at x) (q ∷ qs) t h
]

-- in the gap, from its start on
pub in_gap : (p : Piece) (x : ℚ) (q : Piece) (qs : List Piece) (t : ℚ) → x ≤ℚ t → t <ℚ q.x
    → read (p ∷ after_gap x q.x (q ∷ qs)) t ≡ Inf
in_gap p x q qs t h k =
    ap (λ z. read (p ∷ z) t) (gap_kept x q.x (q ∷ qs) (le_lt_trans h k)) ∙ read_go p (nothing_at x) (q ∷ qs) t h
    ∙ read_stop (nothing_at x) q qs t k ∙ nothing_read x t
