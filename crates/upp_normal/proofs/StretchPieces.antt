-- The piece at a time and where the next one starts: up to there it stays the piece.
use Rattle.std.specs.Prelude.{◌≡◌, cond, pos, List, [], ◌∷◌, Option, Some, None}
use Rattle.std.specs.List.{AllByRecursion}
use Rattle.std.proofs.Common.{sym, ap, ◌∙◌, subst, inl, inr}
use Rattle.rational.specs.Rational.{ℚ, ◌≤ℚ◌, ◌<ℚ◌, int}
use Rattle.rational.specs.declared.Extended.TheVariants.{Inf}
use Rattle.rational.proofs.Laws.{le_or_lt, le_refl, le_trans, le_of_lt, lt_le_trans, le_lt_trans, not_le_of_lt}
use Rattle.rational.proofs.Over.{le_q_out}
use Rattle.rational.proofs.MinMax.{le_q_not}
use Rattle.upp_curve.specs.declared.affine_segment.line.Piece.{Piece}
use Rattle.upp_curve.specs.affine_segment.Values.{line_value}
use Rattle.upp_curve.specs.declared.curve.Tail.{Tail}
use Rattle.upp_curve.specs.affine_segment.Reading.{piece_in, piece_value, read, next_in, line_in}
use Rattle.upp_curve.specs.Curve.{cut}
use Rattle.upp_curve.specs.affine_segment.Pieces.{Each, HasStart, RisesFrom, StartsAtZero}
use Rattle.upp_curve.specs.Normal.{FitsRank}
use Rattle.upp_curve.specs.Steady.{last_line}
use Rattle.upp_limits.specs.Spans.{Span, spans, end_of, piece_read}
use Rattle.upp_normal.specs.Ahead.{IsBeforeNext, AtNext}
use Rattle.upp_curve.proofs.affine_segment.NextPiece.{next_go, next_stop, next_none}
use Rattle.upp_curve.proofs.affine_segment.PieceIn.{piece_in_stop, piece_in_go, piece_in_end, value_past}
use Rattle.upp_curve.proofs.Normal.{past_start}
use Rattle.upp_curve.proofs.Steady.{read_past}
use Rattle.upp_normal.proofs.NormaliseRoomy.{found_early}

-- ---- the next start is past the time, and what holds of all starts holds of it
pub next_past : (ps : List Piece) (t : ℚ) (after : Option ℚ) → IsBeforeNext t after → IsBeforeNext t (next_in ps t after)
next_past [] t after h = subst (IsBeforeNext t) (sym (next_none t after)) h
next_past (p ∷ ps) t after h = elim (le_or_lt p.x t) [
  | inl l ↦ subst (IsBeforeNext t) (sym (next_go p ps t after l)) (next_past ps t after h)
  | inr l ↦ subst (IsBeforeNext t) (sym (next_stop p ps t after l)) l
]

pub next_all : (P : ℚ → Type 0) (ps : List Piece) (t : ℚ) (after : Option ℚ) → Each (λ p. P p.x) ps → AtNext P after → AtNext P (next_in ps t after)
next_all P [] t after h k = subst (AtNext P) (sym (next_none t after)) k
next_all P (p ∷ ps) t after h k = elim (le_or_lt p.x t) [
  | inl l ↦ subst (AtNext P) (sym (next_go p ps t after l)) (next_all P ps t after h.1 k)
  | inr l ↦ subst (AtNext P) (sym (next_stop p ps t after l)) h.0
]

-- ---- up to the next start the piece stays
pub same_piece : (p : Piece) (ps : List Piece) (t u : ℚ) (after : Option ℚ) → t ≤ℚ u → IsBeforeNext u (next_in ps t after) → piece_in p ps u ≡ piece_in p ps t
same_piece p [] t u after h k = piece_in_end p u ∙ sym (piece_in_end p t)
same_piece p (q ∷ qs) t u after h k = elim (le_or_lt q.x t) [
  | inl l ↦ piece_in_go p q qs u (le_trans l h) ∙ same_piece q qs t u after h (subst (IsBeforeNext u) (next_go q qs t after l) k) ∙ sym (piece_in_go p q qs t l)
  | inr l ↦ piece_in_stop p q qs u (subst (IsBeforeNext u) (next_stop q qs t after l) k) ∙ sym (piece_in_stop p q qs t l)
]

-- and no piece starts before the first
pub found_late : (p : Piece) (ps : List Piece) (t : ℚ) → RisesFrom p.x ps → p.x ≤ℚ (piece_in p ps t).x
found_late p [] t r = subst (λ q. p.x ≤ℚ q.x) (sym (piece_in_end p t)) (le_refl p.x)
found_late p (q ∷ qs) t r = elim (le_or_lt q.x t) [
  | inl l ↦ subst (λ z. p.x ≤ℚ z.x) (sym (piece_in_go p q qs t l)) (le_trans (le_of_lt r.0) (found_late q qs t r.1))
  | inr l ↦ subst (λ z. p.x ≤ℚ z.x) (sym (piece_in_stop p q qs t l)) (le_refl p.x)
]

-- the pieces rise, so that a piece at a start or after it starts there or later
pub found_from : (p : Piece) (ps : List Piece) (r t : ℚ) → RisesFrom p.x ps → HasStart r (p ∷ ps) → r ≤ℚ t → r ≤ℚ (piece_in p ps t).x
found_from p ps r t rises (inl e) h = subst (λ x. x ≤ℚ (piece_in p ps t).x) e (found_late p ps t rises)
found_from p [] r t rises (inr k) h = absurd k
found_from p (q ∷ qs) r t rises (inr k) h = elim (le_or_lt q.x t) [
  | inl l ↦ subst (λ z. r ≤ℚ z.x) (sym (piece_in_go p q qs t l)) (found_from q qs r t rises.1 k h)
  | inr l ↦ absurd (not_le_of_lt (lt_le_trans l (at_least q qs r rises.1 k)) h)
]
  where
    at_least : (q : Piece) (qs : List Piece) (r : ℚ) → RisesFrom q.x qs → HasStart r (q ∷ qs) → q.x ≤ℚ r
    at_least q qs r h (inl e) = subst (λ x. q.x ≤ℚ x) e (le_refl q.x)
    at_least q qs r h (inr k) = le_of_lt (past_start q.x r qs h k)

-- ---- values
-- after t, up to the next start, the line of the piece at t is read
pub reads_on : (ps : List Piece) (t u : ℚ) (after : Option ℚ) → StartsAtZero ps → int (pos 0) ≤ℚ t → t <ℚ u → IsBeforeNext u (next_in ps t after) → read ps u ≡ line_value (line_in ps t) u
unfolding read
reads_on [] t u after h some l k = absurd h
reads_on (p ∷ ps) t u after h some l k =
    let first : p.x ≤ℚ t = subst (λ x. x ≤ℚ t) (sym h.0) some in
    let rest : IsBeforeNext u (next_in ps t after) = subst (IsBeforeNext u) (next_go p ps t after first) k in
    ap (λ q. piece_value q u) (same_piece p ps t u after (le_of_lt l) rest) ∙ value_past (piece_in p ps t) u (le_lt_trans (found_early p ps t first) l)

-- an infinite tail whose last piece has no line is read from the pieces alone
pub cut_plain : (ps : List Piece) (rank u : ℚ) → FitsRank ps rank → last_line ps ≡ None → cut (read ps) rank u ≡ read ps u
unfolding cut
cut_plain ps rank u fits none = elim (le_or_lt u rank) [
  | inl l ↦ ap (λ b. cond b (read ps u) Inf) (le_q_out u rank l)
  | inr l ↦ ap (λ b. cond b (read ps u) Inf) (le_q_not u rank l) ∙ sym (read_past ps rank u fits.starts l ∙ ap (λ k. line_value k u) none)
]

-- ---- the piece at a time among the spans
pub span_in : (P : Span → Type 0) (tail : Tail) (p : Piece) (ps : List Piece) (t : ℚ) → AllByRecursion P (spans tail (p ∷ ps))
    → (next : Option ℚ) × P record { piece = piece_read tail (piece_in p ps t); next = next }
unfolding spans
span_in P tail p [] t h = (end_of tail, subst (λ q. P record { piece = piece_read tail q; next = end_of tail }) (sym (piece_in_end p t)) h.0)
span_in P tail p (q ∷ qs) t h = elim (le_or_lt q.x t) [
  | inl l ↦ let (next, k) = span_in P tail q qs t h.1 in (next, subst (λ r. P record { piece = piece_read tail r; next = next }) (sym (piece_in_go p q qs t l)) k)
  | inr l ↦ (Some q.x, subst (λ r. P record { piece = piece_read tail r; next = Some q.x }) (sym (piece_in_stop p q qs t l)) h.0)
]

-- a piece at the rank or after it is the last, whose line is none
pub line_at_rank : (p : Piece) (ps : List Piece) (rank t : ℚ) → RisesFrom p.x ps → Each (λ q. q.x ≤ℚ rank) ps → last_line (p ∷ ps) ≡ None → rank ≤ℚ (piece_in p ps t).x
    → (piece_in p ps t).line ≡ None
line_at_rank p [] rank t r h none l = ap (λ q. q.line) (piece_in_end p t) ∙ none
line_at_rank p (q ∷ qs) rank t r h none l = elim (le_or_lt q.x t) [
  | inl k ↦ ap (λ z. z.line) (piece_in_go p q qs t k) ∙ line_at_rank q qs rank t r.1 h.1 none (subst (λ z. rank ≤ℚ z.x) (piece_in_go p q qs t k) l)
  | inr k ↦ absurd (not_le_of_lt (lt_le_trans r.0 h.0) (subst (λ z. rank ≤ℚ z.x) (piece_in_stop p q qs t k) l))
]
