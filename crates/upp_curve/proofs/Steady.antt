-- The rule of each tail, from the curve's steady time on.
use Rattle.std.specs.Prelude.{◌≡◌, ℕ, pos, Bool, true, false, List, [], ◌∷◌, Option, Some, None}
use Rattle.std.proofs.Common.{arith, sym, ap, ◌∙◌, refl, subst, inl, inr}
use Rattle.rational.specs.Rational.{ℚ, ◌+ℚ◌, ◌*ℚ◌, ◌/ℚ◌, ◌≤ℚ◌, ◌<ℚ◌, int, le_q}
use Rattle.rational.proofs.Linear.{with1, with2, with3, with5}
use Rattle.rational.proofs.Over.{le_q_out, le_q_in}
use Rattle.rational.proofs.Laws.{antisym, le_trans, le_lt_trans, le_or_lt, le_of_lt, mul_add, mul_comm, div_mul, mul_cancel}
use Rattle.rational.specs.Extended.{Ext, ◌+ₑ◌}
use Rattle.rational.specs.declared.Extended.TheVariants.{Fin, Inf}
use Rattle.upp_curve.specs.declared.affine_segment.line.Line.{Line}
use Rattle.upp_curve.specs.declared.affine_segment.line.Piece.{Piece}
use Rattle.upp_curve.specs.declared.curve.Tail.{Tail}
use Rattle.upp_curve.specs.declared.curve.Tail.TheVariants.{Periodic, Affine, Infinite}
use Rattle.upp_curve.specs.Curve.{SpecCurve, value_at, with_tail, repeated, cut}
use Rattle.upp_curve.specs.affine_segment.Reading.{read, piece_in, piece_value}
use Rattle.upp_curve.specs.affine_segment.Values.{line_value}
use Rattle.upp_curve.specs.Normal.{IsRaw, TailFits}
use Rattle.upp_curve.specs.affine_segment.Pieces.{Each}
use Rattle.upp_curve.specs.Steady.{last_of, last_line, same_ext, later_unless, steady_in, steady, slope_times, rise_in, rise_over, IsWholePeriods, Repeats}
use Rattle.rational.proofs.MinMax.{le_q_not}
use Rattle.rational.proofs.Whole.{not_zero}
use Rattle.upp_curve.proofs.affine_segment.PieceIn.{piece_in_go, piece_in_end}
use Rattle.upp_curve.proofs.Repeats.{repeated_rule, repeats_times}
use Rattle.upp_curve.proofs.affine_segment.ElementValues.{and_parts}

-- ---- the test of two values

pub same_out : (x y : Ext) → same_ext x y ≡ true → x ≡ y
unfolding same_ext
same_out Inf Inf e = refl
same_out Inf (Fin y) e = absurd (grind (arith, e))
same_out (Fin x) Inf e = absurd (grind (arith, e))
same_out (Fin x) (Fin y) e =
    let h = and_parts (le_q x y) (le_q y x) e in
    ap Fin (antisym (le_q_in x y h.0, le_q_in y x h.1))

-- ---- past every start the last piece is read
pub last_found : (p : Piece) (ps : List Piece) (t : ℚ) → Each (λ q. q.x ≤ℚ t) ps → piece_in p ps t ≡ last_of p ps
last_found p [] t h = piece_in_end p t
last_found p (q ∷ qs) t h = piece_in_go p q qs t h.0 ∙ last_found q qs t h.1

each_later_than : (ps : List Piece) (s t : ℚ) → s ≤ℚ t → Each (λ q. q.x ≤ℚ s) ps → Each (λ q. q.x ≤ℚ t) ps
each_later_than [] s t l h = tt
each_later_than (p ∷ ps) s t l h = (le_trans h.0 l, each_later_than ps s t l h.1)

pub last_start : (p : Piece) (ps : List Piece) (s : ℚ) → p.x ≤ℚ s → Each (λ q. q.x ≤ℚ s) ps → (last_of p ps).x ≤ℚ s
last_start p [] s h k = h
last_start p (q ∷ qs) s h k = last_start q qs s k.0 k.1

past_value : (p : Piece) (s t : ℚ) → p.x ≤ℚ s → s <ℚ t → piece_value p t ≡ line_value p.line t
unfolding piece_value
past_value p s t h l = rw (le_q_not t p.x (le_lt_trans h l)) refl

-- past the rank the last line goes on
pub read_past : (ps : List Piece) (rank t : ℚ) → Each (λ q. q.x ≤ℚ rank) ps → rank <ℚ t → read ps t ≡ line_value (last_line ps) t
unfolding read
read_past [] rank t h l = refl
read_past (p ∷ ps) rank t h l =
    ap (λ q. piece_value q t) (last_found p ps t (each_later_than ps rank t (le_of_lt l) h.1)) ∙ past_value (last_of p ps) rank t (last_start p ps rank h.0 h.1) l

pub cut_past : (f : ℚ → Ext) (rank t : ℚ) → rank <ℚ t → cut f rank t ≡ Inf
unfolding cut
cut_past f rank t l = rw (le_q_not t rank l) refl

cut_at : (f : ℚ → Ext) (rank : ℚ) → cut f rank rank ≡ f rank
unfolding cut
cut_at f rank = rw (le_q_out rank rank (with1 rank (λ c. omega (arith, c.le, c.lt, c.same)))) refl

-- a rule that holds past the rank, and at the rank where the test says so, holds from the steady time on
from_steady : (f g : ℚ → Ext) (rank : ℚ) (b : Bool) → (b ≡ true → f rank ≡ g rank) → ((t : ℚ) → rank <ℚ t → f t ≡ g t)
    → (t : ℚ) → later_unless b rank ≤ℚ t → f t ≡ g t
from_steady f g rank false at past t h = past t (with2 rank t (λ c. omega (arith, c.le, c.lt, c.same)))
from_steady f g rank true at past t h = elim (le_or_lt t rank) [
  | inl l ↦ let same : rank ≡ t = antisym (h, l) in subst (λ u. f u ≡ g u) same (at refl)
  | inr l ↦ past t l
]

pub line_rule : (l : Option Line) (t d : ℚ) → line_value l (t +ℚ d) ≡ line_value l t +ₑ Fin (slope_times l d)
line_rule None t d = refl
line_rule (Some l) t d =
    let e = mul_add l.slope t d in
    ap Fin (with5 l.icept (l.slope *ℚ t) (l.slope *ℚ d) (l.slope *ℚ (t +ℚ d)) d (λ c. omega (arith, c.le, c.lt, c.same)))

rule_from : (f g : ℚ → Ext) (s d c : ℚ) → int (pos 0) ≤ℚ d → ((t : ℚ) → s ≤ℚ t → f t ≡ g t) → ((t : ℚ) → g (t +ℚ d) ≡ g t +ₑ Fin c) → Repeats f s d c
rule_from f g s d c some same rule = record {
  rule = λ t h. same (t +ℚ d) (with3 s t d (λ c. omega (arith, c.le, c.lt, c.same))) ∙ rule t ∙ ap (λ v. v +ₑ Fin c) (sym (same t h));
}

quotient_whole : (n : ℕ) (p c : ℚ) → int (pos 0) <ℚ p → c *ℚ ((int (pos n) *ℚ p) /ℚ p) ≡ int (pos n) *ℚ c
quotient_whole n p c some =
    let e : (int (pos n) *ℚ p) /ℚ p ≡ int (pos n) = mul_cancel ((int (pos n) *ℚ p) /ℚ p) (int (pos n)) p (not_zero p some) (div_mul (int (pos n) *ℚ p) p (not_zero p some)) in
    ap (λ q. c *ℚ q) e ∙ mul_comm c (int (pos n))

steady_by : (ps : List Piece) (tail : Tail) (d : ℚ) → TailFits ps tail → IsWholePeriods tail d → int (pos 0) ≤ℚ d
    → Repeats (with_tail (read ps) tail) (steady_in ps tail) d (rise_in ps tail d)
steady_by ps (Periodic rank period rise) d fits whole some =
    let (n, e) = whole in
    let r = repeats_times (repeated (read ps) rank period rise) rank period rise n (le_of_lt fits.some) (repeated_rule (read ps) rank period rise fits.some) in
    let w = quotient_whole n period rise fits.some in
    subst (λ d. Repeats (repeated (read ps) rank period rise) rank d (rise *ℚ (d /ℚ period))) (sym e)
    (subst (λ c. Repeats (repeated (read ps) rank period rise) rank (int (pos n) *ℚ period) c) (sym w) r)
steady_by ps (Affine rank) d fits whole some =
    rule_from (read ps) (line_value (last_line ps)) _ d _ some
    (from_steady (read ps) (line_value (last_line ps)) rank (same_ext (read ps rank) (line_value (last_line ps) rank)) (same_out _ _) (λ t l. read_past ps rank t fits.starts l))
    (λ t. line_rule (last_line ps) t d)
steady_by ps (Infinite rank) d fits whole some =
    rule_from (cut (read ps) rank) (λ t. Inf) _ d _ some
    (from_steady (cut (read ps) rank) (λ t. Inf) rank (same_ext (read ps rank) Inf) (λ e. cut_at (read ps) rank ∙ same_out _ _ e) (λ t l. cut_past (read ps) rank t l))
    (λ t. refl)

pub steady_rule : (c : SpecCurve) (d : ℚ) → IsRaw c → IsWholePeriods c.tail d → int (pos 0) ≤ℚ d → Repeats (value_at c) (steady c) d (rise_over c d)
unfolding value_at steady rise_over
steady_rule c d raw whole some =
    let r = steady_by c.pieces c.tail d raw.tail whole some in
    record { rule = λ t h. r.rule t h }
