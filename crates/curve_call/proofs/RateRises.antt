-- By how much a curve rises over a period: its rate times the period, and a number of known size where the curve is finite somewhere.
use Rattle.std.specs.Prelude.{◌≡◌, ◌≢◌, ℕ, zero, suc, pos, Bool, true, false, cond, List, Option, Some, None}
use Rattle.std.proofs.Common.{arith, sym, ap, ◌∙◌, refl, subst, inl, inr}
use Rattle.rational.specs.Rational.{ℚ, ◌+ℚ◌, ◌*ℚ◌, ◌/ℚ◌, ◌≤ℚ◌, ◌<ℚ◌, int, inv_ℚ}
use Rattle.rational.specs.declared.Extended.TheVariants.{Fin, Inf}
use Rattle.rational.proofs.Linear.{with1, with2, with3, with5}
use Rattle.rational.proofs.Laws.{le_or_lt, le_refl, le_trans, le_of_lt, antisym, mul_assoc, mul_comm, mul_nonneg}
use Rattle.rational.proofs.Integers.{nat_nonneg}
use Rattle.rational.proofs.Whole.{one_more_times}
use Rattle.rational.proofs.ExtendedOrder.{fin_same, same_le_ext}
use Rattle.rational.proofs.Over.{le_q_out}
use Rattle.upp_curve.specs.declared.affine_segment.line.Line.{Line}
use Rattle.upp_curve.specs.declared.affine_segment.line.Piece.{Piece}
use Rattle.upp_curve.specs.declared.curve.Tail.{Tail}
use Rattle.upp_curve.specs.declared.curve.Tail.TheVariants.{Periodic, Affine, Infinite}
use Rattle.upp_curve.specs.affine_segment.Reading.{read}
use Rattle.upp_curve.specs.Curve.{SpecCurve, value_at, with_tail, cut}
use Rattle.upp_curve.specs.Curves.{IsCurve}
use Rattle.upp_curve.specs.Normal.{TailFits, TailNormal}
use Rattle.upp_curve.specs.Steady.{rank_of, last_line, same_ext, later_unless, steady_in, steady, slope_times, rise_in, rise_over, IsWholePeriods, slope_of, rate_in, rate}
use Rattle.upp_limits.specs.Limits.{Sizes}
use Rattle.upp_normal.specs.Operand.{AreLimited}
use Rattle.upp_normal.specs.Ahead.{IsOverBy, HasWindow}
use Rattle.upp_curve.proofs.Steady.{same_out, cut_past}
use Rattle.curve_call.specs.Compared.{RepeatsIn}
use Rattle.upp_curve.proofs.SteadyTimes.{rank_early, rank_nonneg}

-- ---- the rate
over_period : (rise period d : ℚ) → (rise /ℚ period) *ℚ d ≡ rise *ℚ (d /ℚ period)
unfolding ◌/ℚ◌
over_period rise period d = mul_assoc rise (inv_ℚ period) d ∙ ap (λ y. rise *ℚ y) (mul_comm (inv_ℚ period) d)

pub rate_rise : (c : SpecCurve) (d r : ℚ) → rate c ≡ Fin r → r *ℚ d ≡ rise_over c d
unfolding rate rise_over
rate_rise c d r e = by_tail c.pieces c.tail e
  where
    by_line : (l : Option Line) → slope_of l ≡ Fin r → r *ℚ d ≡ slope_times l d
    by_line None e = absurd (same_le_ext e)
    by_line (Some l) e = ap (λ s. s *ℚ d) (sym (fin_same e))

    by_tail : (ps : List Piece) (tail : Tail) → rate_in ps tail ≡ Fin r → r *ℚ d ≡ rise_in ps tail d
    by_tail ps (Periodic rank period rise) e = ap (λ s. s *ℚ d) (sym (fin_same e)) ∙ over_period rise period d
    by_tail ps (Affine rank) e = by_line (last_line ps) e
    by_tail ps (Infinite rank) e = absurd (same_le_ext e)

pub rate_none : (c : SpecCurve) (d : ℚ) → rate c ≡ Inf → int (pos 0) ≡ rise_over c d
unfolding rate rise_over
rate_none c d e = by_tail c.pieces c.tail e
  where
    by_line : (l : Option Line) → slope_of l ≡ Inf → int (pos 0) ≡ slope_times l d
    by_line None e = refl
    by_line (Some l) e = absurd (same_le_ext (sym e))

    by_tail : (ps : List Piece) (tail : Tail) → rate_in ps tail ≡ Inf → int (pos 0) ≡ rise_in ps tail d
    by_tail ps (Periodic rank period rise) e = absurd (same_le_ext (sym e))
    by_tail ps (Affine rank) e = by_line (last_line ps) e
    by_tail ps (Infinite rank) e = refl

-- ---- a curve of infinite rate is infinite from its steady time on
cut_at_rank : (ps : List Piece) (rank t : ℚ) → t ≡ rank → read ps rank ≡ Inf → cut (read ps) rank t ≡ Inf
unfolding cut
cut_at_rank ps rank t e k = ap (λ b. cond b (read ps t) Inf) (le_q_out t rank (subst (λ u. u ≤ℚ rank) (sym e) (le_refl rank))) ∙ ap (read ps) e ∙ k

infinite_late : (ps : List Piece) (rank t : ℚ) → later_unless (same_ext (read ps rank) Inf) rank ≤ℚ t → cut (read ps) rank t ≡ Inf
infinite_late ps rank t h = elim (le_or_lt t rank) [ inl l ↦ by_test (same_ext (read ps rank) Inf) refl h l | inr l ↦ cut_past (read ps) rank t l ]
  where
    by_test : (b : Bool) → same_ext (read ps rank) Inf ≡ b → later_unless b rank ≤ℚ t → t ≤ℚ rank → cut (read ps) rank t ≡ Inf
    by_test true e h l = cut_at_rank ps rank t (antisym (l, h)) (same_out (read ps rank) Inf e)
    by_test false e h l = absurd (with2 rank t (λ c. omega (arith, c.le, c.lt, c.same)))

pub infinite_value : (c : SpecCurve) (t : ℚ) → IsCurve c → rate c ≡ Inf → steady c ≤ℚ t → value_at c t ≡ Inf
unfolding value_at rate steady
infinite_value c t curve e h = by_tail c.pieces c.tail curve.normal.tail e h
  where
    by_line : (l : Option Line) → l ≢ None → slope_of l ≡ Inf → ⊥
    by_line None n e = n refl
    by_line (Some l) n e = same_le_ext (sym e)

    by_tail : (ps : List Piece) (tail : Tail) → TailNormal ps tail (value_at c) → rate_in ps tail ≡ Inf → steady_in ps tail ≤ℚ t → with_tail (read ps) tail t ≡ Inf
    by_tail ps (Periodic rank period rise) n e h = absurd (same_le_ext (sym e))
    by_tail ps (Affine rank) n e h = absurd (by_line (last_line ps) n e)
    by_tail ps (Infinite rank) n e h = infinite_late ps rank t h

-- ---- the window

-- a positive whole number of periods is one or more
pub some_periods : (n : ℕ) (d period : ℚ) → d ≡ int (pos n) *ℚ period → int (pos 0) <ℚ d → (m : ℕ) × (n ≡ suc m)
some_periods zero d period e h =
    let z : int (pos 0) *ℚ period ≡ int (pos 0) = with1 period (λ c. omega (arith, c.le, c.lt, c.same)) in
    absurd (let y = int (pos 0) *ℚ period in with2 d y (λ c. omega (arith, c.le, c.lt, c.same)))
some_periods (suc m) d period e h = (m, refl)

over_by : (from d : ℚ) (ps : List Piece) (tail : Tail) → TailFits ps tail → IsWholePeriods tail d → int (pos 0) <ℚ d → rank_of tail ≤ℚ from → IsOverBy (from +ℚ d) tail
over_by from d ps (Periodic rank period rise) fits whole some h =
    let (n, e) = whole in
    let (m, f) = some_periods n d period e some in
    let g : d ≡ int (pos m) *ℚ period +ℚ period = e ∙ ap (λ k. int (pos k) *ℚ period) f ∙ one_more_times m period in
    let y = int (pos m) *ℚ period in
    let low : int (pos 0) ≤ℚ y = mul_nonneg (nat_nonneg m) (le_of_lt fits.some) in
    with5 from d rank period y (λ c. omega (arith, c.le, c.lt, c.same))
over_by from d ps (Affine rank) fits whole some h = with3 from d rank (λ c. omega (arith, c.le, c.lt, c.same))
over_by from d ps (Infinite rank) fits whole some h = with3 from d rank (λ c. omega (arith, c.le, c.lt, c.same))

pub has_window : (z : Sizes) (from d : ℚ) (c : SpecCurve) → IsCurve c → AreLimited z (from +ℚ d) → int (pos 0) <ℚ d → RepeatsIn z from d c → HasWindow z (from +ℚ d) c
has_window z from d c curve A some R = record {
  curve = curve;
  limited = A;
  stands = R.stands;
  over = over_by from d c.pieces c.tail curve.normal.raw.tail R.periods some (le_trans (rank_early c) R.steady_by);
}

pub from_low : (z : Sizes) (from d : ℚ) (c : SpecCurve) → IsCurve c → RepeatsIn z from d c → int (pos 0) ≤ℚ from
from_low z from d c curve R = le_trans (rank_nonneg c.pieces c.tail curve.normal.raw.tail) (le_trans (rank_early c) R.steady_by)
