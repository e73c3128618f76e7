-- The least number of periods after which the convolution of two curves is the part in which the slower one repeats.
use Rattle.std.specs.Prelude.{◌≡◌, ℕ, ◌*◌, ◌≤◌, pos}
use Prim.Native.Nat.{◌∣◌}
use native.Mathlib.Nat.{mul-pos, mul-dvd-mul_right}
use Rattle.std.proofs.Common.{arith, sym, ap, ◌∙◌, refl, subst, mul-le-mul_right}
use Rattle.rational.specs.Rational.{ℚ, ◌+ℚ◌, ◌-ℚ◌, ◌*ℚ◌, ◌/ℚ◌, ◌≤ℚ◌, ◌<ℚ◌, int, neg_ℚ}
use Rattle.rational.specs.Ratio.{IsSmall, SumFits}
use Rattle.rational.specs.Grid.{Whole, Within}
use Rattle.rational.specs.Extended.{Ext, ◌+ₑ◌}
use Rattle.rational.specs.declared.Extended.TheVariants.{Fin, Inf}
use Rattle.rational.proofs.Linear.{with1, with3, with4, with5, with6}
use Rattle.rational.proofs.Laws.{le_refl, le_of_lt, le_trans, le_lt_trans, le_of_not_lt, lt_irrefl, mul_nonneg, not_zero}
use Rattle.rational.proofs.Grid.{whole_int, whole_neg, whole_sub, whole_add, whole_weaken, within_neg}
use Rattle.rational.proofs.Integers.{nat_le, nat_nonneg, int_mul}
use Rattle.rational.proofs.Sizes.{quotient_on_grid}
use Rattle.rational.proofs.ExtendedOrder.{finite_sum, same_le_ext}
use Rattle.rational.proofs.Bounds.{infimum_unique, same_infimum}
use Rattle.upp_curve.specs.Curve.{SpecCurve, value_at}
use Rattle.min_plus.specs.Convolution.{Split, IsConvolution}
use Rattle.upp_limits.specs.Limits.{Sizes}
use Rattle.upp_limits.specs.Sized.{grid_of, times_largest}
use Rattle.upp_normal.specs.Operand.{AreLimited}
use Rattle.upp_normal.specs.Room.{top}
use Rattle.upp_limits.specs.Periods.{periods_after}
use Rattle.upp_curve.specs.Steady.{steady, rise_over}
use Rattle.upp_limits.specs.Windows.{IsLeast}
use Rattle.upp_limits.proofs.NarrowSizes.{small_sum}
use Rattle.upp_curve.proofs.Steady.{steady_rule}
use Rattle.curve_call.proofs.CurveRises.{IsRise, rise_is}
use Rattle.curve_call.proofs.CurveTimes.{steady_whole}
use Rattle.curve_call.specs.Gaps.{InWindow, IsWithin, IsEndless, IsLargest}
use Rattle.curve_call.proofs.LeastNumber.{gains, finite_less}
use Rattle.curve_call.proofs.Shifts.{largest_bounds, endless_bounds, same_least, least_zero}
use Rattle.curve_call.proofs.GapParts.{within_none}
use Rattle.element_envelope.specs.ElementRoom.{WindowTime}
use Rattle.element_envelope.proofs.ElementSizes.{gap_within}
use Rattle.curve_conv.specs.Parts.{PartSplit, part_sum, IsPart, FirstLate, FirstEarly}
use Rattle.curve_conv.specs.PartGaps.{IsPartGap, ArePartValues, HavePartValues}
use Rattle.curve_conv.specs.Scans.{sizes_in}
use Rattle.curve_conv.specs.Late.{IsLateIn, IsLateAfter, IsLateNumber, IsLateCall}
use Rattle.curve_conv.proofs.Moves.{late_only}
use Rattle.curve_conv.proofs.Repeating.{are_rising}
use Rattle.curve_conv.proofs.LateShifts.{AreParts, after_in, after_out, late_later, back, late_value, soon_value, values_are}
use Rattle.upp_normal.proofs.AnswerRoom.{wide_narrow}
use Rattle.element_envelope.proofs.Members.{number_below}
use Rattle.upp_curve.proofs.SteadyTimes.{steady_nonneg}
use Rattle.rational.proofs.Stretch.{one_above}

-- ---- times and rises
pub record LateTimes (slow fast : SpecCurve) (from d end : ℚ) : Type 0 where
  pub first : WindowTime (sizes_in slow fast end) end (steady slow)
  pub second : WindowTime (sizes_in slow fast end) end (steady fast)
  pub from_in : WindowTime (sizes_in slow fast end) end from
  pub slow_rise : IsRise (sizes_in slow fast end) slow d
  pub fast_rise : IsRise (sizes_in slow fast end) fast d

pub late_times : (slow fast : SpecCurve) (from d end : ℚ) → IsLateCall slow fast from d end → LateTimes slow fast from d end
late_times slow fast from d end C =
    let z = sizes_in slow fast end in
    let x = steady slow in
    let y = steady fast in
    let V = C.scan.first in
    let W = C.scan.second in
    let nx = steady_nonneg slow V.curve in
    let ny = steady_nonneg fast W.curve in
    let wx = steady_whole z end slow V.stands in
    let wy = steady_whole z end fast W.stands in
    let t = times x y from d end nx ny C.some C.from_is C.end_is in
    record {
      first = record { whole = wx; nonneg = nx; early = t.0 };
      second = record { whole = wy; nonneg = ny; early = t.1 };
      from_in = record {
        whole = subst (Whole z.dt) (sym C.from_is) (whole_add z.dt (x +ℚ y) d (whole_add z.dt x y wx wy) C.whole);
        nonneg = t.2;
        early = t.3;
      };
      slow_rise = rise_is z end slow d V.limited V.curve V.stands C.first C.whole C.some t.4;
      fast_rise = rise_is z end fast d V.limited W.curve W.stands C.second C.whole C.some t.5;
    }
  where
    times : (x y from d end : ℚ) → int (pos 0) ≤ℚ x → int (pos 0) ≤ℚ y → int (pos 0) <ℚ d → from ≡ x +ℚ y +ℚ d → end ≡ from +ℚ d
        → (x ≤ℚ end) × (y ≤ℚ end) × (int (pos 0) ≤ℚ from) × (from ≤ℚ end) × (x +ℚ d ≤ℚ end) × (y +ℚ d ≤ℚ end)
    times x y from d end a b s e f = (
      with5 x y from d end (λ c. omega (arith, c.le, c.lt, c.same)),
      with5 x y from d end (λ c. omega (arith, c.le, c.lt, c.same)),
      with4 x y from d (λ c. omega (arith, c.le, c.lt, c.same)),
      with3 from d end (λ c. omega (arith, c.le, c.lt, c.same)),
      with5 x y from d end (λ c. omega (arith, c.le, c.lt, c.same)),
      with5 x y from d end (λ c. omega (arith, c.le, c.lt, c.same)),
    )

pub end_some : (slow fast : SpecCurve) (from d end : ℚ) → IsLateCall slow fast from d end → int (pos 0) <ℚ end
end_some slow fast from d end C =
    let T = late_times slow fast from d end C in
    at from d end T.from_in.nonneg C.some C.end_is
  where
    at : (x y w : ℚ) → int (pos 0) ≤ℚ x → int (pos 0) <ℚ y → w ≡ x +ℚ y → int (pos 0) <ℚ w
    at x y w a b e = with3 x y w (λ c. omega (arith, c.le, c.lt, c.same))

pub zero_time : (slow fast : SpecCurve) (from d end : ℚ) → IsLateCall slow fast from d end → WindowTime (sizes_in slow fast end) end (int (pos 0))
zero_time slow fast from d end C = record {
  whole = whole_int (sizes_in slow fast end).dt (pos 0);
  nonneg = le_refl (int (pos 0));
  early = le_of_lt (end_some slow fast from d end C);
}

pub lead_fits : (slow fast : SpecCurve) (from d end a b : ℚ) → IsLateCall slow fast from d end → a ≡ rise_over fast d → b ≡ rise_over slow d → SumFits a (neg_ℚ b)
lead_fits slow fast from d end a b C ea eb =
    let z = sizes_in slow fast end in
    let T = late_times slow fast from d end C in
    let A = C.scan.first.limited in
    subst (λ x. SumFits x (neg_ℚ b)) (sym ea) (subst (λ y. SumFits (rise_over fast d) (neg_ℚ y)) (sym eb)
    (small_sum z end 3 3 (rise_over fast d) (neg_ℚ (rise_over slow d)) A.sizes (wide_narrow z end A) (omega arith) T.fast_rise.whole (whole_neg (grid_of z) (rise_over slow d) T.slow_rise.whole) T.fast_rise.within
    (within_neg (times_largest 3 z) (rise_over slow d) T.slow_rise.within)))

pub are_parts : (slow fast : SpecCurve) (from d end : ℚ) → IsLateCall slow fast from d end → AreParts (value_at slow) (value_at fast) (steady slow) (steady fast) d (rise_over slow d) (rise_over fast d) from
are_parts slow fast from d end C =
    let F = C.scan.first.curve in
    let G = C.scan.second.curve in
    record {
      rising = are_rising slow fast d F G C.first C.second C.some C.slower;
      right = steady_rule fast d G.normal.raw C.second (le_of_lt C.some);
      late = subst (λ y. steady slow +ℚ steady fast +ℚ d ≤ℚ y) (sym C.from_is) (le_refl (steady slow +ℚ steady fast +ℚ d));
    }

-- ---- the number fits
pub quotient_fits : (z : Sizes) (end q x y : ℚ) → AreLimited z end → IsPartGap z q → Whole (grid_of z) x → Whole (grid_of z) y → Within (times_largest 3 z) x → Within (times_largest 3 z) y → int (pos 0) <ℚ x -ℚ y
    → IsSmall (q /ℚ (x -ℚ y))
quotient_fits z end q x y A Q wx wy ix iy some =
    let d = Q.grid * z.ds in
    let fine : grid_of z ∣ d = mul-dvd-mul_right (z.dv * z.dt) Q.base z.ds in
    let room = Q.room in
    quotient_on_grid d (times_largest 14 z) (times_largest 6 z) q (x -ℚ y) (mul-pos Q.some A.sizes.ds) (not_zero (x -ℚ y) some) (most 14 (omega arith)) (most 6 (omega arith)) Q.whole
    (whole_weaken (grid_of z) d (x -ℚ y) fine (whole_sub (grid_of z) x y wx wy)) Q.within (gap_within z 3 3 x y ix iy)
  where
    most : (k : ℕ) → k ≤ 64 → times_largest k z *ℚ int (pos (Q.grid * z.ds)) ≤ℚ int (pos top)
    most k h =
        let d = Q.grid * z.ds in
        let room = Q.room in
        let l : k * z.largest ≤ 64 * z.largest = mul-le-mul_right z.largest h in
        let m : k * z.largest * d ≤ 64 * z.largest * d = mul-le-mul_right d l in
        subst (λ v. v ≤ℚ int (pos top)) (sym (ap (λ v. v *ℚ int (pos d)) (int_mul (pos k) (pos z.largest)) ∙ int_mul (pos (k * z.largest)) (pos d))) (nat_le (k * z.largest * d) top (omega (arith, m, room)))

-- ---- the lead

above_one : (q : ℚ) → q -ℚ int (pos 1) <ℚ q
above_one q = with1 q (λ c. omega (arith, c.le, c.lt, c.same))

-- where there is a largest gap, the faster curve is finite at some time, and so it gains
pub some_lead : (slow fast : SpecCurve) (from d end q : ℚ) (a b : ℚ → Ext) → IsLateCall slow fast from d end → ArePartValues (value_at slow) (value_at fast) (steady slow) (steady fast) from end a b
    → IsLargest (InWindow from end) a b q → int (pos 0) <ℚ rise_over fast d -ℚ rise_over slow d
some_lead slow fast from d end q a b C V L =
    let m = L.near (q -ℚ int (pos 1)) (above_one q) in
    let (w, e) = finite_less (b m.at +ₑ Fin (q -ℚ int (pos 1))) (a m.at) m.more in
    let parts = finite_sum (b m.at) (Fin (q -ℚ int (pos 1))) w e in
    let P = subst (IsPart (value_at slow) (value_at fast) (FirstEarly (steady slow) (steady fast)) m.at) parts.2 (V.soon m.at m.among) in
    let (i, k) = P.near (parts.0 +ℚ int (pos 1)) (one_above parts.0) in
    let (s, f) = number_below (part_sum (value_at slow) (value_at fast) (FirstEarly (steady slow) (steady fast)) m.at i) (parts.0 +ℚ int (pos 1)) k in
    let both = finite_sum (value_at slow i.split.first) (value_at fast i.split.second) s f in
    gains slow fast d i.split.second both.1 C.scan.second.curve C.some C.slower i.inside.1 both.3

-- ---- the number
-- a time some periods after `from` is after the sum of the times from which on the curves repeat
after_both : (slow fast : SpecCurve) (from d end : ℚ) (k : ℕ) (t : ℚ) → IsLateCall slow fast from d end → periods_after from k d ≤ℚ t
    → steady slow +ℚ steady fast ≤ℚ t
after_both slow fast from d end k t C h = at (steady slow) (steady fast) d from (int (pos k) *ℚ d) C.from_is (le_of_lt C.some) (mul_nonneg (nat_nonneg k) (le_of_lt C.some)) h
  where
    at : (x y d from w : ℚ) → from ≡ x +ℚ y +ℚ d → int (pos 0) ≤ℚ d → int (pos 0) ≤ℚ w → from +ℚ w ≤ℚ t → x +ℚ y ≤ℚ t
    at x y d from w e a b h = with6 x y d from w t (λ c. omega (arith, c.le, c.lt, c.same))

pub late_in : (slow fast : SpecCurve) (from d end : ℚ) (k : ℕ) → IsLateCall slow fast from d end
    → ((t : ℚ) → InWindow from end t → HavePartValues (value_at slow) (value_at fast) (steady slow) (steady fast) t) → IsLateAfter slow fast from d k → IsLateIn slow fast (periods_after from k d) d
late_in slow fast from d end k C V L = record {
  least = L;
  value = λ t h l v W.
      let B = back from d t k h l in
      let i = subst (λ e. InWindow from e B.at) (sym C.end_is) B.in_window in
      let x = (V B.at i).late in
      let w = x.0 +ₑ Fin (int (pos k) *ℚ rise_over slow d) in
      let P = subst (λ u. IsPart (value_at slow) (value_at fast) (FirstLate (steady slow)) u w) B.is
      (late_later (value_at slow) (value_at fast) (steady slow) (steady fast) d (rise_over slow d) (rise_over fast d) from B.at x.0 k
      (are_parts slow fast from d end C) B.in_window.start x.1) in
      let there = late_only (value_at slow) (value_at fast) (steady slow) (steady fast) t w (after_both slow fast from d end k t C h) (L t h l) P in
      subst (IsPart (value_at slow) (value_at fast) (FirstLate (steady slow)) t)
      (infimum_unique {I = Split t} (λ s. value_at slow s.first +ₑ value_at fast s.second) w v there W) P;
}

-- ---- a slower curve that repeats from 0 on
-- no split is before that time
pub none_early : (slow fast : SpecCurve) (from d : ℚ) → ¬ (int (pos 0) <ℚ steady slow) → IsLateNumber slow fast from d 0
none_early slow fast from d none = record { least = least_zero (IsLateAfter slow fast from d) here; late = record { least = here; value = all } }
  where
    all_late : (t : ℚ) (s : Split t) → steady slow ≤ℚ s.first
    all_late t s = le_trans (le_of_not_lt none) s.first_nonneg

    here : IsLateAfter slow fast from d 0
    here t h l b below s early after = absurd (lt_irrefl (steady slow) (le_lt_trans (all_late t s) early))

    all : (t : ℚ) → periods_after from 0 d ≤ℚ t → t <ℚ periods_after from 0 d +ℚ d → (v : Ext) → IsConvolution (value_at slow) (value_at fast) t v
        → IsPart (value_at slow) (value_at fast) (FirstLate (steady slow)) t v
    all t h l v W =
        same_infimum {I = Split t} {J = PartSplit (FirstLate (steady slow)) t} (λ s. value_at slow s.first +ₑ value_at fast s.second)
        (part_sum (value_at slow) (value_at fast) (FirstLate (steady slow)) t) v
        (λ s. (record { split = s; inside = all_late t s }, same_le_ext refl)) (λ i. (i.split, same_le_ext refl)) W

abbrev IsWithinBy : SpecCurve → SpecCurve → ℚ → ℚ → (ℚ → Ext) → (ℚ → Ext) → ℕ → Type 0
IsWithinBy slow fast from d a b k = IsWithin (InWindow from (from +ℚ d)) a b (int (pos k) *ℚ (rise_over fast d -ℚ rise_over slow d))

in_after : (slow fast : SpecCurve) (from d end : ℚ) (a b : ℚ → Ext) (k : ℕ) → IsLateCall slow fast from d end
    → ArePartValues (value_at slow) (value_at fast) (steady slow) (steady fast) from (from +ℚ d) a b → IsWithinBy slow fast from d a b k → IsLateAfter slow fast from d k
in_after slow fast from d end a b k C V W =
    after_in (value_at slow) (value_at fast) (steady slow) (steady fast) d (rise_over slow d) (rise_over fast d) from a b k (are_parts slow fast from d end C) V W

out_after : (slow fast : SpecCurve) (from d end : ℚ) (a b : ℚ → Ext) (k : ℕ) → IsLateCall slow fast from d end
    → ArePartValues (value_at slow) (value_at fast) (steady slow) (steady fast) from (from +ℚ d) a b → IsLateAfter slow fast from d k → IsWithinBy slow fast from d a b k
out_after slow fast from d end a b k C V W =
    after_out (value_at slow) (value_at fast) (steady slow) (steady fast) d (rise_over slow d) (rise_over fast d) from a b k (are_parts slow fast from d end C) V W

-- the values of both parts over the window
abbrev pub Values : SpecCurve → SpecCurve → ℚ → ℚ → Type 0
Values slow fast from end = (t : ℚ) → InWindow from end t → HavePartValues (value_at slow) (value_at fast) (steady slow) (steady fast) t

abbrev pub late_of : (slow fast : SpecCurve) (from end : ℚ) → Values slow fast from end → ℚ → Ext
late_of slow fast from end V = late_value (value_at slow) (value_at fast) (steady slow) (steady fast) from end V

abbrev pub soon_of : (slow fast : SpecCurve) (from end : ℚ) → Values slow fast from end → ℚ → Ext
soon_of slow fast from end V = soon_value (value_at slow) (value_at fast) (steady slow) (steady fast) from end V

of_period : (slow fast : SpecCurve) (from d end : ℚ) (C : IsLateCall slow fast from d end) (V : Values slow fast from end)
    → ArePartValues (value_at slow) (value_at fast) (steady slow) (steady fast) from (from +ℚ d) (late_of slow fast from end V) (soon_of slow fast from end V)
of_period slow fast from d end C V =
    subst (λ e. ArePartValues (value_at slow) (value_at fast) (steady slow) (steady fast) from e (late_of slow fast from end V) (soon_of slow fast from end V)) C.end_is
    (values_are (value_at slow) (value_at fast) (steady slow) (steady fast) from end V)

pub number_none : (slow fast : SpecCurve) (from d end : ℚ) (C : IsLateCall slow fast from d end) (V : Values slow fast from end) → ((t : ℚ) → InWindow from end t → soon_of slow fast from end V t ≡ Inf)
    → IsLateNumber slow fast from d 0
number_none slow fast from d end C V none =
    let P = of_period slow fast from d end C V in
    let here = in_after slow fast from d end (late_of slow fast from end V) (soon_of slow fast from end V) 0 C P
    (within_none (InWindow from (from +ℚ d)) (late_of slow fast from end V) (soon_of slow fast from end V) _ (λ t i. none t (subst (λ e. InWindow from e t) (sym C.end_is) i))) in
    record { least = least_zero (IsLateAfter slow fast from d) here; late = late_in slow fast from d end 0 C V here }

pub number_endless : (slow fast : SpecCurve) (from d end : ℚ) (C : IsLateCall slow fast from d end) (V : Values slow fast from end)
    → IsEndless (InWindow from end) (late_of slow fast from end V) (soon_of slow fast from end V) → (k : ℕ) → ¬ (IsLateAfter slow fast from d k)
number_endless slow fast from d end C V E k L =
    endless_bounds (InWindow from (from +ℚ d)) (late_of slow fast from end V) (soon_of slow fast from end V) _ (subst (λ e. IsEndless (InWindow from e) (late_of slow fast from end V) (soon_of slow fast from end V)) C.end_is E)
    (out_after slow fast from d end (late_of slow fast from end V) (soon_of slow fast from end V) k C (of_period slow fast from d end C V) L)

pub number_gap : (slow fast : SpecCurve) (from d end q : ℚ) (k : ℕ) (C : IsLateCall slow fast from d end) (V : Values slow fast from end)
    → IsLargest (InWindow from end) (late_of slow fast from end V) (soon_of slow fast from end V) q → IsLeast (λ i. q ≤ℚ int (pos i) *ℚ (rise_over fast d -ℚ rise_over slow d)) k → IsLateNumber slow fast from d k
number_gap slow fast from d end q k C V L least =
    let a = late_of slow fast from end V in
    let b = soon_of slow fast from end V in
    let P = of_period slow fast from d end C V in
    let M = subst (λ e. IsLargest (InWindow from e) (late_of slow fast from end V) (soon_of slow fast from end V) q) C.end_is L in
    let bounds = λ (i : ℕ). largest_bounds (InWindow from (from +ℚ d)) (late_of slow fast from end V) (soon_of slow fast from end V) q (int (pos i) *ℚ (rise_over fast d -ℚ rise_over slow d)) M in
    let same = same_least (IsLateAfter slow fast from d) (λ i. q ≤ℚ int (pos i) *ℚ (rise_over fast d -ℚ rise_over slow d)) k
    (λ i w. (bounds i).0 (out_after slow fast from d end (late_of slow fast from end V) (soon_of slow fast from end V) i C P w))
    (λ i h. in_after slow fast from d end (late_of slow fast from end V) (soon_of slow fast from end V) i C P ((bounds i).1 h)) least in
    record { least = same; late = late_in slow fast from d end k C V same.meets }
