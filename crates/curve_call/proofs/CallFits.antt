-- Below a gauge of 2 ^ 128 the steps to the end of a call's window fit.
use Rattle.std.specs.Prelude.{◌≡◌, ℕ, ◌<◌, ◌≤◌, ◌^◌, pos}
use Rattle.std.proofs.Common.{arith, sym, ap, ◌∙◌, subst, inl, inr}
use Rattle.std.proofs.lemmas.Bool.{cases_lt}
use Rattle.rational.specs.Rational.{ℚ, ◌+ℚ◌, ◌*ℚ◌, ◌≤ℚ◌, ◌<ℚ◌, int}
use Rattle.rational.specs.Ratio.{IsSmall}
use Rattle.rational.specs.Grid.{Whole}
use Rattle.rational.specs.declared.Extended.TheVariants.{Fin, Inf}
use Rattle.rational.proofs.Linear.{with3}
use Rattle.rational.proofs.Laws.{le_refl, le_of_lt, mul_le_mul_right, one_mul}
use Rattle.rational.proofs.Integers.{nat_le}
use Rattle.rational.proofs.Grid.{whole_add, whole_times}
use Rattle.upp_limits.specs.declared.op_kind.OpKind.{OpKind}
use Rattle.upp_limits.specs.declared.op_kind.OpKind.TheVariants.{Sum, Min, Max, PosDiff, PosMinus, Scale, Shift, RunSup, RunInf, FifoLeft, Convolve, Deconvolve, Horizontal, Vertical, Itself}
use Rattle.upp_curve.specs.Curve.{SpecCurve}
use Rattle.upp_curve.specs.Curves.{IsCurve}
use Rattle.upp_limits.specs.Periods.{periods_after}
use Rattle.upp_limits.specs.Windows.{window_at}
use Rattle.upp_limits.specs.Limits.{Sizes, sizes_of}
use Rattle.upp_limits.specs.Gauges.{numbers_over, gauge_over, gauge_at}
use Rattle.upp_limits.proofs.CurveStands.{are_sizes}
use Rattle.upp_limits.proofs.Stands.{sizes_stand}
use Rattle.upp_limits.proofs.NarrowSizes.{narrow_gauge}
use Rattle.curve_call.specs.Times.{PeriodsFit}
use Rattle.curve_call.specs.CallWindows.{IsForward, SecondIsCurve, start_of, number_of, period_in, StartFits}
use Rattle.curve_call.proofs.CurveTimes.{periods_fit}
use Rattle.curve_call.proofs.CallTimes.{IsCall, IsNarrowCall, window_is, period_on, start_on, start_fits}
use Rattle.upp_normal.proofs.UnrollSteps.{time_small}

pub number_some : (op : OpKind) (k m : ℕ) → IsForward op → 1 ≤ number_of op k m
number_some Sum k m h = omega arith
number_some Min k m h = omega arith
number_some Max k m h = omega arith
number_some PosDiff k m h = omega arith
number_some (PosMinus l) k m h = omega arith
number_some (Scale q) k m h = omega arith
number_some (Shift Inf) k m h = absurd h
number_some (Shift (Fin x)) k m h = omega arith
number_some RunSup k m h = omega arith
number_some RunInf k m h = omega arith
number_some (FifoLeft Inf) k m h = absurd h
number_some (FifoLeft (Fin theta)) k m h = omega arith
number_some Convolve k m h = omega arith
number_some Deconvolve k m h = omega arith
number_some Horizontal k m h = omega arith
number_some Vertical k m h = omega arith
number_some Itself k m h = omega arith

-- the start, one period, and the start and one period more are no later than the end
pub record Early (s p end : ℚ) : Type 0 where
  pub start : s ≤ℚ end
  pub period : p ≤ℚ end
  pub both : s +ℚ p ≤ℚ end

early : (s p : ℚ) (n : ℕ) → int (pos 0) ≤ℚ s → int (pos 0) <ℚ p → 1 ≤ n → Early s p (periods_after s n p)
early s p n h k l =
    let run = int (pos n) *ℚ p in
    let far : p ≤ℚ run = subst (λ x. x ≤ℚ run) (one_mul p) (mul_le_mul_right p (le_of_lt k) (nat_le 1 n l)) in
    record {
      start = with3 s p run (λ c. omega (arith, c.le, c.lt, c.same));
      period = with3 s p run (λ c. omega (arith, c.le, c.lt, c.same));
      both = with3 s p run (λ c. omega (arith, c.le, c.lt, c.same));
    }

pub call_early : (op : OpKind) (f g : SpecCurve) (k m : ℕ) (z : Sizes) (end : ℚ) → IsCall op f g z end → Early (start_of op f g) (period_in op f g) (window_at op f g k m)
call_early op f g k m z end h =
    subst (Early (start_of op f g) (period_in op f g)) (sym (window_is op f g k m))
    (early (start_of op f g) (period_in op f g) (number_of op k m) (start_on op f g z end h).nonneg (period_on op f g z end h).above (number_some op k m h.forward))

-- the window's end stands on the grid of times, also of another window's sizes
pub window_whole : (op : OpKind) (f g : SpecCurve) (k m : ℕ) (z : Sizes) (end : ℚ) → IsCall op f g z end → Whole z.dt (window_at op f g k m)
window_whole op f g k m z end h =
    subst (Whole z.dt) (sym (window_is op f g k m))
    (whole_add z.dt (start_of op f g) (int (pos (number_of op k m)) *ℚ period_in op f g) (start_on op f g z end h).whole (whole_times z.dt (pos (number_of op k m)) (period_in op f g) (period_on op f g z end h).whole))

-- the sizes of the call itself
pub call_narrow : (op : OpKind) (f g : SpecCurve) (end : ℚ) → IsCurve f → SecondIsCurve op g → IsForward op → gauge_over op f g end < 2 ^ 128
    → IsNarrowCall op f g (sizes_of end (numbers_over op f g end)) end
unfolding gauge_over
call_narrow op f g end is_f is_g forward h =
    let n = numbers_over op f g end in
    let a = are_sizes end n in
    record {
      call = record { first = is_f; second = is_g; forward = forward; stands = sizes_stand end n };
      sizes = a;
      narrow = narrow_gauge (sizes_of end n) end a h;
    }

-- the steps to the window's end
pub record CallFits (op : OpKind) (f g : SpecCurve) (k m : ℕ) : Type 0 where
  pub period : IsSmall (period_in op f g)
  pub start : StartFits op f g
  pub end : PeriodsFit (start_of op f g) (number_of op k m) (period_in op f g)

fits_at : (op : OpKind) (f g : SpecCurve) (k m : ℕ) (z : Sizes) → IsNarrowCall op f g z (window_at op f g k m) → CallFits op f g k m
fits_at op f g k m z h =
    let end = window_at op f g k m in
    let e = call_early op f g k m z end h.call in
    let p = period_on op f g z end h.call in
    let s = start_on op f g z end h.call in
    record {
      period = time_small z end (period_in op f g) h.sizes h.narrow p.whole (le_of_lt p.above) e.period;
      start = start_fits op f g z end h e.period e.start;
      end = periods_fit z end (start_of op f g) (period_in op f g) (number_of op k m) h.sizes h.narrow s.whole p.whole s.nonneg p.above
          (subst (λ x. x ≤ℚ end) (window_is op f g k m) (le_refl end));
    }

pub call_fits : (op : OpKind) (f g : SpecCurve) (k m : ℕ) → IsCurve f → SecondIsCurve op g → IsForward op → gauge_at op f g k m < 2 ^ 128 → CallFits op f g k m
call_fits op f g k m is_f is_g forward h =
    let end = window_at op f g k m in
    fits_at op f g k m (sizes_of end (numbers_over op f g end)) (call_narrow op f g end is_f is_g forward h)

-- ---- as the code finds them
pub found_fits : (s S p P : ℚ) (n N : ℕ) → s ≡ S → p ≡ P → (N < 2 ^ 128 → n ≡ N) → PeriodsFit S N P → PeriodsFit s n p
found_fits s S p P n N es ep en h =
    let few = h.few in
    let e : n ≡ N = en (omega arith) in
    subst (λ x. PeriodsFit x n p) (sym es) (subst (λ x. PeriodsFit S x p) (sym e) (subst (PeriodsFit S N) (sym ep) h))

found_number : (n N : ℕ) → (N < 2 ^ 128 → n ≡ N) → (2 ^ 128 ≤ N → 2 ^ 126 ≤ n) → n < 2 ^ 126 → n ≡ N
found_number n N few many l = elim (cases_lt N (2 ^ 128)) [
  | inl h ↦ few h
  | inr h ↦ let k = many h in absurd (omega arith)
]

pub found_end : (op : OpKind) (f g : SpecCurve) (k m n : ℕ) (s p end : ℚ) → s ≡ start_of op f g → p ≡ period_in op f g → (number_of op k m < 2 ^ 128 → n ≡ number_of op k m)
    → (2 ^ 128 ≤ number_of op k m → 2 ^ 126 ≤ n) → n < 2 ^ 126 → end ≡ periods_after s n p → end ≡ window_at op f g k m
found_end op f g k m n s p end es ep few many l e =
    e ∙ ap (λ x. periods_after x n p) es ∙ ap (λ x. periods_after (start_of op f g) x p) (found_number n (number_of op k m) few many l)
    ∙ ap (periods_after (start_of op f g) (number_of op k m)) ep ∙ sym (window_is op f g k m)
