-- The times of a call in its window: its start and its period stand on the grid of times, and the steps to them and to the window's end fit.
use Rattle.std.specs.Prelude.{◌≡◌, ℕ, suc, ◌+◌, ◌^◌, pos}
use Rattle.std.proofs.Common.{arith, sym, ap, ◌∙◌, refl}
use Rattle.rational.specs.Rational.{ℚ, ◌+ℚ◌, ◌*ℚ◌, ◌≤ℚ◌, int}
use Rattle.rational.specs.MinMax.{max_q}
use Rattle.rational.specs.Ratio.{SumFits}
use Rattle.rational.specs.Grid.{Whole}
use Rattle.rational.specs.declared.Extended.TheVariants.{Fin, Inf}
use Rattle.rational.proofs.Linear.{with2, with3}
use Rattle.rational.proofs.Laws.{le_refl, le_trans, le_of_lt, one_mul, zero_mul, add_zero, add_assoc, add_mul}
use Rattle.rational.proofs.Integers.{int_add}
use Rattle.rational.proofs.MinMax.{max_q_ge_left, max_q_ge_right}
use Rattle.rational.proofs.Grid.{whole_int, whole_add, max_whole}
use Rattle.upp_limits.specs.declared.op_kind.OpKind.{OpKind}
use Rattle.upp_limits.specs.declared.op_kind.OpKind.TheVariants.{Sum, Min, Max, PosDiff, PosMinus, Scale, Shift, RunSup, RunInf, FifoLeft, Convolve, Deconvolve, Horizontal, Vertical, Itself}
use Rattle.upp_curve.specs.Curve.{SpecCurve}
use Rattle.upp_curve.specs.Curves.{IsCurve}
use Rattle.min_plus.specs.Functions.{zero_q}
use Rattle.upp_curve.specs.Steady.{steady}
use Rattle.upp_limits.specs.Periods.{common_period, own_period, period_of, period_or, both_steady, periods_after}
use Rattle.upp_limits.specs.Windows.{window_at}
use Rattle.upp_limits.specs.Limits.{Sizes, joined, curve_numbers}
use Rattle.upp_limits.specs.Gauges.{scaled_curve, both_numbers, kind_numbers, numbers_over}
use Rattle.upp_limits.specs.Sized.{AreSizes, Stands}
use Rattle.upp_limits.proofs.Stands.{stands_left, stands_right}
use Rattle.upp_limits.proofs.NarrowSizes.{IsNarrow}
use Rattle.curve_call.specs.Times.{OneLaterFits, BothSteadyFit}
use Rattle.curve_call.specs.CallWindows.{IsForward, SecondIsCurve, start_of, number_of, period_in, StartFits}
use Rattle.curve_call.proofs.CurveTimes.{IsPeriod, sum_fits, time_within, steady_whole, one_later, own_on, both_on, own_or_on, both_fit}
use Rattle.upp_normal.proofs.UnrollSteps.{time_small}
use Rattle.upp_curve.proofs.SteadyTimes.{steady_nonneg}

-- ---- the window's end as whole periods after the start
one_more : (t d : ℚ) → t +ℚ d ≡ periods_after t 1 d
one_more t d = ap (λ x. t +ℚ x) (sym (one_mul d))

next : (t d : ℚ) (k : ℕ) → periods_after t (suc k) d ≡ periods_after t (k + 1) d
next t d k = let e : suc k ≡ k + 1 = omega arith in ap (λ n. periods_after t n d) e

none : (d : ℚ) → zero_q ≡ periods_after zero_q 0 d
none d = sym (add_zero zero_q) ∙ ap (λ x. zero_q +ℚ x) (sym (zero_mul d))

moved : (s d x : ℚ) → s +ℚ d +ℚ x ≡ periods_after (s +ℚ x) 1 d
moved s d x = let e : s +ℚ d +ℚ x ≡ (s +ℚ x) +ℚ d = with3 s d x (λ c. omega (arith, c.le, c.lt, c.same)) in e ∙ one_more (s +ℚ x) d

twice_later : (s d : ℚ) (k m : ℕ) → periods_after (periods_after s (suc k) d) (suc m) d ≡ periods_after s (k + 1 + (m + 1)) d
twice_later s d k m =
    let a : suc k + suc m ≡ k + 1 + (m + 1) = omega arith in
    add_assoc s (int (pos (suc k)) *ℚ d) (int (pos (suc m)) *ℚ d)
    ∙ ap (λ x. s +ℚ x) (sym (add_mul (int (pos (suc k))) (int (pos (suc m))) d) ∙ ap (λ x. x *ℚ d) (int_add (pos (suc k)) (pos (suc m))) ∙ ap (λ n. int (pos n) *ℚ d) a)

pub window_is : (op : OpKind) (f g : SpecCurve) (k m : ℕ) → window_at op f g k m ≡ periods_after (start_of op f g) (number_of op k m) (period_in op f g)
unfolding window_at
window_is Sum f g k m = one_more (both_steady f g) (common_period f g)
window_is Min f g k m = next (both_steady f g) (common_period f g) k
window_is Max f g k m = next (both_steady f g) (common_period f g) k
window_is PosDiff f g k m = next (both_steady f g) (common_period f g) k
window_is (PosMinus l) f g k m = next (steady f) (own_period f) k
window_is (Scale q) f g k m = one_more (steady f) (own_period f)
window_is (Shift Inf) f g k m = none (own_period f)
window_is (Shift (Fin x)) f g k m = moved (steady f) (own_period f) x
window_is RunSup f g k m = refl
window_is RunInf f g k m = refl
window_is (FifoLeft Inf) f g k m = none (common_period f g)
window_is (FifoLeft (Fin theta)) f g k m = refl
window_is Convolve f g k m = refl
window_is Deconvolve f g k m = one_more (steady f +ℚ period_or (common_period f g) (period_of f.tail) +ℚ both_steady f g) (common_period f g)
window_is Horizontal f g k m = twice_later (steady f) (common_period f g) k m
window_is Vertical f g k m = one_more (both_steady f g) (common_period f g)
window_is Itself f g k m = one_more (steady f) (own_period f)

-- ---- the operands' numbers
pub first_stands : (op : OpKind) (z : Sizes) (end : ℚ) (f g : SpecCurve) → Stands z (numbers_over op f g end) → Stands z (curve_numbers end f)
first_stands (PosMinus l) z end f g h = stands_right z (kind_numbers (PosMinus l)) (curve_numbers end f) h
first_stands (Scale q) z end f g h = stands_left z (curve_numbers end f) (curve_numbers end (scaled_curve q f)) (stands_right z (kind_numbers (Scale q)) _ h)
first_stands (Shift x) z end f g h = stands_right z (kind_numbers (Shift x)) (curve_numbers end f) h
first_stands RunSup z end f g h = stands_right z (kind_numbers RunSup) (curve_numbers end f) h
first_stands RunInf z end f g h = stands_right z (kind_numbers RunInf) (curve_numbers end f) h
first_stands Itself z end f g h = stands_right z (kind_numbers Itself) (curve_numbers end f) h
first_stands op z end f g h = stands_left z (curve_numbers end f) (curve_numbers end g) (stands_right z (kind_numbers op) (both_numbers end f g) h)

pub second_stands : (op : OpKind) (z : Sizes) (end : ℚ) (f g : SpecCurve) → Stands z (joined (kind_numbers op) (both_numbers end f g)) → Stands z (curve_numbers end g)
second_stands op z end f g h = stands_right z (curve_numbers end f) (curve_numbers end g) (stands_right z (kind_numbers op) (both_numbers end f g) h)

-- two curves, and the numbers of a call on them over a window's end
pub record IsCall (op : OpKind) (f g : SpecCurve) (z : Sizes) (end : ℚ) : Type 0 where
  pub first : IsCurve f
  pub second : SecondIsCurve op g
  pub forward : IsForward op
  pub stands : Stands z (numbers_over op f g end)

both_whole : (z : Sizes) (end : ℚ) (f g : SpecCurve) → Stands z (curve_numbers end f) → Stands z (curve_numbers end g) → Whole z.dt (both_steady f g)
both_whole z end f g h k = max_whole z.dt (steady f) (steady g) (steady_whole z end f h) (steady_whole z end g k)

common_on : (op : OpKind) (z : Sizes) (end : ℚ) (f g : SpecCurve) → IsCurve f → IsCurve g → Stands z (joined (kind_numbers op) (both_numbers end f g)) → IsPeriod z.dt (common_period f g)
common_on op z end f g is_f is_g h =
    let both = stands_right z (kind_numbers op) (both_numbers end f g) h in
    both_on z end f g is_f is_g (stands_left z (curve_numbers end f) (curve_numbers end g) both) (stands_right z (curve_numbers end f) (curve_numbers end g) both)

pub period_on : (op : OpKind) (f g : SpecCurve) (z : Sizes) (end : ℚ) → IsCall op f g z end → IsPeriod z.dt (period_in op f g)
period_on (PosMinus l) f g z end h = own_on z end f h.first (first_stands (PosMinus l) z end f g h.stands)
period_on (Scale q) f g z end h = own_on z end f h.first (first_stands (Scale q) z end f g h.stands)
period_on (Shift x) f g z end h = own_on z end f h.first (first_stands (Shift x) z end f g h.stands)
period_on RunSup f g z end h = own_on z end f h.first (first_stands RunSup z end f g h.stands)
period_on RunInf f g z end h = own_on z end f h.first (first_stands RunInf z end f g h.stands)
period_on Itself f g z end h = own_on z end f h.first (first_stands Itself z end f g h.stands)
period_on op f g z end h = common_on op z end f g h.first h.second h.stands

-- the start of a call's periods: a time from 0 on, on the grid
pub record IsStart (d : ℕ) (t : ℚ) : Type 0 where
  pub whole : Whole d t
  pub nonneg : int (pos 0) ≤ℚ t

both_start : (op : OpKind) (z : Sizes) (end : ℚ) (f g : SpecCurve) → IsCurve f → Stands z (joined (kind_numbers op) (both_numbers end f g)) → IsStart z.dt (both_steady f g)
both_start op z end f g is h =
    let both = stands_right z (kind_numbers op) (both_numbers end f g) h in
    record {
      whole = both_whole z end f g (stands_left z (curve_numbers end f) (curve_numbers end g) both) (stands_right z (curve_numbers end f) (curve_numbers end g) both);
      nonneg = le_trans (steady_nonneg f is) (max_q_ge_left (steady f) (steady g));
    }

own_start : (z : Sizes) (end : ℚ) (f : SpecCurve) → IsCurve f → Stands z (curve_numbers end f) → IsStart z.dt (steady f)
own_start z end f is h = record { whole = steady_whole z end f h; nonneg = steady_nonneg f is }

sum_start : (d : ℕ) (a b : ℚ) → IsStart d a → IsStart d b → IsStart d (a +ℚ b)
sum_start d a b h k =
    let la = h.nonneg in
    let lb = k.nonneg in
    record { whole = whole_add d a b h.whole k.whole; nonneg = with2 a b (λ c. omega (arith, c.le, c.lt, c.same)) }

max_start : (d : ℕ) (a b : ℚ) → IsStart d a → IsStart d b → IsStart d (max_q a b)
max_start d a b h k = record { whole = max_whole d a b h.whole k.whole; nonneg = le_trans h.nonneg (max_q_ge_left a b) }

zero_start : (d : ℕ) → IsStart d zero_q
zero_start d = record { whole = whole_int d (pos 0); nonneg = le_refl zero_q }

period_start : (d : ℕ) (p : ℚ) → IsPeriod d p → IsStart d p
period_start d p h = record { whole = h.whole; nonneg = le_of_lt h.above }

pub start_on : (op : OpKind) (f g : SpecCurve) (z : Sizes) (end : ℚ) → IsCall op f g z end → IsStart z.dt (start_of op f g)
start_on Sum f g z end h = both_start Sum z end f g h.first h.stands
start_on Min f g z end h = both_start Min z end f g h.first h.stands
start_on Max f g z end h = both_start Max z end f g h.first h.stands
start_on PosDiff f g z end h = both_start PosDiff z end f g h.first h.stands
start_on (PosMinus l) f g z end h = own_start z end f h.first (first_stands (PosMinus l) z end f g h.stands)
start_on (Scale q) f g z end h = own_start z end f h.first (first_stands (Scale q) z end f g h.stands)
start_on (Shift Inf) f g z end h = zero_start z.dt
start_on (Shift (Fin x)) f g z end h =
    sum_start z.dt (steady f) x (own_start z end f h.first (first_stands (Shift (Fin x)) z end f g h.stands)) record { whole = h.stands.times.0; nonneg = h.forward }
start_on RunSup f g z end h = own_start z end f h.first (first_stands RunSup z end f g h.stands)
start_on RunInf f g z end h = own_start z end f h.first (first_stands RunInf z end f g h.stands)
start_on (FifoLeft Inf) f g z end h = zero_start z.dt
start_on (FifoLeft (Fin theta)) f g z end h =
    let op : OpKind = FifoLeft (Fin theta) in
    max_start z.dt (steady f) (steady g +ℚ theta) (own_start z end f h.first (first_stands op z end f g h.stands))
    (sum_start z.dt (steady g) theta (own_start z end g h.second (second_stands op z end f g h.stands)) record { whole = h.stands.times.0; nonneg = h.forward })
start_on Convolve f g z end h =
    sum_start z.dt (steady f) (steady g) (own_start z end f h.first (first_stands Convolve z end f g h.stands)) (own_start z end g h.second (second_stands Convolve z end f g h.stands))
start_on Deconvolve f g z end h =
    let common = common_on Deconvolve z end f g h.first h.second h.stands in
    let s = first_stands Deconvolve z end f g h.stands in
    let p = period_or (common_period f g) (period_of f.tail) in
    sum_start z.dt (steady f +ℚ p) (both_steady f g)
    (sum_start z.dt (steady f) p (own_start z end f h.first s) (period_start z.dt p (own_or_on z end (common_period f g) f h.first s common)))
    (both_start Deconvolve z end f g h.first h.stands)
start_on Horizontal f g z end h = own_start z end f h.first (first_stands Horizontal z end f g h.stands)
start_on Vertical f g z end h = both_start Vertical z end f g h.first h.stands
start_on Itself f g z end h = own_start z end f h.first (first_stands Itself z end f g h.stands)

-- ---- steps that fit
-- the numbers of a call whose sizes are below a gauge of 2 ^ 128
pub record IsNarrowCall (op : OpKind) (f g : SpecCurve) (z : Sizes) (end : ℚ) : Type 0 where
  pub call : IsCall op f g z end
  pub sizes : AreSizes z end
  pub narrow : IsNarrow z (2 ^ 122)

fit_both : (op : OpKind) (f g : SpecCurve) (z : Sizes) (end : ℚ) → IsCurve f → IsCurve g → AreSizes z end → IsNarrow z (2 ^ 122)
    → Stands z (joined (kind_numbers op) (both_numbers end f g)) → both_steady f g ≤ℚ end → BothSteadyFit f g
fit_both op f g z end is_f is_g s n h l =
    let both = stands_right z (kind_numbers op) (both_numbers end f g) h in
    both_fit z end f g s n is_f is_g (stands_left z (curve_numbers end f) (curve_numbers end g) both) (stands_right z (curve_numbers end f) (curve_numbers end g) both)
    (le_trans (max_q_ge_left (steady f) (steady g)) l) (le_trans (max_q_ge_right (steady f) (steady g)) l)

fit_one : (op : OpKind) (f g : SpecCurve) (z : Sizes) (end : ℚ) → IsNarrowCall op f g z end → steady f ≤ℚ end → OneLaterFits f
fit_one op f g z end h l = one_later z end f h.sizes h.narrow h.call.first (first_stands op z end f g h.call.stands) l

-- two times from 0 on, on the grid, whose sum is no later than the window's end
fit_sum : (z : Sizes) (end a b : ℚ) → AreSizes z end → IsNarrow z (2 ^ 122) → IsStart z.dt a → IsStart z.dt b → a +ℚ b ≤ℚ end → SumFits a b
fit_sum z end a b s n h k l =
    let la = h.nonneg in
    let lb = k.nonneg in
    sum_fits z end a b s n h.whole k.whole (time_within z end a s la (with3 a b end (λ c. omega (arith, c.le, c.lt, c.same))))
    (time_within z end b s lb (with3 a b end (λ c. omega (arith, c.le, c.lt, c.same))))

left_of_sum : (a b end : ℚ) → int (pos 0) ≤ℚ b → a +ℚ b ≤ℚ end → a ≤ℚ end
left_of_sum a b end h l = with3 a b end (λ c. omega (arith, c.le, c.lt, c.same))

right_of_sum : (a b end : ℚ) → int (pos 0) ≤ℚ a → a +ℚ b ≤ℚ end → b ≤ℚ end
right_of_sum a b end h l = with3 a b end (λ c. omega (arith, c.le, c.lt, c.same))

fit_first : (op : OpKind) (f g : SpecCurve) (z : Sizes) (end : ℚ) → IsNarrowCall op f g z end → IsStart z.dt (steady f)
fit_first op f g z end h = own_start z end f h.call.first (first_stands op z end f g h.call.stands)

pub start_fits : (op : OpKind) (f g : SpecCurve) (z : Sizes) (end : ℚ) → IsNarrowCall op f g z end → period_in op f g ≤ℚ end → start_of op f g ≤ℚ end → StartFits op f g
start_fits Sum f g z end h p l = fit_both Sum f g z end h.call.first h.call.second h.sizes h.narrow h.call.stands l
start_fits Min f g z end h p l = fit_both Min f g z end h.call.first h.call.second h.sizes h.narrow h.call.stands l
start_fits Max f g z end h p l = fit_both Max f g z end h.call.first h.call.second h.sizes h.narrow h.call.stands l
start_fits PosDiff f g z end h p l = fit_both PosDiff f g z end h.call.first h.call.second h.sizes h.narrow h.call.stands l
start_fits (PosMinus v) f g z end h p l = fit_one (PosMinus v) f g z end h l
start_fits (Scale q) f g z end h p l = fit_one (Scale q) f g z end h l
start_fits (Shift Inf) f g z end h p l = tt
start_fits (Shift (Fin x)) f g z end h p l = (
  fit_one (Shift (Fin x)) f g z end h (left_of_sum (steady f) x end h.call.forward l),
  fit_sum z end (steady f) x h.sizes h.narrow (fit_first (Shift (Fin x)) f g z end h) record { whole = h.call.stands.times.0; nonneg = h.call.forward } l,
)
start_fits RunSup f g z end h p l = fit_one RunSup f g z end h l
start_fits RunInf f g z end h p l = fit_one RunInf f g z end h l
start_fits (FifoLeft Inf) f g z end h p l = tt
start_fits (FifoLeft (Fin theta)) f g z end h p l =
    let op : OpKind = FifoLeft (Fin theta) in
    let second = own_start z end g h.call.second (second_stands op z end f g h.call.stands) in
    let wait : IsStart z.dt theta = record { whole = h.call.stands.times.0; nonneg = h.call.forward } in
    let later : steady g +ℚ theta ≤ℚ end = le_trans (max_q_ge_right (steady f) (steady g +ℚ theta)) l in
    record {
      both = both_fit z end f g h.sizes h.narrow h.call.first h.call.second (first_stands op z end f g h.call.stands) (second_stands op z end f g h.call.stands)
          (le_trans (max_q_ge_left (steady f) (steady g +ℚ theta)) l) (left_of_sum (steady g) theta end wait.nonneg later);
      moved = fit_sum z end (steady g) theta h.sizes h.narrow second wait later;
    }
start_fits Convolve f g z end h p l =
    let first = fit_first Convolve f g z end h in
    let second = own_start z end g h.call.second (second_stands Convolve z end f g h.call.stands) in (
      both_fit z end f g h.sizes h.narrow h.call.first h.call.second (first_stands Convolve z end f g h.call.stands) (second_stands Convolve z end f g h.call.stands)
          (left_of_sum (steady f) (steady g) end second.nonneg l) (right_of_sum (steady f) (steady g) end first.nonneg l),
      fit_sum z end (steady f) (steady g) h.sizes h.narrow first second l,
    )
start_fits Deconvolve f g z end h p l =
    let common = common_on Deconvolve z end f g h.call.first h.call.second h.call.stands in
    let ahead = period_or (common_period f g) (period_of f.tail) in
    let first = fit_first Deconvolve f g z end h in
    let by = period_start z.dt ahead (own_or_on z end (common_period f g) f h.call.first (first_stands Deconvolve z end f g h.call.stands) common) in
    let both = both_start Deconvolve z end f g h.call.first h.call.stands in
    let early : steady f +ℚ ahead ≤ℚ end = left_of_sum (steady f +ℚ ahead) (both_steady f g) end both.nonneg l in
    let sum = sum_start z.dt (steady f) ahead first by in
    record {
      both = fit_both Deconvolve f g z end h.call.first h.call.second h.sizes h.narrow h.call.stands (right_of_sum (steady f +ℚ ahead) (both_steady f g) end sum.nonneg l);
      period = time_small z end (common_period f g) h.sizes h.narrow common.whole (le_of_lt common.above) p;
      first = fit_sum z end (steady f) ahead h.sizes h.narrow first by early;
      sum = fit_sum z end (steady f +ℚ ahead) (both_steady f g) h.sizes h.narrow sum both l;
    }
start_fits Horizontal f g z end h p l = fit_one Horizontal f g z end h l
start_fits Vertical f g z end h p l = fit_both Vertical f g z end h.call.first h.call.second h.sizes h.narrow h.call.stands l
start_fits Itself f g z end h p l = fit_one Itself f g z end h l
