-- The operator of a segment: how many of the stretches of its sums end before the next begins, and its limits.
use Rattle.std.specs.Prelude.{◌≡◌, ℕ, suc, ◌+◌, ◌*◌, ◌^◌, ◌<◌, ◌≤◌, cond, pos, Some, None, Result, Ok, Err, IfOk}
use Rattle.std.proofs.Common.{arith, sym, refl, ap, ◌∙◌, subst}
use Rattle.rational.specs.Rational.{ℚ, ◌-ℚ◌, ◌/ℚ◌, ◌≤ℚ◌, ◌<ℚ◌, int}
use Rattle.rational.specs.Whole.{whole_part}
use Rattle.rational.specs.declared.Extended.TheVariants.{Fin, Inf}
use Rattle.rational.proofs.Over.{lt_q_out}
use Rattle.rational.proofs.MinMax.{lt_q_not}
use Rattle.rational.proofs.Laws.{one_mul}
use Rattle.rational.proofs.Quotients.{div_lt}
use Rattle.rational.proofs.Linear.{with2}
use Rattle.rational.proofs.Whole.{whole_small}
use Rattle.upp_curve.specs.declared.affine_segment.line.Line.{Line}
use Rattle.upp_curve.specs.declared.affine_segment.element.Element.TheVariants.{Open}
use Rattle.upp_limits.specs.declared.op_kind.OpKind.TheVariants.{Itself}
use Rattle.upp_limits.specs.declared.op_kind.OpFault.{OpFault}
use Rattle.upp_limits.specs.declared.op_kind.OpFault.TheVariants.{TooMany, TooWide, NoMemory}
use Rattle.upp_curve.specs.Curve.{SpecCurve}
use Rattle.min_plus.specs.Functions.{zero_q}
use Rattle.upp_limits.specs.Limits.{gauge_of, sizes_of, own_end, own_sizes, own_gauge}
use Rattle.upp_limits.specs.Windows.{window_at}
use Rattle.upp_limits.specs.Gauges.{numbers_over, gauge_over, gauge_at}
use Rattle.upp_limits.specs.declared.call_sizes.CallNumbers.{CallNumbers}
use Rattle.upp_limits.specs.CallNumbers.{AreCallNumbers}
use Rattle.curve_call.specs.declared.windows.CallWindow.{CallWindow}
use Rattle.curve_call.specs.FirstWindows.{IsFirstWindow, IsWideAtFirst}
use Rattle.subadd_closure.specs.ElementCurves.{IsStretch}
use Rattle.subadd_closure.specs.MeetLaws.{StretchesMeet}
use Rattle.subadd_closure.specs.Folds.{segment_number, SegmentWithin}
use Rattle.subadd_closure.specs.SegmentLimits.{IsOwnGauge, IsOverlap}

-- the gauge of the call that looks at a curve alone is the curve's own
gauge_alone : (f : SpecCurve) → gauge_at Itself f f 0 0 ≡ own_gauge f
unfolding gauge_over window_at own_end own_sizes
gauge_alone f = refl

numbers_alone : (f : SpecCurve)
    → gauge_of (sizes_of (window_at Itself f f 0 0) (numbers_over Itself f f (window_at Itself f f 0 0))) ≡ own_gauge f
unfolding window_at own_end own_sizes
numbers_alone f = refl

pub gauge_found : (f : SpecCurve) (w : CallWindow) (n : CallNumbers) → IsFirstWindow Itself f f w
    → AreCallNumbers (sizes_of w.end (numbers_over Itself f f w.end)) n → IsOwnGauge f (Some n.gauge)
gauge_found f w n first numbers = (
  numbers.gauge ∙ ap (λ x. gauge_of (sizes_of x (numbers_over Itself f f x))) first.window.end ∙ numbers_alone f,
  subst (λ k. k < 2 ^ 120) (gauge_alone f) first.gauge,
)

pub wide_found : (f : SpecCurve) (fault : OpFault) → IsWideAtFirst Itself f f fault → 2 ^ 120 ≤ own_gauge f
wide_found f TooMany h = absurd h
wide_found f TooWide h = subst (λ k. 2 ^ 120 ≤ k) (gauge_alone f) h
wide_found f NoMemory h = absurd h

-- ---- the number of a segment
abbrev number : ℚ → ℚ → ℕ
number a b = whole_part (a /ℚ (b -ℚ a))

number_late : (a b : ℚ) (l : Line) → zero_q <ℚ a → segment_number (Open a (Fin b) l) ≡ Some (suc (number a b))
number_late a b l h = ap (λ t. cond t (Some (suc (number a b))) None) (lt_q_out zero_q a h)

pub number_early : (a b : ℚ) (l : Line) → a ≤ℚ zero_q → segment_number (Open a (Fin b) l) ≡ None
number_early a b l h = ap (λ t. cond t (Some (suc (number a b))) None) (lt_q_not zero_q a h)

-- ---- without a number
pub endless_overlap : (f : SpecCurve) (a : ℚ) (l : Line) → IsStretch a Inf 0 → IsOverlap f a Inf l 0
endless_overlap f a l s = record { within = tt; stretch = s; few = omega arith }

pub early_overlap : (f : SpecCurve) (a b : ℚ) (l : Line) → a ≤ℚ zero_q → IsStretch a (Fin b) 0
    → IsOverlap f a (Fin b) l 0
early_overlap f a b l h s = record {
  within = subst (SegmentWithin f) (sym (number_early a b l h)) tt;
  stretch = s;
  few = omega arith;
}

-- ---- with one
late_overlap : (f : SpecCurve) (a b : ℚ) (l : Line) (gauge m : ℕ) → zero_q <ℚ a → gauge ≡ own_gauge f → m ≡ number a b
    → (m + 3) * gauge < 2 ^ 120 → m + 3 ≤ 2 ^ 19 → IsStretch a (Fin b) (number a b) → IsOverlap f a (Fin b) l m
late_overlap f a b l gauge m h same is narrow few s = record {
  within = subst (SegmentWithin f) (sym (number_late a b l h)) (subst (λ k. SegmentWithin f (Some (suc k))) is (
    subst (λ g. (suc m + 2) * g < 2 ^ 120) same (subst (λ k. k * gauge < 2 ^ 120) next narrow),
    omega (arith, few),
  ));
  stretch = subst (IsStretch a (Fin b)) (sym is) s;
  few = few;
}
  where
    next : m + 3 ≡ suc m + 2
    next = omega arith

pub found_overlap : (f : SpecCurve) (a b : ℚ) (l : Line) (gauge m : ℕ) (r : Result ℕ OpFault) → zero_q <ℚ a
    → gauge ≡ own_gauge f
    → m ≡ number a b → IfOk r (λ k. k ≡ m) → IfOk r (λ k. (m + 3) * gauge < 2 ^ 120) → IfOk r (λ k. m + 3 ≤ 2 ^ 19)
    → IsStretch a (Fin b) (number a b) → IfOk r (IsOverlap f a (Fin b) l)
found_overlap f a b l gauge m (Ok k) h same is found narrow few s =
    subst (IsOverlap f a (Fin b) l) (sym found) (late_overlap f a b l gauge m h same is narrow few s)
found_overlap f a b l gauge m (Err e) h same is found narrow few s = tt

-- ---- a stretch from 0 on
pub early_stretch : StretchesMeet → (a b : ℚ) → zero_q ≤ℚ a → a ≤ℚ zero_q → a <ℚ b → IsStretch a (Fin b) 0
early_stretch meet a b low high room =
    subst (IsStretch a (Fin b)) (whole_small (a /ℚ (b -ℚ a)) less) (meet.ended a b low room)
  where
    some : zero_q <ℚ b -ℚ a
    some = with2 a b (λ o. omega (arith, o.le, o.lt, o.same))

    less : a /ℚ (b -ℚ a) <ℚ int (pos 1)
    less = (div_lt a (b -ℚ a) (int (pos 1)) some).1
        (subst (λ x. a <ℚ x) (sym (one_mul (b -ℚ a))) (with2 a b (λ o. omega (arith, o.le, o.lt, o.same))))
