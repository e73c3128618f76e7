-- The number of periods of a convolution for either order of the rates.
use Rattle.std.specs.Prelude.{◌≡◌, ℕ, pos, Option, Some, None, MatchOption}
use Rattle.std.proofs.Common.{arith, ◌∙◌, subst}
use Rattle.rational.specs.Rational.{ℚ, ◌+ℚ◌, ◌≤ℚ◌, ◌<ℚ◌, int}
use Rattle.rational.specs.Grid.{Whole}
use Rattle.rational.specs.Extended.{◌<ₑ◌}
use Rattle.rational.proofs.Linear.{with3, with5}
use Rattle.upp_curve.specs.Curve.{SpecCurve}
use Rattle.upp_limits.specs.declared.op_kind.OpKind.TheVariants.{Convolve}
use Rattle.upp_limits.specs.Gauges.{numbers_over, kind_numbers}
use Rattle.upp_limits.proofs.ClosedForms.{holds_joined, holds_left, holds_right}
use Rattle.upp_limits.specs.Limits.{Numbers, joined, curve_numbers}
use Rattle.upp_curve.specs.Steady.{steady, rate}
use Rattle.upp_normal.specs.Ahead.{HasWindow}
use Rattle.upp_limits.proofs.SameSizes.{Equals, same_sizes, equals_self, equals_joined}
use Rattle.curve_call.specs.Times.{OneLaterFits}
use Rattle.curve_call.proofs.CurveTimes.{one_later}
use Rattle.curve_call.proofs.Shifts.{same_least, least_zero}
use Rattle.curve_conv.specs.Scans.{sizes_in, IsScan}
use Rattle.curve_conv.specs.Late.{IsLateAfter, IsLateNumber, IsLateCall, IsSlowerAfter, IsSlowerNumber, IsPartsCall}
use Rattle.upp_normal.proofs.AnswerRoom.{wide_narrow}
use Rattle.curve_call.proofs.EitherOrder.{apart}
use Rattle.upp_curve.proofs.SteadyTimes.{steady_nonneg}

-- ---- the sizes of both orders are one
swapped : (a b c : Numbers) → Equals (joined a (joined b c)) (joined a (joined c b))
swapped a b c = equals_joined a a (joined b c) (joined c b) (equals_self a) (swap b c)
  where
    swap : (b c : Numbers) → Equals (joined b c) (joined c b)
    swap b c = record {
      there = λ T V S g f h. holds_joined T V S c b (holds_right T V S b c h) (holds_left T V S b c h);
      back = λ T V S g f h. holds_joined T V S b c (holds_right T V S c b h) (holds_left T V S c b h);
    }

sizes_swap : (f g : SpecCurve) (end : ℚ) → sizes_in f g end ≡ sizes_in g f end
sizes_swap f g end = same_sizes end (numbers_over Convolve f g end) (numbers_over Convolve g f end) (swapped (kind_numbers Convolve) (curve_numbers end f) (curve_numbers end g))

scan_swap : (f g : SpecCurve) (end : ℚ) → IsScan f g end → IsScan g f end
scan_swap f g end S = record { first = subst (λ z. HasWindow z end g) (sizes_swap f g end) S.second; second = subst (λ z. HasWindow z end f) (sizes_swap f g end) S.first }

-- ---- calls
pub first_call : (f g : SpecCurve) (from d end : ℚ) → IsPartsCall f g from d end → rate f <ₑ rate g → IsLateCall f g from d end
first_call f g from d end C h = record {
  scan = C.scan;
  slower = h;
  first = C.first;
  second = C.second;
  some = C.some;
  whole = C.whole;
  from_is = C.from_is;
  end_is = C.end_is;
}

pub second_call : (f g : SpecCurve) (from d end : ℚ) → IsPartsCall f g from d end → rate g <ₑ rate f → IsLateCall g f from d end
second_call f g from d end C h = record {
  scan = scan_swap f g end C.scan;
  slower = h;
  first = C.second;
  second = C.first;
  some = C.some;
  whole = subst (λ z. Whole z.dt d) (sizes_swap f g end) C.whole;
  from_is = C.from_is ∙ (let x = steady f in let y = steady g in with3 x y d (λ c. omega (arith, c.le, c.lt, c.same)));
  end_is = C.end_is;
}

later_than : (x y d from end : ℚ) → int (pos 0) ≤ℚ x → int (pos 0) ≤ℚ y → int (pos 0) <ℚ d → from ≡ x +ℚ y +ℚ d → end ≡ from +ℚ d → (x ≤ℚ end) × (y ≤ℚ end)
later_than x y d from end a b s e f = (with5 x y d from end (λ c. omega (arith, c.le, c.lt, c.same)), with5 x y d from end (λ c. omega (arith, c.le, c.lt, c.same)))

pub begins_fit : (f g : SpecCurve) (from d end : ℚ) → IsPartsCall f g from d end → OneLaterFits f × OneLaterFits g
begins_fit f g from d end C =
    let z = sizes_in f g end in
    let V = C.scan.first in
    let W = C.scan.second in
    let A = V.limited in
    let l = later_than (steady f) (steady g) d from end (steady_nonneg f V.curve) (steady_nonneg g W.curve) C.some C.from_is C.end_is in
    (one_later z end f A.sizes (wide_narrow z end A) V.curve V.stands l.0, one_later z end g A.sizes (wide_narrow z end A) W.curve W.stands l.1)

-- ---- numbers

pub of_first : (f g : SpecCurve) (from d : ℚ) (r : Option ℕ) → rate f <ₑ rate g → MatchOption r ((k : ℕ) → ¬ (IsLateAfter f g from d k)) (IsLateNumber f g from d)
    → MatchOption r ((k : ℕ) → ¬ (IsSlowerAfter f g from d k)) (IsSlowerNumber f g from d)
of_first f g from d None h m = λ k w. m k (w.first h)
of_first f g from d (Some k) h m = record {
  least = same_least (IsSlowerAfter f g from d) (IsLateAfter f g from d) k (λ i w. w.first h) (λ i w. record { first = λ l. w; second = λ l. absurd (apart (rate f) (rate g) h l) }) m.least;
  late = record { first = λ l. m.late; second = λ l. absurd (apart (rate f) (rate g) h l) };
}

pub of_second : (f g : SpecCurve) (from d : ℚ) (r : Option ℕ) → rate g <ₑ rate f → MatchOption r ((k : ℕ) → ¬ (IsLateAfter g f from d k)) (IsLateNumber g f from d)
    → MatchOption r ((k : ℕ) → ¬ (IsSlowerAfter f g from d k)) (IsSlowerNumber f g from d)
of_second f g from d None h m = λ k w. m k (w.second h)
of_second f g from d (Some k) h m = record {
  least = same_least (IsSlowerAfter f g from d) (IsLateAfter g f from d) k (λ i w. w.second h) (λ i w. record { first = λ l. absurd (apart (rate f) (rate g) l h); second = λ l. w }) m.least;
  late = record { first = λ l. absurd (apart (rate f) (rate g) l h); second = λ l. m.late };
}

pub of_equal : (f g : SpecCurve) (from d : ℚ) → ¬ (rate f <ₑ rate g) → ¬ (rate g <ₑ rate f) → IsSlowerNumber f g from d 0
of_equal f g from d h k = record {
  least = least_zero (IsSlowerAfter f g from d) record { first = λ l. absurd (h l); second = λ l. absurd (k l) };
  late = record { first = λ l. absurd (h l); second = λ l. absurd (k l) };
}
