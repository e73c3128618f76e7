-- From which number of periods on the convolution of two curves is the part in which the slower one repeats: the least, or that there is none.
use Rattle.std.specs.Prelude.{ℕ, Option, Some, None, MatchOption}
use Rattle.std.proofs.Common.{sym, inl, inr}
use Rattle.rational.specs.Rational.{ℚ, ◌-ℚ◌}
use Rattle.upp_curve.specs.Curve.{SpecCurve, value_at}
use Rattle.upp_curve.specs.Steady.{steady, rate, rise_over}
use Rattle.curve_call.proofs.TailMoves.{rates_compared, not_same}
use Rattle.curve_call.specs.declared.gaps.Gap.{Gap}
use Rattle.curve_call.specs.declared.gaps.Gap.TheVariants.{NoTime, Never, Is}
use Rattle.curve_call.specs.Gaps.{InWindow, IsGap}
use Rattle.curve_call.proofs.BoundedNumber.{least_found}
use Rattle.curve_conv.specs.Late.{IsLateAfter, IsLateNumber, IsLateCall, IsSlowerAfter, IsSlowerNumber, IsPartsCall}
use Rattle.curve_conv.proofs.FoundGaps.{call_gap}
use Rattle.curve_conv.proofs.LateNumbers.{Values, late_of, soon_of, some_lead, number_none, number_endless, number_gap}
use Rattle.curve_conv.proofs.LateShifts.{values_are}
use Rattle.curve_conv.proofs.Orders.{first_call, second_call, of_first, of_second, of_equal}

-- some number is the least, or none is enough
abbrev HasLate : SpecCurve → SpecCurve → ℚ → ℚ → Type 0
HasLate slow fast from d = (r : Option ℕ) × MatchOption r ((k : ℕ) → ¬ (IsLateAfter slow fast from d k)) (IsLateNumber slow fast from d)

by_gap : (slow fast : SpecCurve) (from d end : ℚ) → IsLateCall slow fast from d end → (V : Values slow fast from end) (gap : Gap)
    → IsGap (InWindow from end) (late_of slow fast from end V) (soon_of slow fast from end V) gap → HasLate slow fast from d
by_gap slow fast from d end C V NoTime h = (Some 0, number_none slow fast from d end C V h)
by_gap slow fast from d end C V Never h = (None, number_endless slow fast from d end C V h)
by_gap slow fast from d end C V (Is q) h =
    let both = values_are (value_at slow) (value_at fast) (steady slow) (steady fast) from end V in
    let some = some_lead slow fast from d end q (late_of slow fast from end V) (soon_of slow fast from end V) C both h in
    let (k, least) = least_found q (rise_over fast d -ℚ rise_over slow d) some in
    (Some k, number_gap slow fast from d end q k C V h least)

late_found : (slow fast : SpecCurve) (from d end : ℚ) → IsLateCall slow fast from d end → HasLate slow fast from d
late_found slow fast from d end C =
    let F = call_gap slow fast from d end C in
    let V = F.walk.values in
    by_gap slow fast from d end C V F.gap
    (F.walk.gap_is (late_of slow fast from end V) (soon_of slow fast from end V) (values_are (value_at slow) (value_at fast) (steady slow) (steady fast) from end V))

-- ---- either order of the rates
pub slower_found : (f g : SpecCurve) (from d end : ℚ) → IsPartsCall f g from d end
    → (r : Option ℕ) × MatchOption r ((k : ℕ) → ¬ (IsSlowerAfter f g from d k)) (IsSlowerNumber f g from d)
slower_found f g from d end C = elim (rates_compared (rate f) (rate g)) [
  | inl l ↦ let (r, h) = late_found f g from d end (first_call f g from d end C l) in (r, of_first f g from d r l h)
  | inr (inl e) ↦ (Some 0, of_equal f g from d (not_same (rate f) (rate g) e) (not_same (rate g) (rate f) (sym e)))
  | inr (inr l) ↦ let (r, h) = late_found g f from d end (second_call f g from d end C l) in (r, of_second f g from d r l h)
]
