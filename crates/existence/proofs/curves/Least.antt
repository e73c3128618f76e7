-- From which number of periods on the slower of two curves is nowhere above the faster.
use Rattle.std.specs.Prelude.{ℕ, Option, Some, None, MatchOption}
use Rattle.std.proofs.Common.{inl, inr, sym}
use Rattle.rational.specs.Rational.{ℚ, ◌+ℚ◌, ◌-ℚ◌}
use Rattle.rational.specs.Extended.{◌<ₑ◌}
use Rattle.upp_curve.specs.Curve.{SpecCurve, value_at}
use Rattle.upp_curve.specs.Steady.{rate, rise_over}
use Rattle.upp_limits.specs.Limits.{Sizes}
use Rattle.upp_limits.specs.Windows.{IsLeast}
use Rattle.curve_call.proofs.TailMoves.{rates_compared, not_same}
use Rattle.curve_call.specs.Compared.{AreCompared, IsEnough}
use Rattle.curve_call.specs.declared.gaps.Gap.{Gap}
use Rattle.curve_call.specs.declared.gaps.Gap.TheVariants.{NoTime, Never, Is}
use Rattle.curve_call.specs.Gaps.{InWindow, IsGap, IsLargest}
use Rattle.curve_call.proofs.EitherOrder.{other_way, of_first, of_second, of_equal}
use Rattle.curve_call.proofs.LeastNumber.{IsBelowAfter, compared_window, largest_finite, lead_is, least_none, least_endless, least_gap}
use Rattle.curve_call.proofs.BoundedNumber.{least_found}
use Rattle.curve_call.proofs.GapThere.{gap_there}

-- some number is the least with P, or none has it
abbrev pub IsFound : (ℕ → Type 0) → Type 0
IsFound P = (k : Option ℕ) × MatchOption k ((n : ℕ) → ¬ (P n)) (IsLeast P)

-- ---- a slower and a faster curve
below : (z : Sizes) (from d : ℚ) (slow fast : SpecCurve) → rate slow <ₑ rate fast → AreCompared z from d slow fast → IsFound (IsBelowAfter slow fast from d)
below z from d slow fast slower C = let (V, W, T) = compared_window z from d slow fast C.first.curve C.second.curve C in by_gap (gap_there z slow fast from (from +ℚ d) V W T)
  where
    by_largest : (q : ℚ) → IsLargest (InWindow from (from +ℚ d)) (value_at slow) (value_at fast) q → IsFound (IsBelowAfter slow fast from d)
    by_largest q L =
        let finite = largest_finite from (from +ℚ d) q slow fast L in
        let lead = lead_is z from d slow fast slower C finite.0 finite.1 in
        let (k, least) = least_found q (rise_over fast d -ℚ rise_over slow d) lead.some in
        (Some k, least_gap z from d slow fast q k C.first.curve C.second.curve C L least)

    by_gap : (gap : Gap) × IsGap (InWindow from (from +ℚ d)) (value_at slow) (value_at fast) gap → IsFound (IsBelowAfter slow fast from d)
    by_gap (NoTime, h) = (Some 0, least_none z from d slow fast C.first.curve C.second.curve C h)
    by_gap (Never, h) = (None, least_endless z from d slow fast C.first.curve C.second.curve C h)
    by_gap (Is q, h) = by_largest q h

-- ---- either order
pub least_of : (z : Sizes) (from d : ℚ) (f g : SpecCurve) → AreCompared z from d f g → IsFound (IsEnough f g from d)
least_of z from d f g C = elim (rates_compared (rate f) (rate g)) [
  | inl l ↦ let (k, h) = below z from d f g l C in (k, of_first f g from d k l h)
  | inr (inl e) ↦ (Some 0, of_equal f g from d (not_same (rate f) (rate g) e) (not_same (rate g) (rate f) (sym e)))
  | inr (inr l) ↦ let (k, h) = below z from d g f l (other_way z from d f g C) in (k, of_second f g from d k l h)
]
