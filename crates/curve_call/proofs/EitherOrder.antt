-- The number of periods for either order of the rates.
use Rattle.std.specs.Prelude.{◌≡◌, ℕ, Option, Some, None, MatchOption}
use Rattle.std.proofs.Common.{subst}
use Rattle.rational.specs.Rational.{ℚ}
use Rattle.rational.specs.Extended.{Ext, ◌<ₑ◌}
use Rattle.rational.proofs.ExtendedOrder.{lt_ext_trans, lt_ext_irrefl}
use Rattle.upp_curve.specs.Curve.{SpecCurve}
use Rattle.upp_curve.specs.Steady.{rate}
use Rattle.upp_limits.specs.Periods.{both_steady, common_period}
use Rattle.upp_limits.specs.declared.op_kind.OpKind.TheVariants.{Min, Max, PosDiff}
use Rattle.upp_limits.specs.Limits.{Sizes}
use Rattle.upp_limits.specs.Windows.{IsLeast, Meets}
use Rattle.curve_call.specs.Compared.{AreCompared, IsEnough}
use Rattle.curve_call.proofs.Shifts.{same_least, least_zero}
use Rattle.curve_call.proofs.LeastNumber.{IsBelowAfter}

pub other_way : (z : Sizes) (from d : ℚ) (f g : SpecCurve) → AreCompared z from d f g → AreCompared z from d g f
other_way z from d f g C = record { limited = C.limited; start = C.start; some = C.some; first = C.second; second = C.first }

pub apart : (x y : Ext) → x <ₑ y → y <ₑ x → ⊥
apart x y h k = lt_ext_irrefl x (lt_ext_trans x y x h k)

pub first_in : (f g : SpecCurve) (from d : ℚ) (k : ℕ) → rate f <ₑ rate g → IsBelowAfter f g from d k → IsEnough f g from d k
first_in f g from d k h w = record { first = λ l. w; second = λ l. absurd (apart (rate f) (rate g) h l) }

pub second_in : (f g : SpecCurve) (from d : ℚ) (k : ℕ) → rate g <ₑ rate f → IsBelowAfter g f from d k → IsEnough f g from d k
second_in f g from d k h w = record { first = λ l. absurd (apart (rate f) (rate g) l h); second = λ l. w }

-- of f and g what least_below says of the slower and the faster
pub of_first : (f g : SpecCurve) (from d : ℚ) (r : Option ℕ) → rate f <ₑ rate g → MatchOption r ((k : ℕ) → ¬ (IsBelowAfter f g from d k)) (IsLeast (IsBelowAfter f g from d))
    → MatchOption r ((k : ℕ) → ¬ (IsEnough f g from d k)) (IsLeast (IsEnough f g from d))
of_first f g from d None h m = λ k w. m k (w.first h)
of_first f g from d (Some k) h m = same_least (IsEnough f g from d) (IsBelowAfter f g from d) k (λ i w. w.first h) (λ i w. first_in f g from d i h w) m

pub of_second : (f g : SpecCurve) (from d : ℚ) (r : Option ℕ) → rate g <ₑ rate f → MatchOption r ((k : ℕ) → ¬ (IsBelowAfter g f from d k)) (IsLeast (IsBelowAfter g f from d))
    → MatchOption r ((k : ℕ) → ¬ (IsEnough f g from d k)) (IsLeast (IsEnough f g from d))
of_second f g from d None h m = λ k w. m k (w.second h)
of_second f g from d (Some k) h m = same_least (IsEnough f g from d) (IsBelowAfter g f from d) k (λ i w. w.second h) (λ i w. second_in f g from d i h w) m

pub of_equal : (f g : SpecCurve) (from d : ℚ) → ¬ (rate f <ₑ rate g) → ¬ (rate g <ₑ rate f) → IsLeast (IsEnough f g from d) 0
of_equal f g from d h k = least_zero (IsEnough f g from d) record { first = λ l. absurd (h l); second = λ l. absurd (k l) }

-- with the time from which on both repeat, and their common period, it is the number that minimum, maximum and positive difference ask for
pub enough_meets : (f g : SpecCurve) (from d : ℚ) (r : Option ℕ) → from ≡ both_steady f g → d ≡ common_period f g → MatchOption r ((k : ℕ) → ¬ (IsEnough f g from d k)) (IsLeast (IsEnough f g from d))
    → MatchOption r ((k : ℕ) → ¬ (Meets Min f g k)) (IsLeast (Meets Min f g)) × MatchOption r ((k : ℕ) → ¬ (Meets Max f g k)) (IsLeast (Meets Max f g))
    × MatchOption r ((k : ℕ) → ¬ (Meets PosDiff f g k)) (IsLeast (Meets PosDiff f g))
enough_meets f g from d r e h m =
    let n = subst (λ s. MatchOption r ((k : ℕ) → ¬ (IsEnough f g s (common_period f g) k)) (IsLeast (IsEnough f g s (common_period f g)))) e
    (subst (λ p. MatchOption r ((k : ℕ) → ¬ (IsEnough f g from p k)) (IsLeast (IsEnough f g from p))) h m) in
    (n, n, n)
