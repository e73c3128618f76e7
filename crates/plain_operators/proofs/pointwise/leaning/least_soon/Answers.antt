use Rattle.std.proofs.Common.{◌≡◌, ℕ, subst}
use Rattle.std.specs.Prelude.{Option, MatchOption}
use Rattle.rational.specs.Rational.{ℚ}
use Rattle.upp_curve.specs.Curve.{SpecCurve}
use Rattle.upp_limits.specs.Windows.{IsLeast}
use Rattle.curve_call.proofs.LeastNumber.{IsBelowAfter}
use Rattle.plain_operators.proofs.pointwise.leaning.least_soon.Goals as goal

-- of two curves under other names
named : (f g slow fast : SpecCurve) (from d : ℚ) (r : Option ℕ) → f ≡ slow → g ≡ fast → MatchOption r ((k : ℕ) → ¬ (IsBelowAfter f g from d k)) (IsLeast (IsBelowAfter f g from d))
    → MatchOption r ((k : ℕ) → ¬ (IsBelowAfter slow fast from d k)) (IsLeast (IsBelowAfter slow fast from d))
named f g slow fast from d r e h m =
    subst (λ a. MatchOption r ((k : ℕ) → ¬ (IsBelowAfter a fast from d k)) (IsLeast (IsBelowAfter a fast from d))) e
    (subst (λ b. MatchOption r ((k : ℕ) → ¬ (IsBelowAfter f b from d k)) (IsLeast (IsBelowAfter f b from d))) h m)

pub returns-in-None : goal.returns-in-None
returns-in-None c = named c.of.result c.of-in-None.result c.args.slow.now c.args.fast.now c.args.from c.args.period c.least_below.result c.of.ensures c.of-in-None.ensures c.least_below.ensures

pub returns-in-Some : goal.returns-in-Some
returns-in-Some c =
    named c.of-in-Some.result c.of-in-Some-2.result c.args.slow.now c.args.fast.now c.args.from c.args.period c.least_below_until.result c.of-in-Some.ensures c.of-in-Some-2.ensures c.least_below_until.ensures
