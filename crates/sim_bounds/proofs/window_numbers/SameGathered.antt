-- What was gathered of some numbers was gathered of others of the same sizes; so their order does not count.
use Rattle.std.proofs.Common.{◌≡◌, List, [], ◌∷◌, ◌++◌, refl, ap, ◌∙◌, subst}
use Rattle.rational.specs.Rational.{ℚ}
use Rattle.rational.specs.Gauge.{Kept, common_den}
use Rattle.upp_curve.specs.Curve.{SpecCurve}
use Rattle.upp_limits.specs.declared.gathered.Gathered.{Gathered}
use Rattle.upp_limits.specs.Limits.{Numbers, joined}
use Rattle.upp_limits.specs.Gathered.{Gathers}
use Rattle.upp_limits.proofs.CommonDen.{common_den_each, same_common_den}
use Rattle.upp_limits.proofs.JoinedNumbers.{joined_assoc}
use Rattle.upp_limits.proofs.SameSizes.{Equals, turned, times_pass, den_values, den_slopes, bound_values, bound_slopes}
use Rattle.sim_bounds.specs.Gauge.{numbers_to, numbers_of_curves}

den_times : (a b : Numbers) → Equals a b → common_den a.times ≡ common_den b.times
den_times a b p =
    same_common_den a.times b.times
    (times_pass b a (common_den b.times) (turned a b p) (common_den_each b.times))
    (times_pass a b (common_den a.times) p (common_den_each a.times))

pub gathers_equal : (g : Gathered) (a b : Numbers) → Equals a b → Gathers g a → Gathers g b
gathers_equal g a b p h = record {
  dv = subst (λ n. Kept g.dv n) (den_values a b p) h.dv;
  dt = subst (λ n. Kept g.dt n) (den_times a b p) h.dt;
  ds = subst (λ n. Kept g.ds n) (den_slopes a b p) h.ds;
  steepness = subst (λ n. Kept g.steepness n) (bound_slopes a b p) h.steepness;
  largest = subst (λ n. Kept g.largest n) (bound_values a b p) h.largest;
}

-- the curves one after another
pub curves_split : (end : ℚ) (xs ys : List SpecCurve) → joined (numbers_of_curves end xs) (numbers_of_curves end ys) ≡ numbers_of_curves end (xs ++ ys)
curves_split end [] ys = refl
curves_split end (c ∷ cs) ys = joined_assoc (numbers_to end c) (numbers_of_curves end cs) (numbers_of_curves end ys) ∙ ap (joined (numbers_to end c)) (curves_split end cs ys)
