-- Where the gauge of two curves' minimum over a window is below the limit, its sizes serve for their comparison.
use Rattle.std.specs.Prelude.{◌≡◌, ◌<◌, ◌^◌, ℤ, pos}
use Rattle.std.proofs.Common.{arith, sym, subst, refl, ◌∙◌}
use Rattle.rational.specs.Rational.{ℚ, ◌+ℚ◌, ◌*ℚ◌, ◌≤ℚ◌, ◌<ℚ◌, int}
use Rattle.rational.specs.Grid.{Whole}
use Rattle.rational.proofs.Linear.{with2}
use Rattle.rational.proofs.Laws.{one_mul}
use Rattle.rational.proofs.Grid.{whole_int}
use Rattle.upp_limits.specs.declared.op_kind.OpKind.TheVariants.{Min}
use Rattle.upp_curve.specs.declared.curve.Tail.{Tail}
use Rattle.upp_curve.specs.declared.curve.Tail.TheVariants.{Periodic, Affine, Infinite}
use Rattle.upp_curve.specs.Curve.{SpecCurve}
use Rattle.upp_curve.specs.Curves.{IsCurve}
use Rattle.upp_curve.specs.Steady.{steady, IsWholePeriods}
use Rattle.upp_limits.specs.Limits.{Sizes, no_numbers, joined, curve_numbers, sizes_of}
use Rattle.upp_limits.specs.Sized.{Stands}
use Rattle.upp_limits.specs.Gauges.{gauge_over, both_numbers, numbers_over}
use Rattle.upp_limits.proofs.CurveStands.{are_sizes}
use Rattle.upp_limits.proofs.Stands.{sizes_stand, stands_left, stands_right}
use Rattle.curve_call.specs.Compared.{AreCompared}

pub min_sizes : SpecCurve → SpecCurve → ℚ → Sizes
min_sizes f g end = sizes_of end (numbers_over Min f g end)

pub known_compared : (f g : SpecCurve) (from d : ℚ) (n : ℤ) → IsCurve f → IsCurve g → gauge_over Min f g (from +ℚ d) < 2 ^ 120 → from ≡ int n → int (pos 0) ≤ℚ from → int (pos 0) <ℚ d
    → (steady f ≤ℚ from) × IsWholePeriods f.tail d → (steady g ≤ℚ from) × IsWholePeriods g.tail d → AreCompared (min_sizes f g (from +ℚ d)) from d f g
unfolding min_sizes gauge_over
known_compared f g from d n F G small at low some first second =
    let end = from +ℚ d in
    let z = sizes_of end (numbers_over Min f g end) in
    let all : Stands z (joined no_numbers (both_numbers end f g)) = sizes_stand end (numbers_over Min f g end) in
    let both : Stands z (both_numbers end f g) = stands_right z no_numbers (both_numbers end f g) all in
    record {
      limited = record { sizes = are_sizes end (numbers_over Min f g end); gauge = small; some = with2 from d (λ c. omega (arith, c.le, c.lt, c.same)) };
      start = subst (Whole z.dt) (sym at) (whole_int z.dt n);
      some = some;
      first = record { curve = F; stands = stands_left z (curve_numbers end f) (curve_numbers end g) both; steady_by = first.0; periods = first.1 };
      second = record { curve = G; stands = stands_right z (curve_numbers end f) (curve_numbers end g) both; steady_by = second.0; periods = second.1 };
    }

-- ---- whole periods, as they are looked up
pub one_period : (tail found : Tail) (rank own rise d : ℚ) → found ≡ tail → found ≡ Periodic rank own rise → own ≡ d → IsWholePeriods tail d
one_period tail found rank own rise d e f same =
    let once : d ≡ int (pos 1) *ℚ own = sym (one_mul own ∙ same) in
    let whole : IsWholePeriods (Periodic rank own rise) d = (1, once) in
    subst (λ k. IsWholePeriods k d) (sym f ∙ e) whole

pub any_period : (tail found : Tail) (d : ℚ) → found ≡ tail → ((rank period rise : ℚ) → found ≡ Periodic rank period rise → ⊥) → IsWholePeriods tail d
any_period tail found d e none = subst (λ k. IsWholePeriods k d) e (by_tail found none)
  where
    by_tail : (k : Tail) → ((rank period rise : ℚ) → k ≡ Periodic rank period rise → ⊥) → IsWholePeriods k d
    by_tail (Periodic rank period rise) h = absurd (h rank period rise refl)
    by_tail (Affine rank) h = tt
    by_tail (Infinite rank) h = tt
