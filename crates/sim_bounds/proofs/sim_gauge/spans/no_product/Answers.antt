use Rattle.std.proofs.Common.{sym, ap, ◌∙◌, subst}
use Rattle.std.specs.Prelude.{pos}
use Rattle.rational.specs.Rational.{int, ◌*ℚ◌, ◌≤ℚ◌}
use Rattle.rational.proofs.Laws.{le_refl, zero_mul}
use Rattle.sim_bounds.proofs.sim_gauge.spans.no_product.Goals as goal

pub returns-clause-value : goal.returns-clause-value
returns-clause-value c = ap (λ x. x *ℚ c.zero-2.result) c.zero.ensures ∙ zero_mul c.zero-2.result

pub returns-clause-from_zero : goal.returns-clause-from_zero
returns-clause-from_zero c = record {
  left = subst (λ x. int (pos 0) ≤ℚ x) (sym c.zero.ensures) (le_refl (int (pos 0)));
  right = subst (λ x. int (pos 0) ≤ℚ x) (sym c.zero-2.ensures) (le_refl (int (pos 0)));
}
