use Rattle.std.proofs.Common.{sym, subst}
use Rattle.std.specs.Prelude.{pos}
use Rattle.rational.specs.Rational.{int, ◌≤ℚ◌}
use Rattle.rational.proofs.Laws.{le_of_lt, le_trans, not_zero}
use Rattle.rational.proofs.Quotients.{div_nonneg}
use Rattle.sim_bounds.proofs.sim_gauge.spans.gate_product.Goals as goal

pub over-requires : goal.over-requires
over-requires c = not_zero c.args.slot c.requires.some

pub returns-in-Some-clause-from_zero : goal.returns-in-Some-clause-from_zero
returns-in-Some-clause-from_zero c = record {
  left = subst (λ x. int (pos 0) ≤ℚ x) (sym c.in-Some.ensures.value)
      (div_nonneg c.args.cycle c.args.slot c.requires.some (le_trans (le_of_lt c.requires.some) c.requires.within));
  right = c.requires.from_zero;
}
