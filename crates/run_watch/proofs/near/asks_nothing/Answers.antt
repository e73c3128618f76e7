use Rattle.std.proofs.Common.{◌∙◌, sym, subst}
use Rattle.rational.specs.Rational.{◌≤ℚ◌}
use Rattle.rational.proofs.Over.{le_q_in}
use Rattle.run_watch.proofs.near.asks_nothing.Goals as goal

pub returns-then-eq : goal.returns-then-eq
returns-then-eq c h = record {
  start = c.eq.ensures.same.0 c.if-eq.true ∙ c.zero.ensures;
  value = subst (λ z. c.args.g.now.value ≤ℚ z) c.zero-then-eq.ensures
      (le_q_in c.args.g.now.value c.zero-then-eq.result (sym c.is_at_most.ensures ∙ h));
}
