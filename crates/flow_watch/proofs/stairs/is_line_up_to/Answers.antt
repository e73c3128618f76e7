use Rattle.std.proofs.Common.{◌∙◌, sym, subst}
use Rattle.rational.specs.Rational.{ℚ, ◌≤ℚ◌}
use Rattle.rational.proofs.Over.{le_q_in}
use Rattle.flow_watch.proofs.stairs.is_line_up_to.Goals as goal

pub returns-in-Ok : goal.returns-in-Ok
returns-in-Ok c = λ yes. subst (λ (x : ℚ). x ≤ℚ c.args.count) c.in-Ok.ensures (le_q_in c.in-Ok.value c.args.count (sym c.is_at_most.ensures ∙ yes))
