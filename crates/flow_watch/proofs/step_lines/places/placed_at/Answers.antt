use Rattle.std.proofs.Common.{refl, ap, ◌∙◌}
use Rattle.rational.specs.Rational.{◌-ℚ◌}
use Rattle.flow_watch.proofs.step_lines.places.placed_at.Goals as goal

pub returns : goal.returns
returns c = record {
  before_is = refl;
  lag_is = c.in_ok-lag.ensures.value ∙ ap (λ x. c.args.before.steps -ℚ x) c.in_ok-risen.ensures.value;
  after_is = refl;
  lead_is = c.in_ok-lead.ensures.value ∙ ap (λ x. c.args.after.steps -ℚ x) c.in_ok-risen.ensures.value;
}
