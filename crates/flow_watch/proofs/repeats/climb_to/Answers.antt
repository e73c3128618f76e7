use Rattle.std.proofs.Common.{refl, sym, subst, ap, ◌∙◌, true≢false}
use Rattle.rational.specs.Rational.{ℚ, ◌-ℚ◌, ◌*ℚ◌, ◌≤ℚ◌, ◌<ℚ◌}
use Rattle.rational.proofs.Laws.{div_mul, le_of_not_lt, not_zero}
use Rattle.flow_watch.proofs.repeats.climb_to.Goals as goal

pub div-requires : goal.div-requires
div-requires c = not_zero c.args.period c.requires

pub returns : goal.returns
returns c = record {
  one = ap (λ x. x *ℚ c.args.period) c.in-Ok.ensures.value ∙ div_mul c.one.result c.args.period (not_zero c.args.period c.requires) ∙ c.one.ensures;
  rises = subst (λ (z : ℚ). z <ℚ c.in-Ok.rate) c.zero.ensures (c.if-not-is_less.ensures.less.0 refl);
  slack = c.in-Ok-sub.ensures.value ∙ ap (λ x. c.args.count -ℚ x) c.in-Ok-mul.ensures.value;
  some = subst (λ (z : ℚ). z ≤ℚ c.in-Ok-sub.slack) c.zero-2.ensures (le_of_not_lt (λ h. true≢false (sym (c.if-is_less.ensures.less.1 h))));
}
