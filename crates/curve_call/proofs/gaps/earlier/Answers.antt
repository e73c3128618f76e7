use Rattle.std.proofs.Common.{refl, sym, ap, ◌∙◌, true≢false}
use Rattle.curve_call.specs.GapSteps.{earlier_of}
use Rattle.curve_call.proofs.GapSizes.{earlier_left, earlier_right}
use Rattle.curve_call.proofs.gaps.earlier.Goals as goal

pub returns-then-is_less : goal.returns-then-is_less
returns-then-is_less c = earlier_right c.args.t c.in-Some.e (c.if-is_less.ensures.less.0 refl) ∙ sym (ap (earlier_of c.args.t) c.in-Some.is)

pub returns-else-is_less : goal.returns-else-is_less
returns-else-is_less c = earlier_left c.args.t c.in-Some.e (λ h. true≢false (sym (c.if-is_less.ensures.less.1 h))) ∙ sym (ap (earlier_of c.args.t) c.in-Some.is)
