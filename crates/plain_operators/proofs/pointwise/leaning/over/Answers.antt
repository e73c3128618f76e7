use Rattle.std.proofs.Common.{refl, sym, true≢false}
use Rattle.rational.proofs.Laws.{le_of_not_lt}
use Rattle.plain_operators.proofs.pointwise.Leanings.{over_start, over_all}
use Rattle.plain_operators.proofs.pointwise.leaning.over.Goals as goal

pub loop-step-init : goal.loop-step-init
loop-step-init c = over_start c.args.c.now c.args.from c.args.end c.args.rate c.in_ok-icept.icept c.requires

pub returns-then-not-is_less : goal.returns-then-not-is_less
returns-then-not-is_less c =
    over_all c.args.c.now c.args.from c.args.end c.args.rate c.loop-step.reached c.loop-step.invariant (le_of_not_lt (λ h. true≢false (sym (c.if-not-is_less.ensures.less.1 h))))

pub lower_step-requires-clause-before : goal.lower_step-requires-clause-before
lower_step-requires-clause-before c = c.if-not-is_less.ensures.less.0 refl
