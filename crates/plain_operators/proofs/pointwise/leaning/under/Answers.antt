use Rattle.std.proofs.Common.{refl, sym, true≢false}
use Rattle.rational.proofs.Laws.{le_of_not_lt}
use Rattle.plain_operators.proofs.pointwise.Leanings.{under_start, under_all}
use Rattle.plain_operators.proofs.pointwise.leaning.under.Goals as goal

pub loop-step-init : goal.loop-step-init
loop-step-init c = under_start c.args.c.now c.args.from c.args.end c.args.rate c.in_ok-icept.icept c.requires

pub returns-then-not-is_less : goal.returns-then-not-is_less
returns-then-not-is_less c =
    under_all c.args.c.now c.args.from c.args.end c.args.rate c.loop-step.reached c.loop-step.invariant (le_of_not_lt (λ h. true≢false (sym (c.if-not-is_less.ensures.less.1 h))))

pub higher_step-requires-clause-before : goal.higher_step-requires-clause-before
higher_step-requires-clause-before c = c.if-not-is_less.ensures.less.0 refl
