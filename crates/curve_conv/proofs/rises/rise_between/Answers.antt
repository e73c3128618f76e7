use Rattle.std.proofs.Common.{refl, sym, true≢false}
use Rattle.rational.proofs.Laws.{le_of_not_lt}
use Rattle.curve_conv.proofs.RisesFound.{none_looked, all_looked}
use Rattle.curve_conv.proofs.rises.rise_between.Goals as goal

pub loop-piece-init : goal.loop-piece-init
loop-piece-init c = none_looked c.args.c.now c.args.begin c.args.first c.args.period c.args.least

pub returns-then-not-is_less : goal.returns-then-not-is_less
returns-then-not-is_less c =
    all_looked c.args.c.now c.args.begin c.args.first c.args.period c.loop-piece.looked c.loop-piece.invariant (le_of_not_lt (λ h. true≢false (sym (c.if-not-is_less.ensures.less.1 h))))

pub step-requires-clause-before : goal.step-requires-clause-before
step-requires-clause-before c = c.if-not-is_less.ensures.less.0 refl
