use Rattle.std.proofs.Common.{sym}
use Rattle.std.proofs.lemmas.Bool.{true≢false}
use Rattle.rational.proofs.Laws.{le_of_not_lt}
use Rattle.curve_call.proofs.CrossFits.{apart_fits, closing_fits}
use Rattle.curve_call.proofs.LinesLie.{lies_below, lies_above}
use Rattle.curve_call.proofs.lie.order_between.Goals as goal

pub difference-apart-requires : goal.difference-apart-requires
difference-apart-requires c = apart_fits c.args.a.now c.args.b.now c.requires

pub difference-closing-requires : goal.difference-closing-requires
difference-closing-requires c = closing_fits c.args.a.now c.args.b.now c.requires

pub returns-then-not-is_less-2 : goal.returns-then-not-is_less-2
returns-then-not-is_less-2 c =
    lies_below c.args.a.now c.args.b.now c.difference-apart.result c.difference-closing.result c.in_ok-first.first c.in_ok-last.last c.args.from c.args.to c.difference-apart.ensures
    c.difference-closing.ensures c.in_ok-first.ensures c.in_ok-last.ensures
    (le_of_not_lt (λ h. true≢false (sym (c.if-not-is_less.ensures.less.1 h))))
    (le_of_not_lt (λ h. true≢false (sym (c.if-not-is_less-2.ensures.less.1 h))))

pub returns-then-not-is_less-4 : goal.returns-then-not-is_less-4
returns-then-not-is_less-4 c =
    lies_above c.args.a.now c.args.b.now c.difference-apart.result c.difference-closing.result c.in_ok-first.first c.in_ok-last.last c.args.from c.args.to c.difference-apart.ensures
    c.difference-closing.ensures c.in_ok-first.ensures c.in_ok-last.ensures
    (le_of_not_lt (λ h. true≢false (sym (c.if-not-is_less-3.ensures.less.1 h))))
    (le_of_not_lt (λ h. true≢false (sym (c.if-not-is_less-4.ensures.less.1 h))))
