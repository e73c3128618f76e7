use Rattle.std.proofs.Common.{◌<◌, ◌∙◌, ap, Some, arith}
use Rattle.std.proofs.lemmas.Result.{IfOk-weaker}
use Rattle.input_texts.specs.curve_script.Views.{expression_view}
use Rattle.input_texts.specs.curve_script.Building.{one_from, number_from, two_from, call_from}
use Rattle.input_texts.proofs.curve_script.Chains.{chain_none, chain_some, opened_none, opened_some, build-nothing, calls-less, word_call, word_zero, word_name, name_and_rest, no_calls}
use Rattle.input_texts.proofs.curve_script.building.+curve.Goals as goal

pub call_at-returns-then-not-takes_sign : goal.call_at-returns-then-not-takes_sign
unfolding call_from
call_at-returns-then-not-takes_sign t c = chain_none _ _ c.if-not-takes_sign.ensures

pub call_at-returns-in_default : goal.call_at-returns-in_default
unfolding call_from
call_at-returns-in_default t c = chain_none _ _ (opened_none _ _ _ c.in_default.is c.in_ok-e.ensures) ∙ chain_some _ _ _ c.if-not-takes_sign.ensures

pub call_at-returns-then-not-takes_sign-2 : goal.call_at-returns-then-not-takes_sign-2
unfolding call_from
call_at-returns-then-not-takes_sign-2 t c = chain_none _ _ c.if-not-takes_sign-2.ensures ∙ chain_some _ _ _ (opened_some _ _ _ _ c.in-Some.is c.in_ok-e.ensures) ∙ chain_some _ _ _ c.if-not-takes_sign.ensures

pub call_at-returns : goal.call_at-returns
unfolding call_from
call_at-returns t c = chain_some _ _ _ c.if-not-takes_sign-2.ensures ∙ chain_some _ _ _ (opened_some _ _ _ _ c.in-Some.is c.in_ok-e.ensures) ∙ chain_some _ _ _ c.if-not-takes_sign.ensures

pub curve_at-returns-in_default : goal.curve_at-returns-in_default
curve_at-returns-in_default t c = build-nothing c.args.deep _ c.in_default.ensures

pub curve_at-returns-then-deep-eq0 : goal.curve_at-returns-then-deep-eq0
curve_at-returns-then-deep-eq0 t c =
    no_calls c.args.deep c.in-Some-keyword_of.keyword _ c.if-deep-eq0.true
    ∙ word_call c.args.deep c.in-Some.word.now c.in-Some-keyword_of.keyword _ _ c.in-Some.ensures c.in-Some-keyword_of.ensures c.if-is_zero.ensures

pub curve_at-returns-then-is_zero : goal.curve_at-returns-then-is_zero
curve_at-returns-then-is_zero t c = word_zero c.args.deep c.in-Some.word.now c.in-Some-keyword_of.keyword _ _ c.in-Some.ensures c.in-Some-keyword_of.ensures c.if-is_zero.ensures

pub curve_at-returns-in-None : goal.curve_at-returns-in-None
curve_at-returns-in-None t c =
    IfOk-weaker c.named.result _ _
    (λ made e. name_and_rest expression_view _ _ _ e ∙ word_name c.args.deep c.in-Some.word.now _ _ c.in-Some.ensures c.in-None.ensures) c.named.ensures

pub curve_at-returns-else-deep-eq0 : goal.curve_at-returns-else-deep-eq0
curve_at-returns-else-deep-eq0 t c =
    let some : 0 < c.args.deep = omega arith in
    IfOk-weaker c.call_at.result _ _
    (λ made e. e ∙ calls-less c.args.deep c.in-Some-keyword_of.keyword _ some
    ∙ word_call c.args.deep c.in-Some.word.now c.in-Some-keyword_of.keyword _ _ c.in-Some.ensures c.in-Some-keyword_of.ensures c.if-is_zero.ensures) c.call_at.ensures

pub one_at-returns-in_default : goal.one_at-returns-in_default
unfolding one_from
one_at-returns-in_default t c = chain_none _ _ (opened_none _ _ _ c.in_default.is c.in_ok-e.ensures)

pub one_at-returns : goal.one_at-returns
unfolding one_from
one_at-returns t c = ap (λ e. Some (e, c.curve_at.new.tokens)) c.in_ok-made.ensures ∙ chain_some _ _ _ (opened_some _ _ _ _ c.in-Some.is c.in_ok-e.ensures)

pub with_number_at-returns-in_default : goal.with_number_at-returns-in_default
unfolding number_from
with_number_at-returns-in_default t c = chain_none _ _ (opened_none _ _ _ c.in_default.is c.in_ok-e.ensures)

pub with_number_at-returns-in_default-number_behind : goal.with_number_at-returns-in_default-number_behind
unfolding number_from
with_number_at-returns-in_default-number_behind t c = chain_none _ _ c.in_default-number_behind.ensures ∙ chain_some _ _ _ (opened_some _ _ _ _ c.in-Some.is c.in_ok-e.ensures)

pub with_number_at-returns : goal.with_number_at-returns
unfolding number_from
with_number_at-returns t c =
    ap (λ e. Some (e, c.number_behind.new.self)) c.in_ok-made.ensures
    ∙ chain_some _ _ _ c.in-Some-number_behind.ensures ∙ chain_some _ _ _ (opened_some _ _ _ _ c.in-Some.is c.in_ok-e.ensures)

pub two_at-returns-in_default : goal.two_at-returns-in_default
unfolding two_from
two_at-returns-in_default t c = chain_none _ _ (opened_none _ _ _ c.in_default.is c.in_ok-a.ensures)

pub two_at-returns-in_default-2 : goal.two_at-returns-in_default-2
unfolding two_from
two_at-returns-in_default-2 t c =
    chain_none _ _ (opened_none _ _ _ c.in_default-2.is c.in_ok-b.ensures) ∙ chain_some _ _ _ (opened_some _ _ _ _ c.in-Some.is c.in_ok-a.ensures)

pub two_at-returns : goal.two_at-returns
unfolding two_from
two_at-returns t c =
    ap (λ e. Some (e, c.curve_behind.new.tokens)) c.in_ok-made.ensures
    ∙ chain_some _ _ _ (opened_some _ _ _ _ c.in-Some-2.is c.in_ok-b.ensures) ∙ chain_some _ _ _ (opened_some _ _ _ _ c.in-Some.is c.in_ok-a.ensures)

pub curve_behind-returns-then-not-takes_sign : goal.curve_behind-returns-then-not-takes_sign
curve_behind-returns-then-not-takes_sign t c = chain_none _ _ c.if-not-takes_sign.ensures

pub curve_behind-returns : goal.curve_behind-returns
curve_behind-returns t c =
    IfOk-weaker c.curve_at.result _ _ (λ made e. e ∙ chain_some _ _ _ c.if-not-takes_sign.ensures) c.curve_at.ensures
