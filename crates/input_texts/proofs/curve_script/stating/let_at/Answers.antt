use Rattle.std.proofs.Common.{◌∙◌}
use Rattle.input_texts.specs.curve_script.Building.{let_from}
use Rattle.input_texts.proofs.curve_script.Chains.{chain_none, chain_some, opened_none, opened_some}
use Rattle.input_texts.proofs.curve_script.stating.let_at.Goals as goal

pub returns-in_default : goal.returns-in_default
unfolding let_from
returns-in_default c = chain_none _ _ c.in_default.ensures

pub returns-in_default-2 : goal.returns-in_default-2
unfolding let_from
returns-in_default-2 c = chain_none _ _ (opened_none _ _ _ c.in_default-2.is c.in_ok-name.ensures) ∙ chain_some _ _ _ c.in-Some.ensures

pub returns-then-not-takes_sign : goal.returns-then-not-takes_sign
unfolding let_from
returns-then-not-takes_sign c = chain_none _ _ c.if-not-takes_sign.ensures ∙ chain_some _ _ _ (opened_some _ _ _ _ c.in-Some-2.is c.in_ok-name.ensures) ∙ chain_some _ _ _ c.in-Some.ensures

pub returns-in_default-3 : goal.returns-in_default-3
unfolding let_from
returns-in_default-3 c = chain_none _ _ (opened_none _ _ _ c.in_default-3.is c.in_ok-e.ensures) ∙ chain_some _ _ _ c.if-not-takes_sign.ensures ∙ chain_some _ _ _ (opened_some _ _ _ _ c.in-Some-2.is c.in_ok-name.ensures) ∙ chain_some _ _ _ c.in-Some.ensures

pub returns : goal.returns
unfolding let_from
returns c = chain_some _ _ _ (opened_some _ _ _ _ c.in-Some-3.is c.in_ok-e.ensures) ∙ chain_some _ _ _ c.if-not-takes_sign.ensures ∙ chain_some _ _ _ (opened_some _ _ _ _ c.in-Some-2.is c.in_ok-name.ensures) ∙ chain_some _ _ _ c.in-Some.ensures
