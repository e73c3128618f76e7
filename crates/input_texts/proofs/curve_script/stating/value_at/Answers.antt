use Rattle.std.proofs.Common.{◌∙◌}
use Rattle.input_texts.specs.curve_script.Building.{value_from}
use Rattle.input_texts.proofs.curve_script.Chains.{chain_none, chain_some, opened_none, opened_some}
use Rattle.input_texts.proofs.curve_script.stating.value_at.Goals as goal

pub returns-in_default : goal.returns-in_default
unfolding value_from
returns-in_default c = chain_none _ _ (opened_none _ _ _ c.in_default.is c.in_ok-e.ensures)

pub returns-then-not-takes_at : goal.returns-then-not-takes_at
unfolding value_from
returns-then-not-takes_at c = chain_none _ _ c.if-not-takes_at.ensures ∙ chain_some _ _ _ (opened_some _ _ _ _ c.in-Some.is c.in_ok-e.ensures)

pub returns-in_default-number : goal.returns-in_default-number
unfolding value_from
returns-in_default-number c = chain_none _ _ c.in_default-number.ensures ∙ chain_some _ _ _ c.if-not-takes_at.ensures ∙ chain_some _ _ _ (opened_some _ _ _ _ c.in-Some.is c.in_ok-e.ensures)

pub returns : goal.returns
unfolding value_from
returns c = chain_some _ _ _ c.in-Some-number.ensures ∙ chain_some _ _ _ c.if-not-takes_at.ensures ∙ chain_some _ _ _ (opened_some _ _ _ _ c.in-Some.is c.in_ok-e.ensures)
