use Rattle.std.proofs.Common.{◌∙◌}
use Rattle.input_texts.specs.curve_script.Building.{two_asked_from}
use Rattle.input_texts.proofs.curve_script.Chains.{chain_none, chain_some, opened_none, opened_some}
use Rattle.input_texts.proofs.curve_script.stating.two_asked_at.Goals as goal

pub returns-in_default : goal.returns-in_default
unfolding two_asked_from
returns-in_default c = chain_none _ _ (opened_none _ _ _ c.in_default.is c.in_ok-a.ensures)

pub returns-in_default-2 : goal.returns-in_default-2
unfolding two_asked_from
returns-in_default-2 c = chain_none _ _ (opened_none _ _ _ c.in_default-2.is c.in_ok-b.ensures) ∙ chain_some _ _ _ (opened_some _ _ _ _ c.in-Some.is c.in_ok-a.ensures)

pub returns : goal.returns
unfolding two_asked_from
returns c = chain_some _ _ _ (opened_some _ _ _ _ c.in-Some-2.is c.in_ok-b.ensures) ∙ chain_some _ _ _ (opened_some _ _ _ _ c.in-Some.is c.in_ok-a.ensures)
