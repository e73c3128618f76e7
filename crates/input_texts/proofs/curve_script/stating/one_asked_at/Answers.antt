use Rattle.input_texts.specs.curve_script.Building.{one_asked_from}
use Rattle.input_texts.proofs.curve_script.Chains.{chain_none, chain_some, opened_none, opened_some}
use Rattle.input_texts.proofs.curve_script.stating.one_asked_at.Goals as goal

pub returns-in_default : goal.returns-in_default
unfolding one_asked_from
returns-in_default c = chain_none _ _ (opened_none _ _ _ c.in_default.is c.in_ok-e.ensures)

pub returns : goal.returns
unfolding one_asked_from
returns c = chain_some _ _ _ (opened_some _ _ _ _ c.in-Some.is c.in_ok-e.ensures)
