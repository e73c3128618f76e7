use Rattle.std.proofs.Common.{◌∙◌}
use Rattle.input_texts.specs.curve_script.Building.{triple_from}
use Rattle.input_texts.proofs.curve_script.Chains.{chain_none, chain_some}
use Rattle.input_texts.proofs.curve_script.building.triple_at.Goals as goal

pub returns-in_default : goal.returns-in_default
unfolding triple_from
returns-in_default c = chain_none _ _ c.in_default.ensures

pub returns-in_default-number_behind : goal.returns-in_default-number_behind
unfolding triple_from
returns-in_default-number_behind c = chain_none _ _ c.in_default-number_behind.ensures ∙ chain_some _ _ _ c.in-Some.ensures

pub returns-in_default-number_behind-2 : goal.returns-in_default-number_behind-2
unfolding triple_from
returns-in_default-number_behind-2 c =
    chain_none _ _ c.in_default-number_behind-2.ensures ∙ chain_some _ _ _ c.in-Some-number_behind.ensures ∙ chain_some _ _ _ c.in-Some.ensures

pub returns : goal.returns
unfolding triple_from
returns c =
    chain_some _ _ _ c.in-Some-number_behind-2.ensures ∙ chain_some _ _ _ c.in-Some-number_behind.ensures ∙ chain_some _ _ _ c.in-Some.ensures
