use Rattle.std.proofs.Common.{◌∙◌}
use Rattle.input_texts.specs.curve_script.Building.{number_behind, next_number}
use Rattle.input_texts.proofs.curve_script.Chains.{chain_none, chain_some}
use Rattle.input_texts.proofs.curve_script.tokens.Tokens.number_behind.Goals as goal

pub returns-then-takes_sign : goal.returns-then-takes_sign
unfolding number_behind
returns-then-takes_sign c = c.number.ensures ∙ chain_some _ _ next_number c.if-takes_sign.ensures

pub returns-else-takes_sign : goal.returns-else-takes_sign
unfolding number_behind
returns-else-takes_sign c = chain_none _ next_number c.if-takes_sign.ensures
