use Rattle.std.proofs.Common.{ap, ◌∙◌}
use Rattle.input_texts.specs.curve_script.Building.{next_number, with_rest}
use Rattle.input_texts.specs.curve_script.Grammar.{number_in, number_of}
use Rattle.input_texts.proofs.curve_script.Chains.{chain_none, chain_some}
use Rattle.input_texts.proofs.curve_script.tokens.Tokens.number.Goals as goal

pub returns-in_default : goal.returns-in_default
unfolding next_number
returns-in_default c = chain_none _ _ c.in_default.ensures

pub returns-in-Ok : goal.returns-in-Ok
unfolding next_number number_in
returns-in-Ok c = ap (λ r. with_rest (number_of r) c.word.new.self) c.in-Ok.ensures ∙ chain_some _ _ _ c.in-Some.ensures

pub returns-in-Err : goal.returns-in-Err
unfolding next_number number_in
returns-in-Err c = ap (λ r. with_rest (number_of r) c.word.new.self) c.in-Err.ensures ∙ chain_some _ _ _ c.in-Some.ensures
