use Rattle.std.proofs.Common.{◌∙◌, ap}
use Rattle.input_texts.specs.curve_script.Building.{next_at, behind_if}
use Rattle.input_texts.proofs.curve_script.Chains.{chain_none, chain_some}
use Rattle.input_texts.proofs.curve_script.tokens.Tokens.takes_at.Goals as goal

pub returns-in_default : goal.returns-in_default
unfolding next_at
returns-in_default c = chain_none _ _ c.in_default.ensures

pub returns : goal.returns
unfolding next_at
returns c = ap (λ b. behind_if b c.word.new.self) c.is_at.ensures ∙ chain_some _ _ _ c.in-Some.ensures
