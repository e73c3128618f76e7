use Rattle.std.proofs.Common.{◌∙◌}
use Rattle.std.proofs.lemmas.Result.{IfOk-weaker}
use Rattle.input_texts.specs.curve_script.Building.{statement_from}
use Rattle.input_texts.proofs.curve_script.Chains.{chain_none, chain_some}
use Rattle.input_texts.proofs.curve_script.stating.statement_at.Goals as goal

pub returns-in_default : goal.returns-in_default
unfolding statement_from
returns-in_default c = chain_none _ _ c.in_default.ensures

pub returns-in_default-keyword_of : goal.returns-in_default-keyword_of
unfolding statement_from
returns-in_default-keyword_of c = chain_none _ _ c.in_default-keyword_of.ensures ∙ chain_some _ _ _ c.in-Some.ensures

pub returns : goal.returns
unfolding statement_from
returns c =
    IfOk-weaker c.statement_behind.result _ _
    (λ made e. e ∙ chain_some _ _ _ c.in-Some-keyword_of.ensures ∙ chain_some _ _ _ c.in-Some.ensures) c.statement_behind.ensures
