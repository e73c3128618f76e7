use Rattle.std.proofs.Common.{ap, sym, ◌∙◌, inr, map, Some}
use Rattle.input_texts.specs.curve_script.Lexing.{view}
use Rattle.input_texts.specs.curve_script.Building.{statement_from}
use Rattle.input_texts.specs.curve_script.Views.{statement_view}
use Rattle.input_texts.proofs.curve_script.Chains.{opened_none, opened_some}
use Rattle.input_texts.proofs.curve_script.LineFacts.{not_shaped, bad_number, too_deep, right_line}
use Rattle.input_texts.proofs.curve_script.line.statement_of.Goals as goal

pub returns-in_default-clause-fault : goal.returns-in_default-clause-fault
returns-in_default-clause-fault c =
    inr (λ line has. not_shaped line has.plain (map view c.args.tokens.now) has.lexed (sym c.in_ok-numbers.ensures ∙ c.in_default.is))

pub returns-then-not-numbers-clause-fault : goal.returns-then-not-numbers-clause-fault
returns-then-not-numbers-clause-fault c =
    inr (λ line has. bad_number line has.plain (map view c.args.tokens.now) has.lexed
    (sym c.in_ok-numbers.ensures ∙ c.in-Some.is ∙ ap (λ b. Some b) c.if-not-numbers.true))

pub returns-in_default-2-clause-fault : goal.returns-in_default-2-clause-fault
returns-in_default-2-clause-fault c =
    inr (λ line has. too_deep line has.plain (map view c.args.tokens.now) has.lexed
    (sym c.in_ok-numbers.ensures ∙ c.in-Some.is ∙ ap (λ b. Some b) c.if-not-numbers.false)
    (opened_none _ _ _ c.in_default-2.is c.in_ok-stat.ensures ∙ ap (statement_from 64) c.of-rest.ensures))

pub returns-clause-ok : goal.returns-clause-ok
returns-clause-ok c = λ line has.
    right_line line has.plain (map view c.args.tokens.now) has.lexed (statement_view c.in-Some-2.stat) _
    (sym c.in_ok-numbers.ensures ∙ c.in-Some.is ∙ ap (λ b. Some b) c.if-not-numbers.false)
    (opened_some _ _ _ _ c.in-Some-2.is c.in_ok-stat.ensures ∙ ap (statement_from 64) c.of-rest.ensures)
