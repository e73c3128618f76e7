use Rattle.std.proofs.Common.{sym, ap, subst, map}
use Rattle.std.specs.String.{string_bytes}
use Rattle.input_texts.specs.curve_script.Views.{expression_view, statement_view}
use Rattle.input_texts.specs.curve_script.Grammar.{ValueAt, AsksOne, AsksTwo}
use Rattle.curve_lang.specs.Found.{AsksTime, AsksOf, AsksBoth}
use Rattle.curve_lang.specs.Scripts.{IsAdded, IsGiven}
use Rattle.curve_lang.specs.Views.{let_view, answer_view, told}
use Rattle.curve_lang.proofs.Scripting.{kept_added, given_added}
use Rattle.curve_lang.proofs.script.add.Goals as goal

pub returns-in-Let : goal.returns-in-Let
returns-in-Let g c =
    let ls = map let_view c.args.lets.now.items in
    let out = map answer_view c.args.answers.now.items in
    let ms = map let_view c.give.new.lets.items in
    subst (λ s. IsAdded ls out s ms out c.give.result c.args.steps.now c.give.new.steps) (sym (ap statement_view c.in-Let.is))
    (given_added ls ms out (string_bytes c.in-Let.word) (expression_view c.in-Let.e) c.give.result c.args.steps.now c.give.new.steps
    (subst (λ w. IsGiven ls w (expression_view c.in-Let.e) ms c.give.result c.args.steps.now c.give.new.steps) c.as_str.ensures.value c.give.ensures))

pub returns-in-Value : goal.returns-in-Value
returns-in-Value g c =
    let ls = map let_view c.args.lets.now.items in
    let out = map answer_view c.args.answers.now.items in
    let more = map answer_view c.keep.new.answers.items in
    let asks = subst (λ xs. AsksTime (map let_view xs) (expression_view c.in-Value.e) c.in-Value.t (told c.time_asked.result) c.args.steps.now c.time_asked.new.steps) c.deref.ensures.value c.time_asked.ensures in
    subst (λ s. IsAdded ls out s ls more c.keep.result c.args.steps.now c.time_asked.new.steps) (sym (ap statement_view c.in-Value.is))
    (kept_added ls out more (AsksTime ls (expression_view c.in-Value.e) c.in-Value.t) (told c.time_asked.result) c.keep.result c.args.steps.now c.time_asked.new.steps asks c.keep.ensures (ValueAt (expression_view c.in-Value.e) c.in-Value.t) (λ x k. k))

pub returns-in-AskOne : goal.returns-in-AskOne
returns-in-AskOne g c =
    let ls = map let_view c.args.lets.now.items in
    let out = map answer_view c.args.answers.now.items in
    let more = map answer_view c.keep-in-AskOne.new.answers.items in
    let asks = subst (λ xs. AsksOf (map let_view xs) c.in-AskOne.question (expression_view c.in-AskOne.e) (told c.one_asked.result) c.args.steps.now c.one_asked.new.steps) c.deref-in-AskOne.ensures.value c.one_asked.ensures in
    subst (λ s. IsAdded ls out s ls more c.keep-in-AskOne.result c.args.steps.now c.one_asked.new.steps) (sym (ap statement_view c.in-AskOne.is))
    (kept_added ls out more (AsksOf ls c.in-AskOne.question (expression_view c.in-AskOne.e)) (told c.one_asked.result) c.keep-in-AskOne.result c.args.steps.now c.one_asked.new.steps asks c.keep-in-AskOne.ensures (AsksOne c.in-AskOne.question (expression_view c.in-AskOne.e)) (λ x k. k))

pub returns-in-AskTwo : goal.returns-in-AskTwo
returns-in-AskTwo g c =
    let ls = map let_view c.args.lets.now.items in
    let out = map answer_view c.args.answers.now.items in
    let more = map answer_view c.keep-in-AskTwo.new.answers.items in
    let asks = subst (λ xs. AsksBoth (map let_view xs) c.in-AskTwo.question (expression_view c.in-AskTwo.a) (expression_view c.in-AskTwo.b) (told c.two_asked.result) c.args.steps.now c.two_asked.new.steps) c.deref-in-AskTwo.ensures.value c.two_asked.ensures in
    subst (λ s. IsAdded ls out s ls more c.keep-in-AskTwo.result c.args.steps.now c.two_asked.new.steps) (sym (ap statement_view c.in-AskTwo.is))
    (kept_added ls out more (AsksBoth ls c.in-AskTwo.question (expression_view c.in-AskTwo.a) (expression_view c.in-AskTwo.b)) (told c.two_asked.result) c.keep-in-AskTwo.result c.args.steps.now c.two_asked.new.steps asks c.keep-in-AskTwo.ensures (AsksTwo c.in-AskTwo.question (expression_view c.in-AskTwo.a) (expression_view c.in-AskTwo.b)) (λ x k. k))
