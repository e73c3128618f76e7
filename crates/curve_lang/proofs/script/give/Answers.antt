use Rattle.std.proofs.Common.{sym, subst, ◌∙◌, map}
use Rattle.std.specs.Prelude.{◌≡◌, Ok, Err, is_some, false}
use Rattle.input_texts.specs.curve_script.Views.{expression_view}
use Rattle.curve_lang.specs.Found.{Finds, curve_named}
use Rattle.curve_lang.specs.Views.{let_view, found}
use Rattle.curve_lang.proofs.Scripting.{name_refused, name_lost, name_found}
use Rattle.curve_lang.proofs.script.give.Goals as goal

pub returns-in-Ok-give_name : goal.returns-in-Ok-give_name
returns-in-Ok-give_name g c =
    let ls = map let_view c.args.lets.now.items in
    let new = subst (λ xs. is_some (curve_named (map let_view xs) c.args.word.now) ≡ false) c.deref.ensures.value (sym c.is_given.ensures ∙ c.if-is_given.false) in
    let finds = subst (λ xs. Finds (map let_view xs) (expression_view c.args.e.now) (Ok c.in-Ok.curve.value) c.args.steps.now c.curve_of.new.steps) c.deref-2.ensures.value
    (subst (λ x. Finds (map let_view c.deref-2.result.now) (expression_view c.args.e.now) (found x) c.args.steps.now c.curve_of.new.steps) c.in-Ok.is c.curve_of.ensures) in (
      record { name = c.args.word.now; curve = c.in-Ok.curve.value },
      name_found ls c.args.word.now (expression_view c.args.e.now) c.in-Ok.curve.value c.args.steps.now c.curve_of.new.steps new finds,
      c.in-Ok-give_name.ensures,
    )

pub returns-in-Err-give_name : goal.returns-in-Err-give_name
returns-in-Err-give_name g c =
    let ls = map let_view c.args.lets.now.items in
    let new = subst (λ xs. is_some (curve_named (map let_view xs) c.args.word.now) ≡ false) c.deref.ensures.value (sym c.is_given.ensures ∙ c.if-is_given.false) in
    let finds = subst (λ xs. Finds (map let_view xs) (expression_view c.args.e.now) (Ok c.in-Ok.curve.value) c.args.steps.now c.curve_of.new.steps) c.deref-2.ensures.value
    (subst (λ x. Finds (map let_view c.deref-2.result.now) (expression_view c.args.e.now) (found x) c.args.steps.now c.curve_of.new.steps) c.in-Ok.is c.curve_of.ensures) in
    name_lost ls c.args.word.now (expression_view c.args.e.now) c.in-Ok.curve.value c.args.steps.now c.curve_of.new.steps new finds

pub returns-in-Err : goal.returns-in-Err
returns-in-Err g c =
    let ls = map let_view c.args.lets.now.items in
    let new = subst (λ xs. is_some (curve_named (map let_view xs) c.args.word.now) ≡ false) c.deref.ensures.value (sym c.is_given.ensures ∙ c.if-is_given.false) in
    let finds = subst (λ xs. Finds (map let_view xs) (expression_view c.args.e.now) (Err c.in-Err.kind) c.args.steps.now c.curve_of.new.steps) c.deref-2.ensures.value
    (subst (λ x. Finds (map let_view c.deref-2.result.now) (expression_view c.args.e.now) (found x) c.args.steps.now c.curve_of.new.steps) c.in-Err.is c.curve_of.ensures) in
    name_refused ls c.args.word.now (expression_view c.args.e.now) c.in-Err.kind c.args.steps.now c.curve_of.new.steps new finds
