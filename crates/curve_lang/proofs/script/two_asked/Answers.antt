use Rattle.std.proofs.Common.{refl, subst, map}
use Rattle.input_texts.specs.curve_script.Views.{expression_view}
use Rattle.curve_lang.specs.Finding.{goes_on, stops}
use Rattle.curve_lang.specs.Found.{Finds}
use Rattle.curve_lang.specs.After.{AskedAfter}
use Rattle.curve_lang.specs.Views.{let_view, found, told}
use Rattle.curve_lang.proofs.Parts.{asked_then}
use Rattle.curve_lang.proofs.script.two_asked.Goals as goal

pub returns-in-Ok : goal.returns-in-Ok
returns-in-Ok g c =
    let old = c.args.steps.now in
    let first = c.curve_of.new.steps in
    let both = c.curve_of-part.new.steps in
    let new = c.asked_after.new.steps in
    goes_on c.in-Ok.f.value first (subst (λ x. Finds (map let_view c.args.lets.now) (expression_view c.args.a.now) (found x) old first) c.in-Ok.is c.curve_of.ensures)
    (asked_then (Finds (map let_view c.args.lets.now) (expression_view c.args.b.now)) c.args.question c.in-Ok.f.value (found c.curve_of-part.result) (told c.asked_after.result)
    first both new c.curve_of-part.ensures
    (subst (λ f. AskedAfter c.args.question f (found c.curve_of-part.result) (told c.asked_after.result) both new) c.deref.ensures c.asked_after.ensures))

pub returns-in-Err : goal.returns-in-Err
returns-in-Err g c =
    stops c.in-Err.kind
    (subst (λ x. Finds (map let_view c.args.lets.now) (expression_view c.args.a.now) (found x) c.args.steps.now c.curve_of.new.steps) c.in-Err.is c.curve_of.ensures) refl
