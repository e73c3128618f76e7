use Rattle.std.proofs.Common.{rules, refl, sym, ap, subst, map}
use Rattle.std.specs.Prelude.{Err}
use Rattle.input_texts.specs.curve_script.Views.{expression_view}
use Rattle.curve_lang.specs.Finding.{stops, goes_on}
use Rattle.curve_lang.specs.Found.{Finds, NameFinds, curve_named}
use Rattle.curve_lang.specs.After.{TwoAfter}
use Rattle.curve_lang.specs.Views.{let_view, found}
use Rattle.curve_lang.proofs.Parts.{one_then, number_then, two_then, on_curve_deeper, on_number_deeper, first_deeper, second_deeper}
use Rattle.curve_lang.proofs.expressions.+curve_of.Goals as goal

pub curve_of-part-requires : goal.curve_of-part-requires
curve_of-part-requires g t c =
    let d = on_curve_deeper (expression_view c.args.e.now) c.in-OnCurve.operator (expression_view c.in-OnCurve.a.value)
    (ap expression_view c.in-OnCurve.is) in search rules

pub curve_of-part-requires-in-OnNumber : goal.curve_of-part-requires-in-OnNumber
curve_of-part-requires-in-OnNumber g t c =
    let d = on_number_deeper (expression_view c.args.e.now) c.in-OnNumber.operator (expression_view c.in-OnNumber.a.value) c.in-OnNumber.x
    (ap expression_view c.in-OnNumber.is) in search rules

pub curve_of-requires : goal.curve_of-requires
curve_of-requires g t c =
    let d = first_deeper (expression_view c.args.e.now) c.in-OnTwo.operator (expression_view c.in-OnTwo.a.value) (expression_view c.in-OnTwo.b.value)
    (ap expression_view c.in-OnTwo.is) in search rules

pub curve_of-part-requires-in-Ok : goal.curve_of-part-requires-in-Ok
curve_of-part-requires-in-Ok g t c =
    let d = second_deeper (expression_view c.args.e.now) c.in-OnTwo.operator (expression_view c.in-OnTwo.a.value) (expression_view c.in-OnTwo.b.value)
    (ap expression_view c.in-OnTwo.is) in search rules

pub returns-in-Name : goal.returns-in-Name
returns-in-Name g t c =
    let ls = map let_view c.args.lets.now in
    let r = found c.named_curve.result in
    let old = c.args.steps.now in
    subst (λ e. Finds ls e r old old) (sym (ap expression_view c.in-Name.is))
    (subst (λ w. NameFinds (curve_named ls w) r) c.as_str.ensures.value c.named_curve.ensures, refl)

pub returns-in-OnCurve : goal.returns-in-OnCurve
returns-in-OnCurve g t c =
    let ls = map let_view c.args.lets.now in
    let r = found c.one_after.result in
    let old = c.args.steps.now in
    let between = c.curve_of-part.new.steps in
    let new = c.one_after.new.steps in
    subst (λ e. Finds ls e r old new) (sym (ap expression_view c.in-OnCurve.is))
    (one_then (Finds ls (expression_view c.in-OnCurve.a.value)) c.in-OnCurve.operator (found c.curve_of-part.result) r old between new
    (subst (λ e. Finds ls (expression_view e) (found c.curve_of-part.result) old between) c.deref.ensures c.curve_of-part.ensures) c.one_after.ensures)

pub returns-in-OnNumber : goal.returns-in-OnNumber
returns-in-OnNumber g t c =
    let ls = map let_view c.args.lets.now in
    let r = found c.number_after.result in
    let old = c.args.steps.now in
    let between = c.curve_of-part-in-OnNumber.new.steps in
    let new = c.number_after.new.steps in
    subst (λ e. Finds ls e r old new) (sym (ap expression_view c.in-OnNumber.is))
    (number_then (Finds ls (expression_view c.in-OnNumber.a.value)) c.in-OnNumber.operator c.in-OnNumber.x (found c.curve_of-part-in-OnNumber.result) r old between new
    (subst (λ e. Finds ls (expression_view e) (found c.curve_of-part-in-OnNumber.result) old between) c.deref-in-OnNumber.ensures c.curve_of-part-in-OnNumber.ensures) c.number_after.ensures)

pub returns-in-Ok : goal.returns-in-Ok
returns-in-Ok g t c =
    let ls = map let_view c.args.lets.now in
    let r = found c.two_after.result in
    let part = found c.curve_of-part-in-Ok.result in
    let old = c.args.steps.now in
    let first = c.curve_of.new.steps in
    let both = c.curve_of-part-in-Ok.new.steps in
    let new = c.two_after.new.steps in
    let finds_a = subst (λ e. Finds ls (expression_view e) (found c.curve_of.result) old first) c.deref-in-OnTwo.ensures c.curve_of.ensures in
    let finds_b = subst (λ e. Finds ls (expression_view e) part first both) c.deref-in-Ok.ensures c.curve_of-part-in-Ok.ensures in
    subst (λ e. Finds ls e r old new) (sym (ap expression_view c.in-OnTwo.is))
    (goes_on c.in-Ok.f.value first (subst (λ x. Finds ls (expression_view c.in-OnTwo.a.value) (found x) old first) c.in-Ok.is finds_a)
    (two_then (Finds ls (expression_view c.in-OnTwo.b.value)) c.in-OnTwo.operator c.in-Ok.f.value part r first both new finds_b
    (subst (λ f. TwoAfter c.in-OnTwo.operator f part r both new) c.deref-in-Ok-2.ensures c.two_after.ensures)))

pub returns-in-Err : goal.returns-in-Err
returns-in-Err g t c =
    let ls = map let_view c.args.lets.now in
    let old = c.args.steps.now in
    let new = c.curve_of.new.steps in
    let finds = subst (λ e. Finds ls (expression_view e) (found c.curve_of.result) old new) c.deref-in-OnTwo.ensures c.curve_of.ensures in
    subst (λ e. Finds ls e (found (Err c.in-Err.kind)) old new) (sym (ap expression_view c.in-OnTwo.is))
    (stops c.in-Err.kind (subst (λ x. Finds ls (expression_view c.in-OnTwo.a.value) (found x) old new) c.in-Err.is finds) refl)
