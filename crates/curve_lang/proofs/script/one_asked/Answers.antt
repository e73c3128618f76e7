use Rattle.std.proofs.Common.{refl, ap, subst, map}
use Rattle.input_texts.specs.curve_script.Views.{expression_view}
use Rattle.curve_lang.specs.Finding.{goes_on, stops}
use Rattle.curve_lang.specs.Found.{Finds}
use Rattle.curve_lang.specs.Views.{let_view, found}
use Rattle.std.specs.Prelude.{Ok}
use Rattle.curve_lang.proofs.script.one_asked.Goals as goal

pub returns-in-Ok : goal.returns-in-Ok
returns-in-Ok g c =
    let old = c.args.steps.now in
    let new = c.curve_of.new.steps in
    goes_on c.in-Ok.f.value new (subst (λ x. Finds (map let_view c.args.lets.now) (expression_view c.args.e.now) (found x) old new) c.in-Ok.is c.curve_of.ensures)
    (ap Ok c.one_told.ensures, refl)

pub returns-in-Err : goal.returns-in-Err
returns-in-Err g c =
    stops c.in-Err.kind
    (subst (λ x. Finds (map let_view c.args.lets.now) (expression_view c.args.e.now) (found x) c.args.steps.now c.curve_of.new.steps) c.in-Err.is c.curve_of.ensures) refl
