use Rattle.std.proofs.Common.{sym, subst}
use Rattle.curve_lang.specs.Found.{OneMade}
use Rattle.curve_lang.specs.After.{OneAfter}
use Rattle.curve_lang.specs.Views.{found}
use Rattle.curve_lang.proofs.expressions.one_after.Goals as goal

pub returns-in-Ok : goal.returns-in-Ok
returns-in-Ok g c =
    subst (λ x. OneAfter c.args.operator (found x) (found c.one_made.result) c.args.steps.now c.one_made.new.steps) (sym c.in-Ok.is)
    (subst (λ f. OneMade c.args.operator f (found c.one_made.result) c.args.steps.now c.one_made.new.steps) c.deref.ensures c.one_made.ensures)
