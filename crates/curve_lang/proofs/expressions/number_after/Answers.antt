use Rattle.std.proofs.Common.{sym, subst}
use Rattle.curve_lang.specs.Found.{NumberMade}
use Rattle.curve_lang.specs.After.{NumberAfter}
use Rattle.curve_lang.specs.Views.{found}
use Rattle.curve_lang.proofs.expressions.number_after.Goals as goal

pub returns-in-Ok : goal.returns-in-Ok
returns-in-Ok g c =
    subst (λ y. NumberAfter c.args.operator c.args.x (found y) (found c.number_made.result) c.args.steps.now c.number_made.new.steps) (sym c.in-Ok.is)
    (subst (λ f. NumberMade c.args.operator f c.args.x (found c.number_made.result) c.args.steps.now c.number_made.new.steps) c.deref.ensures
    c.number_made.ensures)
