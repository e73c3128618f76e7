use Rattle.std.proofs.Common.{sym, subst}
use Rattle.curve_lang.specs.Found.{TwoMade}
use Rattle.curve_lang.specs.After.{TwoAfter}
use Rattle.curve_lang.specs.Views.{found}
use Rattle.curve_lang.proofs.expressions.two_after.Goals as goal

pub returns-in-Ok : goal.returns-in-Ok
returns-in-Ok g c =
    subst (λ y. TwoAfter c.args.operator c.args.f.now (found y) (found c.two_made.result) c.args.steps.now c.two_made.new.steps) (sym c.in-Ok.is)
    (subst (λ h. TwoMade c.args.operator c.args.f.now h (found c.two_made.result) c.args.steps.now c.two_made.new.steps) c.deref.ensures
    c.two_made.ensures)
