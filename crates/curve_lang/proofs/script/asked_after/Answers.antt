use Rattle.std.proofs.Common.{sym, subst}
use Rattle.curve_lang.specs.Found.{TwoFinds}
use Rattle.curve_lang.specs.After.{AskedAfter}
use Rattle.curve_lang.specs.Views.{found, told}
use Rattle.curve_lang.proofs.script.asked_after.Goals as goal

pub returns-in-Ok : goal.returns-in-Ok
returns-in-Ok g c =
    subst (λ y. AskedAfter c.args.question c.args.f.now (found y) (told c.two_told.result) c.args.steps.now c.two_told.new.steps) (sym c.in-Ok.is)
    (subst (λ h. TwoFinds c.args.question c.args.f.now h (told c.two_told.result) c.args.steps.now c.two_told.new.steps) c.deref.ensures c.two_told.ensures)
