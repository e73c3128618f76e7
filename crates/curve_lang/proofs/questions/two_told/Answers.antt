use Rattle.std.proofs.Common.{sym, subst}
use Rattle.curve_lang.specs.Found.{TwoFinds}
use Rattle.curve_lang.specs.Views.{told}
use Rattle.curve_lang.proofs.questions.two_told.Goals as goal

pub returns-in-Equal : goal.returns-in-Equal
returns-in-Equal g c =
    subst (λ q. TwoFinds q c.args.f.now c.args.g.now (told c.equal_told.result) c.args.steps.now c.args.steps.now) (sym c.in-Equal.is)
    (c.equal_told.ensures c.args.steps.now)
