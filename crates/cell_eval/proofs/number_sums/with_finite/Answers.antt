use Rattle.std.proofs.Common.{subst}
use Rattle.cell_eval.specs.Tallies.{IsTallied}
use Rattle.cell_eval.proofs.Tallying.{none_more, then_some}
use Rattle.cell_eval.proofs.number_sums.with_finite.Goals as goal

pub returns-in-Some : goal.returns-in-Some
returns-in-Some c = λ xs h.
    let k = subst (IsTallied xs) c.in-Some.is h in
    then_some xs c.args.x c.with_number.result (c.with_number.ensures.some xs k.some) (λ rest. c.with_number.ensures.none xs rest k.some)

pub returns-in-None : goal.returns-in-None
returns-in-None c = λ xs h. none_more xs c.args.x (subst (IsTallied xs) c.in-None.is h)
