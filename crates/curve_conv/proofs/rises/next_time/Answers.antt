use Rattle.std.proofs.Common.{sym, subst}
use Rattle.curve_conv.specs.Rises.{IsNextTime}
use Rattle.curve_conv.proofs.RisesFound.{earlier_time, back_time}
use Rattle.curve_conv.proofs.rises.next_time.Goals as goal

pub returns-in-None : goal.returns-in-None
returns-in-None c =
    subst (λ o. IsNextTime c.args.here.now o c.args.period c.args.first c.earlier-soon.result) (sym c.in-None.is)
    (earlier_time c.args.period c.args.first c.args.here.now c.earlier-soon.result c.earlier-soon.ensures)

pub returns-in_ok-back-in-Some : goal.returns-in_ok-back-in-Some
returns-in_ok-back-in-Some c =
    subst (λ o. IsNextTime c.args.here.now o c.args.period c.args.first c.earlier.result) (sym c.in-Some.is)
    (back_time c.args.period c.args.first c.args.here.now c.in-Some.e c.earlier-soon.result c.in_ok-back-in-Some.back c.earlier.result c.earlier-soon.ensures c.in_ok-back-in-Some.ensures c.earlier.ensures)
