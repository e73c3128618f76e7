use Rattle.subadd_closure.proofs.ThinnedElements.{line_most}
use Rattle.subadd_closure.proofs.thinned.line_under.Goals as goal

pub returns-in-Ok : goal.returns-in-Ok
returns-in-Ok c h =
    line_most c.args.line c.in-Some.own c.args.x c.in-Ok.found c.args.v c.in-Some.is c.in-Ok.ensures.value
    (c.is_at_most.ensures h)
