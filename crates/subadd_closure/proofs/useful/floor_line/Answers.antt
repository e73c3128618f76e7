use Rattle.subadd_closure.proofs.UsefulPairs.{some_line}
use Rattle.subadd_closure.proofs.useful.floor_line.Goals as goal

pub returns : goal.returns
returns c =
    some_line c.line_from.result c.args.x.now c.args.y.now c.args.from c.least_slope-m.result c.in_ok-a.a c.in_ok-b.b c.in_ok-v.v
    c.requires c.in_ok-a.ensures c.in_ok-b.ensures c.in_ok-v.ensures c.line_from.ensures.slope c.line_from.ensures.value
