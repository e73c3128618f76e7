use Rattle.subadd_closure.proofs.UsefulPairs.{point_floor, some_floor}
use Rattle.subadd_closure.proofs.useful.floor_of.Goals as goal

pub returns-in-Point : goal.returns-in-Point
returns-in-Point c = point_floor c.args.m _ c.in-Point.v c.args.e.now c.in-Point.is

pub returns-in-Open : goal.returns-in-Open
returns-in-Open c =
    some_floor c.floor_at.result c.args.m c.in-Open.from _ c.in-Open.line c.args.e.now c.in-Open.is c.floor_at.ensures.value
    c.floor_at.ensures.steep
