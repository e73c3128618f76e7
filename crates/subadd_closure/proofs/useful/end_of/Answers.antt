use Rattle.subadd_closure.proofs.UsefulPairs.{point_ends, segment_ends}
use Rattle.subadd_closure.proofs.useful.end_of.Goals as goal

pub returns-in-Point : goal.returns-in-Point
returns-in-Point c t h = point_ends c.in-Point.x _ t c.args.e.now c.in-Point.is h

pub returns-in-Open : goal.returns-in-Open
returns-in-Open c t h = segment_ends _ t c.in-Open.to _ c.args.e.now c.in-Open.is h
