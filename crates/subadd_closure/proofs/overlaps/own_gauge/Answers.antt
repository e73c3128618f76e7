use Rattle.subadd_closure.proofs.SegmentLimits.{gauge_found, wide_found}
use Rattle.subadd_closure.proofs.overlaps.own_gauge.Goals as goal

pub returns-in-Some : goal.returns-in-Some
returns-in-Some c = gauge_found c.args.f.now c.in-Ok.window c.in-Some.numbers c.in-Ok.ensures.window c.in-Some.ensures

pub returns-in-Err : goal.returns-in-Err
returns-in-Err c = wide_found c.args.f.now c.in-Err.field-0 c.in-Err.ensures.refused
