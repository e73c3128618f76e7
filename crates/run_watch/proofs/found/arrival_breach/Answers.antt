use Rattle.upp_curve.specs.Curve.{value_at}
use Rattle.run_watch.proofs.FirstFound.{arrival_none, arrival_some}
use Rattle.run_watch.proofs.found.arrival_breach.Goals as goal

pub returns-in-None : goal.returns-in-None
returns-in-None c = λ run e order. arrival_none run c.args.flow (value_at c.args.arrival.now) c.args.packets.now e c.in-None.ensures

pub returns-in-Some : goal.returns-in-Some
returns-in-Some c = λ run e order.
    arrival_some run c.args.flow (value_at c.args.arrival.now) c.args.packets.now c.in-Some.first c.in-Some.last c.index-packets-last.result e order c.in-Some.ensures.first_of_it.crowded.entered c.index-packets-last.is c.in-Some.ensures
