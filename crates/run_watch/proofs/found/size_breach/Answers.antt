use Rattle.run_watch.proofs.FirstFound.{size_none, size_some}
use Rattle.run_watch.proofs.found.size_breach.Goals as goal

pub returns-in-None : goal.returns-in-None
returns-in-None c = λ run e order. size_none run c.args.flow c.args.longest c.args.packets.now e c.in-None.ensures

pub returns-in-Some : goal.returns-in-Some
returns-in-Some c = λ run e order. size_some run c.args.flow c.args.longest c.args.packets.now c.in-Some.k c.index-packets-k.result e order c.in-Some.ensures.in_range c.index-packets-k.is c.in-Some.ensures
