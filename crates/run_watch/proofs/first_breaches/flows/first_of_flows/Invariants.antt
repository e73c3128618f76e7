use Rattle.run_watch.specs.FirstOf.{IsBest}
use Rattle.run_watch.specs.first_breaches.Firsts.{IsBelow}
use Rattle.run_watch.proofs.first_breaches.flows.first_of_flows.Given as goal

abbrev pub invariant-loop-number : goal.invariant-loop-number
invariant-loop-number l = IsBest (IsBelow l.net l.run 0 l.number) l.run l.size × IsBest (IsBelow l.net l.run 1 l.number) l.run l.arrival
