use Rattle.std.proofs.Common.{◌≡◌, ◌++◌, drop}
use Rattle.run_watch.specs.Seen.{works_at}
use Rattle.run_watch.proofs.seen.works_of.Given as goal

abbrev pub invariant-loop-step : goal.invariant-loop-step
invariant-loop-step l = l.found.items ++ works_at l.server (drop l.step-index l.steps) ≡ works_at l.server l.steps
