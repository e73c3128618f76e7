use Rattle.std.proofs.Common.{◌≡◌, ◌++◌, drop}
use Rattle.run_watch.specs.Seen.{leaves_at}
use Rattle.run_watch.proofs.seen.leaves_of.Given as goal

abbrev pub invariant-loop-step : goal.invariant-loop-step
invariant-loop-step l = l.found.items ++ leaves_at l.server (drop l.step-index l.steps) ≡ leaves_at l.server l.steps
