use Rattle.std.proofs.Common.{◌≡◌, ◌++◌, drop}
use Rattle.flow_watch.specs.watch_laws.Entries.{entries}
use Rattle.flow_watch.proofs.flows.entries_of.Given as goal

abbrev pub invariant-loop-step : goal.invariant-loop-step
invariant-loop-step l = l.found.items ++ entries l.flow (drop l.step-index l.steps) ≡ entries l.flow l.steps
