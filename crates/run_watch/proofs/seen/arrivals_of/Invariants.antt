use Rattle.std.proofs.Common.{◌≡◌, ◌++◌, [], drop}
use Rattle.run_watch.specs.Seen.{arrivals_at}
use Rattle.run_watch.proofs.seen.arrivals_of.Given as goal

abbrev pub invariant-loop-step : goal.invariant-loop-step
invariant-loop-step l =
    l.found.items ++ arrivals_at l.firsts l.server l.sizes.items (drop l.step-index l.steps) ≡ arrivals_at l.firsts l.server [] l.steps
