use Rattle.std.proofs.Common.{◌≡◌, drop}
use Rattle.upp_limits.specs.Limits.{Numbers, joined}
use Rattle.upp_limits.specs.Gathered.{Gathers}
use Rattle.net_model.specs.Views.{flows_of}
use Rattle.sim_bounds.specs.Gauge.{numbers_of_curves, arrivals_of}
use Rattle.sim_bounds.proofs.window_numbers.curves.with_arrivals.Given as goal

-- what is gathered, and the numbers of those that are left, make the whole
abbrev pub invariant-loop-flow : goal.invariant-loop-flow
invariant-loop-flow l =
    (n : Numbers) → Gathers l.fn.g n
    → (m : Numbers) × Gathers l.found m × (joined m (numbers_of_curves l.end (arrivals_of (flows_of (drop l.flow-index l.flows)))) ≡ joined n (numbers_of_curves l.end (arrivals_of (flows_of l.flows))))
