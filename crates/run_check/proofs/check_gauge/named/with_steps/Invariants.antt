use Rattle.std.proofs.Common.{◌≡◌, drop}
use Rattle.upp_limits.specs.Limits.{Numbers, joined}
use Rattle.upp_limits.specs.Gathered.{Gathers}
use Rattle.run_check.specs.check_gauge.Named.{steps_numbers}
use Rattle.run_check.proofs.check_gauge.named.with_steps.Given as goal

-- what is gathered, and the numbers of those that are left, make the whole
abbrev pub invariant-loop-step : goal.invariant-loop-step
invariant-loop-step l =
    (n : Numbers) → Gathers l.fn.g n
    → (m : Numbers) × Gathers l.found m × (joined m (steps_numbers (drop l.step-index l.steps)) ≡ joined n (steps_numbers l.steps))
