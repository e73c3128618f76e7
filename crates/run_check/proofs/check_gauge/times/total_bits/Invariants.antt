use Rattle.std.proofs.Common.{◌≡◌, ◌≤◌, ◌+◌, ◌*◌, ◌^◌, drop}
use Rattle.run_check.specs.check_gauge.Runs.{total_bits}
use Rattle.run_check.proofs.check_gauge.times.total_bits.Given as goal

abbrev pub invariant-loop-step : goal.invariant-loop-step
invariant-loop-step l = record {
  sum : l.bits + total_bits (drop l.step-index l.steps) ≡ total_bits l.steps;
  small : l.bits ≤ l.step-index * 2 ^ 32;
}
