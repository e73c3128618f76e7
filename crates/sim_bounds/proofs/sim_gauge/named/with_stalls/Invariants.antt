use Rattle.std.proofs.Common.{◌≡◌, drop}
use Rattle.upp_limits.specs.Limits.{Numbers, joined}
use Rattle.upp_limits.specs.Gathered.{Gathers}
use Rattle.sim_bounds.specs.sim_gauge.Named.{stall_numbers}
use Rattle.sim_bounds.proofs.sim_gauge.named.with_stalls.Given as goal

-- what is gathered, and the numbers of those that are left, make the whole
abbrev pub invariant-loop-stall : goal.invariant-loop-stall
invariant-loop-stall l =
    (n : Numbers) → Gathers l.fn.g n
    → (m : Numbers) × Gathers l.found m × (joined m (stall_numbers (drop l.stall-index l.stalls)) ≡ joined n (stall_numbers l.stalls))
