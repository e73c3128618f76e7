use Rattle.std.proofs.Common.{◌≡◌, drop}
use Rattle.upp_limits.specs.Limits.{Numbers, joined}
use Rattle.upp_limits.specs.Gathered.{Gathers}
use Rattle.sim_bounds.specs.sim_gauge.Named.{packet_numbers}
use Rattle.sim_bounds.proofs.sim_gauge.named.with_packets.Given as goal

-- what is gathered, and the numbers of those that are left, make the whole
abbrev pub invariant-loop-packet : goal.invariant-loop-packet
invariant-loop-packet l =
    (n : Numbers) → Gathers l.fn.g n
    → (m : Numbers) × Gathers l.found m × (joined m (packet_numbers (drop l.packet-index l.packets)) ≡ joined n (packet_numbers l.packets))
