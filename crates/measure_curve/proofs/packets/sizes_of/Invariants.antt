use Rattle.std.proofs.Common.{◌≡◌, drop}
use Rattle.upp_limits.specs.Limits.{Numbers, joined}
use Rattle.upp_limits.specs.Gathered.{Gathers}
use Rattle.measure_curve.specs.Grids.{numbers_of}
use Rattle.measure_curve.specs.Windows.{of_flow}
use Rattle.measure_curve.proofs.packets.sizes_of.Given as goal

-- what is gathered, and the numbers of those that are left, are all
abbrev pub invariant-loop-packet : goal.invariant-loop-packet
invariant-loop-packet l =
    (m : Numbers) × Gathers l.found m × (joined m (numbers_of (of_flow l.flow (drop l.packet-index l.packets))) ≡ numbers_of (of_flow l.flow l.packets))
