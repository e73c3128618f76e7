use Rattle.std.proofs.Common.{◌≡◌, ◌+◌, ◌*◌, ◌^◌, ◌≤◌, drop}
use Rattle.std.specs.Prelude.{sum_by}
use Rattle.measure_curve.specs.Windows.{of_flow}
use Rattle.measure_curve.proofs.packets.bits_of.Given as goal

-- the bits so far, and of those that are left, are all
abbrev pub invariant-loop-packet : goal.invariant-loop-packet
invariant-loop-packet l = record {
  sum : l.bits + sum_by (λ p. p.bits) (of_flow l.flow (drop l.packet-index l.packets)) ≡ sum_by (λ p. p.bits) (of_flow l.flow l.packets);
  few : l.bits ≤ 2 ^ 32 * l.packet-index;
}
