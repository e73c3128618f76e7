use Rattle.std.proofs.Common.{◌≡◌, ◌≤◌, ◌+◌, ◌*◌, ◌^◌, drop}
use Rattle.std.specs.Prelude.{sum_by}
use Rattle.net_model.specs.declared.trace.TracePacket.{TracePacket}
use Rattle.sim_bounds.proofs.sim_gauge.wide.bits_of.Given as goal

abbrev pub invariant-loop-packet : goal.invariant-loop-packet
invariant-loop-packet l = record {
  sum : l.bits + sum_by (λ (p : TracePacket). p.bits) (drop l.packet-index l.packets) ≡ sum_by (λ (p : TracePacket). p.bits) l.packets;
  small : l.bits ≤ l.packet-index * 2 ^ 32;
}
