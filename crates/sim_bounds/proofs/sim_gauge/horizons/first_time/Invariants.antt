use Rattle.std.proofs.Common.{◌≡◌, drop}
use Rattle.std.specs.Prelude.{pos}
use Rattle.rational.specs.Rational.{int, ◌≤ℚ◌}
use Rattle.rational.specs.MinMax.{max_q}
use Rattle.net_model.specs.declared.trace.TracePacket.{TracePacket}
use Rattle.net_model.specs.declared.trace.Stall.{Stall}
use Rattle.sim_bounds.specs.Horizons.{latest_of}
use Rattle.sim_bounds.proofs.sim_gauge.horizons.first_time.Given as goal

abbrev pub invariant-loop-packet : goal.invariant-loop-packet
invariant-loop-packet l = record {
  latest : max_q l.latest (latest_of (λ (p : TracePacket). p.time) (drop l.packet-index l.packet-items)) ≡ latest_of (λ (p : TracePacket). p.time) l.packet-items;
  from_zero : int (pos 0) ≤ℚ l.latest;
}

abbrev pub invariant-loop-stall : goal.invariant-loop-stall
invariant-loop-stall l = record {
  latest : max_q l.latest (latest_of (λ (x : Stall). x.end) (drop l.stall-index l.stall-items)) ≡ max_q l.initial.latest (latest_of (λ (x : Stall). x.end) l.stall-items);
  from_zero : int (pos 0) ≤ℚ l.latest;
}
