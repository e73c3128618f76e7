-- What every trace keeps. (The limits are our own choice.)
use Rattle.std.specs.Prelude.{◌+◌, ◌≤◌, List, length, All, AllPairs}
use Rattle.rational.specs.Rational.{◌≤ℚ◌, ◌<ℚ◌}
use Rattle.min_plus.specs.Functions.{zero_q}
use Rattle.net_model.specs.declared.trace.TracePacket.{TracePacket}
use Rattle.net_model.specs.declared.trace.Stall.{Stall}
use Rattle.net_model.specs.Accepted.{IsLength}

-- the packets that enter, and the stalls
pub record SpecTrace : Type 0 where
  pub packets : List TracePacket
  pub stalls : List Stall

abbrev pub trace_of : List TracePacket → List Stall → SpecTrace
trace_of packets stalls = record { packets = packets; stalls = stalls }

-- a packet enters at 0 or later, and has 1 to 2^24 bits
pub record IsTracePacket (p : TracePacket) : Type 0 where
  pub from_zero : zero_q ≤ℚ p.time
  pub bits : IsLength p.bits

-- a stall starts at 0 or later, and takes some time
pub record IsStall (s : Stall) : Type 0 where
  pub from_zero : zero_q ≤ℚ s.start
  pub forward : s.start <ℚ s.end

-- at most 10,000 packets and stalls in all, and packets whose times do not fall
pub record IsTrace (trace : SpecTrace) : Type 0 where
  pub few : length trace.packets + length trace.stalls ≤ 10000
  pub packets : All IsTracePacket trace.packets
  pub in_order : AllPairs (λ p q. p.time ≤ℚ q.time) trace.packets
  pub stalls : All IsStall trace.stalls
