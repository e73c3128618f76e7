-- What holds of every workload.
use Rattle.std.specs.Prelude.{◌≡◌, ◌⊎◌, ℕ, ◌*◌, ◌<◌, All, AllPairs, Contains}
use Rattle.rational.specs.Rational.{◌<ℚ◌}
use Rattle.min_plus.specs.Functions.{zero_q}
use Rattle.upp_curve.specs.Kinds.{rate_latency, stair}
use Rattle.upp_limits.specs.OwnLimits.{IsWithinOwn}
use Rattle.net_model.specs.Accepted.{IsAccepted}
use Rattle.net_model.specs.declared.trace.TracePacket.{TracePacket}
use Rattle.net_model.specs.Traces.{IsTrace}
use Rattle.net_model.specs.Walks.{IsFeedForward}
use Rattle.net_model.specs.stated_runs.FromTraces.{IsTraceOf}
use Rattle.exercise_load.specs.declared.drawn.DrawnFlow.{DrawnFlow}
use Rattle.exercise_load.specs.Drawn.{drawn_flow, drawn_flows}
use Rattle.exercise_load.specs.Workloads.{whole, packet_at, network_of, trace_of}

-- ---- it can be analysed and simulated
-- its network keeps what every network keeps, and no walk over its servers comes back; its trace keeps what every trace
-- keeps, and names live flows of the network
pub record Stands (seed : ℕ) : Type 0 where
  pub accepted : IsAccepted (network_of seed)
  pub feed_forward : IsFeedForward (network_of seed)
  pub keeps : IsTrace (trace_of seed)
  pub named : IsTraceOf (network_of seed) (trace_of seed)

abbrev pub WorkloadsStand : Type 0
WorkloadsStand = (seed : ℕ) → Stands seed

-- ---- its curves are never over a limit
abbrev pub HasNarrowArrival : DrawnFlow → Type 0
HasNarrowArrival f = IsWithinOwn (stair (whole f.packet) (whole f.period) zero_q)

pub record HasNarrowCurves (seed : ℕ) : Type 0 where
  pub service : IsWithinOwn (rate_latency (whole 100) (whole 10))
  pub arrivals : All HasNarrowArrival (drawn_flows seed)

abbrev pub CurvesAreWithinLimits : Type 0
CurvesAreWithinLimits = (seed : ℕ) → HasNarrowCurves seed

-- ---- its trace
-- a packet that a flow sends after a whole number of its periods, before 1,024,000
pub record IsSent (seed : ℕ) (p : TracePacket) : Type 0 where
  pub flow : ℕ
  pub one : flow < 24
  pub periods : ℕ
  pub before : periods * (drawn_flow seed flow).period < 1024000
  pub is : p ≡ packet_at (periods * (drawn_flow seed flow).period) (drawn_flow seed flow)

-- by time, and at one time by the number of the flow
abbrev pub ComesBefore : TracePacket → TracePacket → Type 0
ComesBefore p q = (p.time <ℚ q.time) ⊎ ((p.time ≡ q.time) × (p.flow < q.flow))

-- each packet that is sent, no other, and in this order: so it is the one such list
pub record HoldsWhatIsSent (seed : ℕ) : Type 0 where
  pub all : (p : TracePacket) → IsSent seed p → Contains (trace_of seed).packets p
  pub only : (p : TracePacket) → Contains (trace_of seed).packets p → IsSent seed p
  pub in_turn : AllPairs ComesBefore (trace_of seed).packets

abbrev pub TracesHoldWhatIsSent : Type 0
TracesHoldWhatIsSent = (seed : ℕ) → HoldsWhatIsSent seed
