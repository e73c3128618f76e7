-- Stations of servers without packets.
use Rattle.std.specs.Prelude.{Some, ◌≡◌, ◌↔◌, ℕ, List, length, map, slice_get, All, AllPairs}
use Rattle.rational.specs.Rational.{ℚ, ◌≤ℚ◌, ◌<ℚ◌}
use Rattle.run_laws.specs.Servers.{start}
use Rattle.net_model.specs.Networks.{NetServer}
use Rattle.net_model.specs.Traces.{SpecTrace}
use Rattle.net_model.specs.stated_runs.Setups.{StallTimes, IsStalled}
use Rattle.net_model.specs.stated_runs.FromTraces.{gate_of, stalls_at}
use Rattle.net_model.specs.stated_runs.TimeGrids.{AreStallTimes}
use Rattle.sim_servers.specs.declared.opening.Span.{Span}
use Rattle.sim_servers.specs.declared.station.Next.TheVariants.{Nothing}
use Rattle.sim_servers.specs.declared.station.Station.{Station}
use Rattle.sim_servers.specs.Openings.{gate_for, stall_times}
use Rattle.sim_servers.specs.Queues.{served_by, room_of, StandFor}

-- the same stalls, in the order of their starts
pub record AreSorted (stalls : List StallTimes) (spans : List Span) : Type 0 where
  pub in_order : AllPairs (λ (a b : Span). a.start ≤ℚ b.start) spans
  pub stalled : (t : ℚ) → IsStalled (map stall_times spans) t ↔ IsStalled stalls t
  pub times : (D : ℕ) (E : ℚ) → AreStallTimes D E stalls → AreStallTimes D E (map stall_times spans)
  pub forward : All (λ (a : StallTimes). a.start <ℚ a.end) stalls → All (λ (a : Span). a.start <ℚ a.end) spans

-- a station of a server without packets, with room for so many and with these stalls
pub record IsFresh (s : NetServer) (packets : ℕ) (spans : List Span) (x : Station) : Type 0 where
  pub discipline : served_by x.queues ≡ s.discipline
  pub room : room_of x.queues ≡ packets
  pub stands : StandFor x.queues (start s.discipline)
  pub gate : gate_for x.opening.gate ≡ gate_of s.kind
  pub stalls : x.opening.stalls.items ≡ spans
  pub passed : x.opening.passed ≡ 0
  pub rate : x.rate ≡ s.rate
  pub inside : x.inside ≡ 0
  pub next : x.next ≡ Nothing

-- that of server k of a network, whose stalls are those of a trace
pub record IsFreshAt (servers : List NetServer) (trace : SpecTrace) (k : ℕ) (x : Station) : Type 0 where
  pub server : NetServer
  pub at : slice_get servers k ≡ Some server
  pub spans : List Span
  pub sorted : AreSorted (stalls_at k trace.stalls) spans
  pub fresh : IsFresh server (length trace.packets) spans x

-- of the first servers
pub record AreFresh (servers : List NetServer) (trace : SpecTrace) (many : ℕ) (stations : List Station) : Type 0 where
  pub as_many : length stations ≡ many
  pub each : (k : ℕ) (x : Station) → slice_get stations k ≡ Some x → IsFreshAt servers trace k x
