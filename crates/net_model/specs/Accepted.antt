-- What every network keeps. (The limits are our own choice.)
use Rattle.std.specs.Prelude.{◌≡◌, ◌≢◌, ℕ, ◌<◌, ◌≤◌, ◌^◌, List, length, All, AllPairs, Contains, Some, slice_get, slice_index}
use Rattle.rational.specs.Rational.{ℚ, ◌≤ℚ◌, ◌<ℚ◌}
use Rattle.rational.specs.declared.Extended.TheVariants.{Fin}
use Rattle.upp_curve.specs.Curve.{SpecCurve, value_at}
use Rattle.min_plus.specs.Functions.{zero_q, IsFinite, IsRising, IsNonnegative}
use Rattle.upp_curve.specs.Kinds.{rate_latency, gate}
use Rattle.run_laws.specs.Servers.{Discipline, Fifo, Priority, Drr, queue_count}
use Rattle.net_model.specs.declared.server.ServiceKind.{ServiceKind}
use Rattle.net_model.specs.declared.server.ServiceKind.TheVariants.{Latency, Gate, Listed}
use Rattle.net_model.specs.Networks.{Net, NetServer, NetFlow}
use Rattle.net_model.specs.Names.{IsName, HaveOwnNames}
use Rattle.min_plus.specs.Continuity.{IsContinuous}

-- the versions of network files: 1, and 2, in which servers have a pace
abbrev pub IsVersion : ℕ → Type 0
IsVersion version = (1 ≤ version) × (version ≤ 2)

-- packets and quanta have 1 to 2^24 bits
abbrev pub IsLength : ℕ → Type 0
IsLength bits = (1 ≤ bits) × (bits ≤ 2 ^ 24)

abbrev pub IsQueueNumber : ℕ → Type 0
IsQueueNumber n = (1 ≤ n) × (n ≤ 8)

-- ---- curves
-- finite, rising, without a jump, and 0 at 0
pub record IsServiceCurve (c : SpecCurve) : Type 0 where
  pub finite : IsFinite (value_at c)
  pub rising : IsRising (value_at c)
  pub continuous : IsContinuous (value_at c)
  pub at_zero : value_at c zero_q ≡ Fin zero_q

-- the curve of a kind and a rate; a listed one may be any
abbrev pub IsOfKind : ℚ → ServiceKind → SpecCurve → Type 0
IsOfKind rate (Latency latency) c = (zero_q ≤ℚ latency) × (c ≡ rate_latency rate latency)
IsOfKind rate (Gate cycle slot) c = (zero_q <ℚ slot) × (slot ≤ℚ cycle) × (c ≡ gate rate cycle slot)
IsOfKind rate Listed c = Unit {0}

-- finite, rising, and nowhere below 0
pub record IsArrivalCurve (c : SpecCurve) : Type 0 where
  pub finite : IsFinite (value_at c)
  pub rising : IsRising (value_at c)
  pub nonnegative : IsNonnegative (value_at c)

-- ---- servers
-- one queue; or 1 to 8 queues; or 1 to 8 quanta
abbrev pub HasFewQueues : Discipline → Type 0
HasFewQueues Fifo = Unit {0}
HasFewQueues (Priority n) = IsQueueNumber n
HasFewQueues (Drr quanta) = IsQueueNumber (length quanta) × All IsLength quanta

pub record IsServer (s : NetServer) : Type 0 where
  pub name : IsName s.name
  pub rate : zero_q <ℚ s.rate
  pub kind : IsOfKind s.rate s.kind s.service
  pub service : IsServiceCurve s.service
  pub link : zero_q ≤ℚ s.link
  pub queues : HasFewQueues s.discipline

-- ---- flows
-- a packet is no longer than the quantum of its queue, where there are quanta
abbrev pub IsInQuantum : Discipline → ℕ → ℕ → Type 0
IsInQuantum Fifo queue bits = Unit {0}
IsInQuantum (Priority n) queue bits = Unit {0}
IsInQuantum (Drr quanta) queue bits = bits ≤ slice_index quanta queue

-- a server of the network, with this queue, which takes packets that long
pub record IsHop (servers : List NetServer) (number queue bits : ℕ) : Type 0 where
  pub server : NetServer
  pub is : slice_get servers number ≡ Some server
  pub has_queue : queue < queue_count server.discipline
  pub takes : IsInQuantum server.discipline queue bits

-- a path of 1 to 16 hops, with one queue a hop and no server twice
pub record IsFlow (servers : List NetServer) (f : NetFlow) : Type 0 where
  pub name : IsName f.name
  pub packet : IsLength f.packet
  pub some : 1 ≤ length f.path
  pub few : length f.path ≤ 16
  pub paired : length f.queues ≡ length f.path
  pub hops : (k : ℕ) → k < length f.path → IsHop servers (slice_index f.path k) (slice_index f.queues k) f.packet
  pub once : AllPairs (λ s t. s ≢ t) f.path
  pub arrival : IsArrivalCurve f.arrival

-- ---- networks
-- at most 64 servers and 256 places for flows, with names of their own
pub record IsAccepted (net : Net) : Type 0 where
  pub version : IsVersion net.version
  pub few_servers : length net.servers ≤ 64
  pub few_flows : length net.flows ≤ 256
  pub names : HaveOwnNames net
  pub servers : (s : NetServer) → Contains net.servers s → IsServer s
  pub flows : (f : NetFlow) → Contains net.flows (Some f) → IsFlow net.servers f
