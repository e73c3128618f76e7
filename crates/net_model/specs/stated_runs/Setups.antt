-- What a simulation is told: the network, how fast each server works and when it may, and the packets that enter.
use Rattle.std.specs.Prelude.{Option, Some, None, ◌≡◌, ◌⊎◌, ℕ, pos, ◌<◌, ◌≤◌, ◌^◌, true, List, [], ◌∷◌, length, get_or}
use Rattle.rational.specs.Rational.{ℚ, int, ◌+ℚ◌, ◌-ℚ◌, ◌*ℚ◌, ◌≤ℚ◌, ◌<ℚ◌}
use Rattle.run_laws.specs.Cards.{whole}
use Rattle.run_laws.specs.Servers.{queue_count}
use Rattle.run_laws.specs.Routes.{Hop, Routes, server_at, route_of}

-- a packet of the trace
pub record Entering : Type 0 where
  pub flow : ℕ
  pub bits : ℕ
  pub time : ℚ

-- a gate is open for a slot at the beginning of each cycle
pub record GateTimes : Type 0 where
  pub cycle : ℚ
  pub slot : ℚ

-- a server stalls from the start up to the end, and not at the end
pub record StallTimes : Type 0 where
  pub start : ℚ
  pub end : ℚ

pub record Opening : Type 0 where
  pub gate : Option GateTimes
  pub stalls : List StallTimes

-- the gate is open, if there is one
abbrev pub IsGateOpen : Option GateTimes → ℚ → Type 0
IsGateOpen None t = Unit {0}
IsGateOpen (Some g) t = (n : ℕ) × (whole n *ℚ g.cycle ≤ℚ t) × (t <ℚ whole n *ℚ g.cycle +ℚ g.slot)

abbrev pub IsStalled : List StallTimes → ℚ → Type 0
IsStalled [] t = ⊥
IsStalled (x ∷ xs) t = ((x.start ≤ℚ t) × (t <ℚ x.end)) ⊎ IsStalled xs t

-- a gate's slot is some time, and no longer than its cycle
pub record IsGate (g : GateTimes) : Type 0 where
  pub some_slot : int (pos 0) <ℚ g.slot
  pub within : g.slot ≤ℚ g.cycle

abbrev pub IsGateFor : Option GateTimes → Type 0
IsGateFor None = Unit {0}
IsGateFor (Some g) = IsGate g

-- neither stalled nor closed
abbrev pub IsOpenAt : Opening → ℚ → Type 0
IsOpenAt o t = IsGateOpen o.gate t × (¬ (IsStalled o.stalls t))

-- t is the first time from `from` on at which a gate is open
pub record IsFirstGateOpen (g : Option GateTimes) (from t : ℚ) : Type 0 where
  pub not_before : from ≤ℚ t
  pub open_then : IsGateOpen g t
  pub closed_before : (x : ℚ) → from ≤ℚ x → x <ℚ t → ¬ (IsGateOpen g x)

-- and the first at which a server is neither stalled nor closed
pub record IsFirstOpenAt (o : Opening) (from t : ℚ) : Type 0 where
  pub not_before : from ≤ℚ t
  pub open_then : IsOpenAt o t
  pub closed_before : (x : ℚ) → from ≤ℚ x → x <ℚ t → ¬ (IsOpenAt o x)

-- P holds from a time on up to `end`, which is `until` or the first time at which it does not
pub record StaysTo (P : ℚ → Type 0) (from until end : ℚ) : Type 0 where
  pub forward : from <ℚ end
  pub within : end ≤ℚ until
  pub holds : (x : ℚ) → from ≤ℚ x → x <ℚ end → P x
  pub ends : (end ≡ until) ⊎ (¬ (P end))

-- `rates`: the pace of each server's work; `openings`: when each works; `packets`: those that enter, in their order
pub record Setup : Type 0 where
  pub net : Routes
  pub rates : List ℚ
  pub openings : List Opening
  pub packets : List Entering

abbrev pub opening_of : Setup → ℕ → Opening
opening_of S s = get_or S.openings s record { gate = None; stalls = [] }

abbrev pub IsOpen : Setup → ℕ → ℚ → Type 0
IsOpen S s t = IsOpenAt (opening_of S s) t

abbrev pub rate_of : Setup → ℕ → ℚ
rate_of S s = get_or S.rates s (int (pos 1))

abbrev pub packet_of : Setup → ℕ → Entering
packet_of S p = get_or S.packets p record { flow = 0; bits = 0; time = int (pos 0) }

-- t is the first time from `from` on at which the server is open
abbrev pub IsFirstOpen : Setup → ℕ → ℚ → ℚ → Type 0
IsFirstOpen S s from t = IsFirstOpenAt (opening_of S s) from t

-- server s works on a packet that lacks `left` bits: from a, when it is open for the first time since `from`, at its
-- rate, up to the first time b at which the packet is worked off or the server no longer open
pub record IsStretch (S : Setup) (s : ℕ) (from left a b w : ℚ) : Type 0 where
  pub begins : IsFirstOpen S s from a
  pub forward : a <ℚ b
  pub open_all : (x : ℚ) → a ≤ℚ x → x <ℚ b → IsOpen S s x
  pub at_rate : w ≡ rate_of S s *ℚ (b -ℚ a)
  pub within : w ≤ℚ left
  pub longest : (w ≡ left) ⊎ (¬ (IsOpen S s b))

-- the hops of a path are at servers of the network and in queues of theirs
pub record IsHopOf (net : Routes) (h : Hop) : Type 0 where
  pub known_server : h.server < length net.servers
  pub known_queue : h.queue < queue_count (server_at net h.server).discipline

abbrev pub AreHopsOf : Routes → List Hop → Type 0
AreHopsOf net [] = Unit {0}
AreHopsOf net (h ∷ hs) = IsHopOf net h × AreHopsOf net hs

-- a packet that may enter: of some bits, on a live flow whose path has servers of the network
pub record MayComeIn (net : Routes) (e : Entering) : Type 0 where
  pub live : (route_of net e.flow).live ≡ true
  pub some_hop : 1 ≤ length (route_of net e.flow).hops
  pub hops : AreHopsOf net (route_of net e.flow).hops
  pub some_bits : 1 ≤ e.bits
  pub few_bits : e.bits ≤ 2 ^ 32

-- what is asked of a setup: each server works at a rate above 0, no faster than its pace if that is limited; its gate
-- is open for some of each cycle; links take no negative time; packets enter in the order of the
-- trace, from time 0 on
pub record IsSetup (S : Setup) : Type 0 where
  pub as_many : length S.rates ≡ length S.net.servers
  pub rates : (s : ℕ) → int (pos 0) <ℚ rate_of S s
  pub paces : (s : ℕ) → ((server_at S.net s).pace ≡ None) ⊎ ((server_at S.net s).pace ≡ Some (rate_of S s))
  pub gates : (s : ℕ) → IsGateFor (opening_of S s).gate
  pub links : (s : ℕ) → int (pos 0) ≤ℚ get_or S.net.links s (int (pos 0))
  pub packets : (p : ℕ) → p < length S.packets → MayComeIn S.net (packet_of S p)
  pub from_zero : (p : ℕ) → p < length S.packets → int (pos 0) ≤ℚ (packet_of S p).time
  pub in_order : (i j : ℕ) → i ≤ j → j < length S.packets → (packet_of S i).time ≤ℚ (packet_of S j).time
