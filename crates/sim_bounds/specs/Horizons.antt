-- How far the times of a stated run can go: a first time, and a span for each server. (Own choice.)
use Rattle.std.specs.Prelude.{Option, Some, None, ℕ, zero, suc, pos, ◌+◌, ◌<◌, ◌==◌, List, [], ◌∷◌, length, if◌then◌else◌}
use Rattle.std.specs.List.{AllByRecursion}
use Rattle.rational.specs.Rational.{ℚ, int, ◌+ℚ◌, ◌-ℚ◌, ◌*ℚ◌, ◌/ℚ◌, ◌≤ℚ◌}
use Rattle.rational.specs.MinMax.{max_q}
use Rattle.run_laws.specs.Cards.{whole}
use Rattle.run_laws.specs.Routes.{Hop, Routes, route_of, link_at}
use Rattle.net_model.specs.stated_runs.Setups.{Entering, GateTimes, StallTimes, Setup, opening_of, rate_of, packet_of}

-- ---- the first time: the largest of the times at which packets enter and stalls end, and 0 where there is none
abbrev pub latest_of : {A : Type 0} → (A → ℚ) → List A → ℚ
latest_of time [] = int (pos 0)
latest_of time (x ∷ xs) = max_q (time x) (latest_of time xs)

abbrev pub first_time : Setup → ℚ
first_time S = max_q (latest_of (λ e. e.time) S.packets) (latest_of (λ o. latest_of (λ x. x.end) o.stalls) S.openings)

-- ---- the span of a server
-- the bits of a packet with this path that server s has to work off
abbrev pub path_bits : ℕ → List Hop → ℕ → ℕ
path_bits s [] bits = 0
path_bits s (h ∷ hs) bits = if h.server == s then bits else path_bits s hs bits

-- those of all of them
abbrev pub bits_through : Routes → ℕ → List Entering → ℕ
bits_through net s [] = 0
bits_through net s (e ∷ es) = path_bits s (route_of net e.flow).hops e.bits + bits_through net s es

-- the bits of the packets that pass server s
abbrev pub load : Setup → ℕ → ℕ
load S s = bits_through S.net s S.packets

-- a gate makes work this much longer, and one cycle more
abbrev pub gate_ratio : Option GateTimes → ℚ
gate_ratio None = int (pos 1)
gate_ratio (Some g) = g.cycle /ℚ g.slot

abbrev pub gate_cycle : Option GateTimes → ℚ
gate_cycle None = int (pos 0)
gate_cycle (Some g) = g.cycle

-- the lengths of stalls
abbrev pub stalled_for : List StallTimes → ℚ
stalled_for [] = int (pos 0)
stalled_for (x ∷ xs) = (x.end -ℚ x.start) +ℚ stalled_for xs

-- how long server s works on all packets that pass it, its closed times with it
abbrev pub work_span : Setup → ℕ → ℚ
work_span S s = gate_ratio (opening_of S s).gate *ℚ (whole (load S s) /ℚ rate_of S s)
    +ℚ gate_cycle (opening_of S s).gate

abbrev pub span : Setup → ℕ → ℚ
span S s = work_span S s +ℚ stalled_for (opening_of S s).stalls +ℚ link_at S.net s

-- f at the numbers below n
abbrev pub sum_below : (ℕ → ℚ) → ℕ → ℚ
sum_below f zero = int (pos 0)
sum_below f (suc n) = sum_below f n +ℚ f n

-- no step is later
abbrev pub horizon : Setup → ℚ
horizon S = first_time S +ℚ sum_below (span S) (length S.net.servers)

-- ---- what is asked: an order of the servers, which no path goes against; stalls that end no earlier than they start
abbrev pub IsRising : (ℕ → ℕ) → List Hop → Type 0
IsRising place [] = Unit {0}
IsRising place (h ∷ []) = Unit {0}
IsRising place (h ∷ g ∷ hs) = (place h.server < place g.server) × IsRising place (g ∷ hs)

abbrev pub AreStalls : List StallTimes → Type 0
AreStalls = AllByRecursion (λ x. x.start ≤ℚ x.end)

pub record IsForward (S : Setup) (place : ℕ → ℕ) : Type 0 where
  pub rising : (p : ℕ) → p < length S.packets → IsRising place (route_of S.net (packet_of S p).flow).hops
  pub stalls : (s : ℕ) → AreStalls (opening_of S s).stalls
