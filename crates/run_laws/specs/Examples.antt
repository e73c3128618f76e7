-- Small runs, lawful and not, and what is said of each.
use Rattle.std.specs.Prelude.{Some, None, ◌≡◌, ℕ, true, false, List, [], ◌∷◌}
use Rattle.rational.specs.Rational.{ℚ, ◌+ℚ◌}
use Rattle.rational.specs.Extended.{Ext}
use Rattle.rational.specs.declared.Extended.TheVariants.{Fin}
use Rattle.min_plus.specs.Functions.{IsRising}
use Rattle.min_plus.specs.Formulas.{IsBucket, IsService}
use Rattle.min_plus.specs.Deviations.{IsHorizontalDeviation}
use Rattle.run_laws.specs.declared.steps.Step.{Step}
use Rattle.run_laws.specs.declared.steps.Step.TheVariants.{Enter, Reach, Work, Leave, Visit}
use Rattle.run_laws.specs.Runs.{SpecRun}
use Rattle.run_laws.specs.Cards.{whole, of_queue}
use Rattle.run_laws.specs.Servers.{Discipline, Fifo, Priority, Drr, Server}
use Rattle.run_laws.specs.Premises.{IsZeroAtStart}
use Rattle.run_laws.specs.Delays.{hop_delays}
use Rattle.run_laws.specs.Routes.{Hop, Route, Routes}
use Rattle.run_laws.specs.Views.{view}
use Rattle.run_laws.specs.Lawful.{IsLawful}
use Rattle.run_laws.specs.FlowDelays.{delays}
use Rattle.run_laws.specs.RunPremises.{KeepsPremises}
use Rattle.run_laws.specs.Bounds.{IsOnlyFlow}

abbrev pub server : Discipline → Server
server d = record { discipline = d; pace = None }

-- of a pace of so many bits a unit of time
abbrev pub paced_server : Discipline → ℕ → Server
paced_server d rate = record { discipline = d; pace = Some (whole rate) }

abbrev pub over : List Hop → Route
over hops = record { live = true; hops = hops }

abbrev pub hop : ℕ → ℕ → Hop
hop s q = record { server = s; queue = q }

abbrev pub ends_at : ℕ → List Step → SpecRun
ends_at end steps = record { steps = steps; end = whole end }

-- ---- one flow over one first in, first out server, without a link
abbrev pub one_server : Routes
one_server = record { servers = server Fifo ∷ []; links = whole 0 ∷ []; flows = over (hop 0 0 ∷ []) ∷ [] }

-- a packet of 12000 bits at 0, worked from 10 to 130
abbrev pub one_packet : SpecRun
one_packet =
    ends_at 130
    (Enter 0 0 (whole 0) 12000 ∷ Work 0 0 (whole 10) (whole 130) (whole 12000) ∷ Leave 0 0 (whole 130) ∷ [])

-- a burst of 12000 bits and 10 per time; 100 per time after 10
pub record AreItsCurves (arrivals service : ℚ → Ext) : Type 0 where
  pub bucket : IsBucket (whole 12000) (whole 10) arrivals
  pub latency : IsService (whole 100) (whole 10) service

-- the run meets all that is asked of one flow over one server, and its delay is the horizontal deviation of its
-- curves, 130
pub record ReachesItsBound (arrivals service : ℚ → Ext) : Type 0 where
  pub is_alone : IsOnlyFlow one_server 0 0
  pub from_zero : IsZeroAtStart service
  pub rises : IsRising service
  pub is_lawful : IsLawful one_server one_packet
  pub keeps : KeepsPremises one_server (λ flow. 12000) (λ flow. arrivals) (λ s. service) one_packet
  pub its_delay : delays one_server one_packet 0 ≡ whole 130 ∷ []
  pub its_hop_delay : hop_delays (of_queue 0) (whole 130) (view one_server one_packet 0) ≡ whole 130 ∷ []
  pub its_bound : IsHorizontalDeviation arrivals service (Fin (whole 130))

-- with all functions that have the values of its curves from 0 on
abbrev pub OnePacketReachesItsBound : Type 0
OnePacketReachesItsBound = (arrivals service : ℚ → Ext) → AreItsCurves arrivals service
    → ReachesItsBound arrivals service

-- ---- a run that ends in the middle of work: 6000 of 12000 bits are done from 10 to 70
abbrev pub cut_in_work : SpecRun
cut_in_work = ends_at 70 (Enter 0 0 (whole 0) 12000 ∷ Work 0 0 (whole 10) (whole 70) (whole 6000) ∷ [])

-- the packet does not leave, and its delay is counted up to the end of the run
pub record CutInWork : Type 0 where
  pub is_lawful : IsLawful one_server cut_in_work
  pub its_delay : delays one_server cut_in_work 0 ≡ whole 70 ∷ []

-- ---- not lawful
-- the network has flow 0 alone, and a packet enters on flow 1
abbrev pub UnknownFlow : Type 0
UnknownFlow = ¬ IsLawful one_server (ends_at 1000 (Enter 1 0 (whole 0) 12000 ∷ []))

-- the network's one flow is not live, and a packet enters on it
abbrev pub dead_flow : Routes
dead_flow = record {
  servers = server Fifo ∷ [];
  links = whole 0 ∷ [];
  flows = record { live = false; hops = hop 0 0 ∷ [] } ∷ [];
}

abbrev pub DeadFlow : Type 0
DeadFlow = ¬ IsLawful dead_flow (ends_at 1000 (Enter 0 0 (whole 0) 12000 ∷ []))

-- more work than the packet has bits
abbrev pub WorkPastTheBits : Type 0
WorkPastTheBits =
    ¬ IsLawful one_server
    (ends_at 1000 (Enter 0 0 (whole 0) 12000 ∷ Work 0 0 (whole 0) (whole 10) (whole 12001) ∷ []))

-- the second packet of a queue is worked before the first
abbrev pub Overtaking : Type 0
Overtaking =
    ¬ IsLawful one_server
    (ends_at 1000
    (Enter 0 0 (whole 0) 12000 ∷ Enter 0 1 (whole 0) 12000 ∷ Work 0 1 (whole 0) (whole 10) (whole 12000)
    ∷ Leave 0 1 (whole 10) ∷ []))

-- a packet is worked off and does not leave
abbrev pub LeftComplete : Type 0
LeftComplete =
    ¬ IsLawful one_server
    (ends_at 130 (Enter 0 0 (whole 0) 12000 ∷ Work 0 0 (whole 10) (whole 130) (whole 12000) ∷ []))

-- ---- two steps of one time, in both orders: at 10 one packet leaves, and another enters
abbrev pub second_packet : List Step
second_packet = Work 0 1 (whole 10) (whole 20) (whole 12000) ∷ Leave 0 1 (whole 20) ∷ []

abbrev pub leaves_then_enters : SpecRun
leaves_then_enters =
    ends_at 20
    (Enter 0 0 (whole 0) 12000 ∷ Work 0 0 (whole 0) (whole 10) (whole 12000) ∷ Leave 0 0 (whole 10)
    ∷ Enter 0 1 (whole 10) 12000 ∷ second_packet)

abbrev pub enters_then_leaves : SpecRun
enters_then_leaves =
    ends_at 20
    (Enter 0 0 (whole 0) 12000 ∷ Work 0 0 (whole 0) (whole 10) (whole 12000) ∷ Enter 0 1 (whole 10) 12000
    ∷ Leave 0 0 (whole 10) ∷ second_packet)

abbrev pub BothOrders : Type 0
BothOrders = IsLawful one_server leaves_then_enters × IsLawful one_server enters_then_leaves

-- ---- two servers with a link of 5 between them
abbrev pub two_servers : Routes
two_servers = record {
  servers = server Fifo ∷ server Fifo ∷ [];
  links = whole 5 ∷ whole 0 ∷ [];
  flows = over (hop 0 0 ∷ hop 1 0 ∷ []) ∷ [];
}

abbrev pub first_hop : List Step
first_hop = Enter 0 0 (whole 0) 12000 ∷ Work 0 0 (whole 0) (whole 10) (whole 12000) ∷ Leave 0 0 (whole 10) ∷ []

abbrev pub both_hops : List Step
both_hops =
    Enter 0 0 (whole 0) 12000 ∷ Work 0 0 (whole 0) (whole 10) (whole 12000) ∷ Leave 0 0 (whole 10)
    ∷ Reach 1 0 (whole 10 +ℚ whole 5) ∷ Work 1 0 (whole 20) (whole 30) (whole 12000) ∷ Leave 1 0 (whole 30) ∷ []

-- a run may end while the packet is on the link, but not when it should have come; over both its delay is 30
pub record OverALink : Type 0 where
  pub on_the_link : IsLawful two_servers (ends_at 14 first_hop)
  pub overdue : ¬ IsLawful two_servers (ends_at 15 first_hop)
  pub over_both : IsLawful two_servers (ends_at 30 both_hops)
  pub its_delay : delays two_servers (ends_at 30 both_hops) 0 ≡ whole 30 ∷ []

-- ---- a priority server with two queues: flow 0 in queue 1, flow 1 in queue 0
abbrev pub two_priorities : Routes
two_priorities = record {
  servers = server (Priority 2) ∷ [];
  links = whole 0 ∷ [];
  flows = over (hop 0 1 ∷ []) ∷ over (hop 0 0 ∷ []) ∷ [];
}

-- both packets are there at 0, and the first queue's is worked first
abbrev pub higher_first : SpecRun
higher_first =
    ends_at 16
    (Enter 0 0 (whole 0) 8 ∷ Enter 1 1 (whole 0) 8 ∷ Work 0 1 (whole 0) (whole 8) (whole 8) ∷ Leave 0 1 (whole 8)
    ∷ Work 0 0 (whole 8) (whole 16) (whole 8) ∷ Leave 0 0 (whole 16) ∷ [])

abbrev pub lower_first : SpecRun
lower_first =
    ends_at 16
    (Enter 0 0 (whole 0) 8 ∷ Enter 1 1 (whole 0) 8 ∷ Work 0 0 (whole 0) (whole 8) (whole 8) ∷ Leave 0 0 (whole 8)
    ∷ [])

abbrev pub Priorities : Type 0
Priorities = IsLawful two_priorities higher_first × ¬ IsLawful two_priorities lower_first

-- ---- a deficit round robin server of quanta 10 and 10: flow 0 in queue 1, flow 1 in queue 0
abbrev pub two_quanta : Routes
two_quanta = record {
  servers = server (Drr (10 ∷ 10 ∷ [])) ∷ [];
  links = whole 0 ∷ [];
  flows = over (hop 0 1 ∷ []) ∷ over (hop 0 0 ∷ []) ∷ [];
}

-- a packet of 6 leaves a deficit of 4, which a second of 6 does not fit: it goes in a second visit
abbrev pub two_visits : SpecRun
two_visits =
    ends_at 12
    (Enter 0 0 (whole 0) 6 ∷ Enter 0 1 (whole 0) 6 ∷ Visit 0 1 (whole 0) ∷ Work 0 0 (whole 0) (whole 6) (whole 6)
    ∷ Leave 0 0 (whole 6)
    ∷ Visit 0 1 (whole 6) ∷ Work 0 1 (whole 6) (whole 12) (whole 6) ∷ Leave 0 1 (whole 12) ∷ [])

-- the second packet goes in the first visit
abbrev pub one_visit : SpecRun
one_visit =
    ends_at 12
    (Enter 0 0 (whole 0) 6 ∷ Enter 0 1 (whole 0) 6 ∷ Visit 0 1 (whole 0) ∷ Work 0 0 (whole 0) (whole 6) (whole 6)
    ∷ Leave 0 0 (whole 6)
    ∷ Work 0 1 (whole 6) (whole 12) (whole 6) ∷ Leave 0 1 (whole 12) ∷ [])

-- queue 1 is the head of the list, and queue 0 is visited
abbrev pub not_the_head : SpecRun
not_the_head = ends_at 12 (Enter 0 0 (whole 0) 6 ∷ Enter 1 1 (whole 0) 6 ∷ Visit 0 0 (whole 0) ∷ [])

pub record Quanta : Type 0 where
  pub in_two_visits : IsLawful two_quanta two_visits
  pub in_one_visit : ¬ IsLawful two_quanta one_visit
  pub out_of_turn : ¬ IsLawful two_quanta not_the_head
