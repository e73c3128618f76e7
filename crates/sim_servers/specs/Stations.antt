-- The state of a server in a stated run, as the simulator keeps it.
use Rattle.std.specs.Prelude.{Option, Some, None, ◌≡◌, ◌≢◌, ◌↔◌, ℕ, pos, ◌<◌, ◌^◌, [], length}
use Rattle.rational.specs.Rational.{ℚ, int, ◌+ℚ◌, ◌-ℚ◌, ◌*ℚ◌, ◌/ℚ◌, ◌≤ℚ◌, ◌<ℚ◌}
use Rattle.run_laws.specs.Cards.{size}
use Rattle.run_laws.specs.Servers.{queue_count, Under, ServerState, done}
use Rattle.run_laws.specs.Routes.{server_at}
use Rattle.queue_sched.specs.Waiting.{HasPacket}
use Rattle.net_model.specs.stated_runs.Setups as setups
use Rattle.net_model.specs.stated_runs.Setups.{Setup, IsStalled, IsOpenAt, IsFirstOpen, IsFirstOpenAt, StaysTo, opening_of, rate_of}
use Rattle.sim_servers.specs.declared.due.Due.{Due}
use Rattle.sim_servers.specs.declared.due.DueKind.TheVariants as kinds
use Rattle.sim_servers.specs.declared.station.Rest.{Rest}
use Rattle.sim_servers.specs.declared.opening.Opening.{Opening}
use Rattle.sim_servers.specs.declared.station.Next.{Next}
use Rattle.sim_servers.specs.declared.station.Next.TheVariants.{Nothing, Start, Resume, Leave}
use Rattle.sim_servers.specs.declared.station.Station.{Station}
use Rattle.sim_servers.specs.declared.station.Stretch.{Stretch}
use Rattle.sim_servers.specs.Openings.{opening_for, IsInOrder, IsOver, HasOpened}
use Rattle.rational.specs.Ratio.{IsSmall}
use Rattle.net_model.specs.stated_runs.TimeGrids.{HasRoom, IsTime, IsGateTime, AreStallTimes}
use Rattle.sim_servers.specs.Queues.{served_by, room_of, StandFor}

-- no packet is there
pub record IsVacant (σ : ServerState) (o : Opening) : Type 0 where
  pub idle : σ.under ≡ None
  pub none : σ.inside ≡ []
  pub over : IsOver o σ.now

-- none of those that are there is under way, and the server opens at t
pub record WillStart (S : Setup) (s : ℕ) (σ : ServerState) (o : Opening) (t : ℚ) : Type 0 where
  pub idle : σ.under ≡ None
  pub some : σ.inside ≢ []
  pub opens : IsFirstOpen S s σ.now t
  pub opened : HasOpened o t

-- the packet under way needs so much time yet, and the server opens again at t
pub record WillResume (S : Setup) (s : ℕ) (σ : ServerState) (o : Opening) (p : ℕ) (t left : ℚ) : Type 0 where
  pub under : Under
  pub is_under : σ.under ≡ Some under
  pub packet_is : under.card.packet ≡ p
  pub not_done : done under <ℚ size under.card
  pub opens : IsFirstOpen S s under.last.end t
  pub left_is : left ≡ (size under.card -ℚ done under) /ℚ rate_of S s
  pub opened : HasOpened o t

-- the packet under way is worked off at t
pub record WillLeave (σ : ServerState) (o : Opening) (p : ℕ) (t : ℚ) : Type 0 where
  pub under : Under
  pub is_under : σ.under ≡ Some under
  pub packet_is : under.card.packet ≡ p
  pub worked_off : done under ≡ size under.card
  pub at_end : t ≡ under.last.end
  pub over : IsOver o t

-- what is due next at the server
abbrev pub IsNextOf : Setup → ℕ → ServerState → Opening → Next → Type 0
IsNextOf S s σ o Nothing = IsVacant σ o
IsNextOf S s σ o (Start t) = WillStart S s σ o t
IsNextOf S s σ o (Resume p t left) = WillResume S s σ o p t left
IsNextOf S s σ o (Leave p t) = WillLeave σ o p t

-- the opening is that of server s
pub record IsOpeningOf (S : Setup) (s : ℕ) (o : Opening) : Type 0 where
  pub order : IsInOrder o
  pub gate : (opening_for o).gate ≡ (opening_of S s).gate
  pub stalled : (x : ℚ) → IsStalled (opening_for o).stalls x ↔ IsStalled (opening_of S s).stalls x

-- the station keeps the state σ of server s
pub record IsStation (S : Setup) (s : ℕ) (σ : ServerState) (station : Station) : Type 0 where
  pub discipline : served_by station.queues ≡ (server_at S.net s).discipline
  pub queues : StandFor station.queues σ
  pub opening : IsOpeningOf S s station.opening
  pub rate : station.rate ≡ rate_of S s
  pub inside : station.inside ≡ length σ.inside
  pub next : IsNextOf S s σ station.opening station.next

-- as what is due next
abbrev pub due_for : Next → ℕ → Option Due
due_for Nothing server = None
due_for (Start t) server = Some record { time = t; kind = kinds.Start; server = server; packet = 0 }
due_for (Resume p t left) server = Some record { time = t; kind = kinds.Resume; server = server; packet = 0 }
due_for (Leave p t) server = Some record { time = t; kind = kinds.Leave; server = server; packet = 0 }

-- the work that goes on
abbrev pub rest_for : Next → Option Rest
rest_for Nothing = None
rest_for (Start t) = None
rest_for (Resume p t left) = Some record { packet = p; time = t; left = left }
rest_for (Leave p t) = None

-- ---- what the calls ask for
-- the packet may arrive at the server whose state the station keeps
pub record MayTake (station : Station) (packet queue : ℕ) (time : ℚ) : Type 0 where
  pub setup : Setup
  pub server : ℕ
  pub state : ServerState
  pub keeps : IsStation setup server state station
  pub not_there : ¬ (HasPacket state.inside packet)
  pub known_queue : queue < queue_count (served_by station.queues)
  pub known_packet : packet < room_of station.queues
  pub in_time : state.now ≤ℚ time
  pub from_zero : int (pos 0) ≤ℚ time
  pub few : length state.inside < 2 ^ 31

-- its packet under way is worked off at that time
pub record MayLose (station : Station) (time : ℚ) : Type 0 where
  pub setup : Setup
  pub server : ℕ
  pub state : ServerState
  pub keeps : IsStation setup server state station
  pub packet : ℕ
  pub due : station.next ≡ Leave packet time
  pub from_zero : int (pos 0) ≤ℚ time

-- what comes at `time` does not come after a start that is due
abbrev pub IsBeforeStart : Next → ℚ → Type 0
IsBeforeStart Nothing time = Unit {0}
IsBeforeStart (Start t) time = time ≤ℚ t
IsBeforeStart (Resume p t left) time = Unit {0}
IsBeforeStart (Leave p t) time = Unit {0}

-- ---- work
-- work on packet p, which needs so much time from a on: as long as the server stays open
pub record IsWorkOf (o : setups.Opening) (rate : ℚ) (p : ℕ) (a left : ℚ) (w : Stretch) : Type 0 where
  pub packet : w.packet ≡ p
  pub starts : w.start ≡ a
  pub stays : StaysTo (IsOpenAt o) a (a +ℚ left) w.end
  pub bits : w.bits ≡ rate *ℚ (w.end -ℚ a)

-- there is more to do
pub record WillGoOn (o : Opening) (p : ℕ) (a left : ℚ) (w : Stretch) (q : ℕ) (t rest : ℚ) : Type 0 where
  pub packet : q ≡ p
  pub rest_is : rest ≡ left -ℚ (w.end -ℚ a)
  pub some : int (pos 0) <ℚ rest
  pub opens : IsFirstOpenAt (opening_for o) w.end t
  pub opened : HasOpened o t

-- all is done
pub record IsWorkedOff (o : Opening) (p : ℕ) (a left : ℚ) (w : Stretch) (q : ℕ) (t : ℚ) : Type 0 where
  pub packet : q ≡ p
  pub at_end : t ≡ w.end
  pub all : w.end ≡ a +ℚ left
  pub over : IsOver o t

-- what is due after that work
abbrev pub IsAfterWork : Opening → ℕ → ℚ → ℚ → Stretch → Next → Type 0
IsAfterWork o p a left w Nothing = ⊥
IsAfterWork o p a left w (Start t) = ⊥
IsAfterWork o p a left w (Resume q t rest) = WillGoOn o p a left w q t rest
IsAfterWork o p a left w (Leave q t) = IsWorkedOff o p a left w q t

-- ---- what is due after a step at the server
abbrev pub IsWithOneMore : Opening → Opening → Next → ℚ → Next → Type 0
IsWithOneMore before after Nothing time Nothing = ⊥
IsWithOneMore before after Nothing time (Start t) = IsFirstOpenAt (opening_for before) time t × HasOpened after t
IsWithOneMore before after Nothing time (Resume p t left) = ⊥
IsWithOneMore before after Nothing time (Leave p t) = ⊥
IsWithOneMore before after (Start t) time next = (next ≡ Start t) × (after ≡ before)
IsWithOneMore before after (Resume p t left) time next = (next ≡ Resume p t left) × (after ≡ before)
IsWithOneMore before after (Leave p t) time next = (next ≡ Leave p t) × (after ≡ before)

abbrev pub IsWithOneLess : Opening → Opening → ℕ → ℚ → Next → Type 0
IsWithOneLess before after inside time Nothing = (inside ≡ 0) × IsOver after time
IsWithOneLess before after inside time (Start t) = (inside ≢ 0) × IsFirstOpenAt (opening_for before) time t
    × HasOpened after t
IsWithOneLess before after inside time (Resume p t left) = ⊥
IsWithOneLess before after inside time (Leave p t) = ⊥

abbrev pub IsNextWork : Opening → Opening → ℕ → ℚ → ℚ → Next → Type 0
IsNextWork before after p end left Nothing = ⊥
IsNextWork before after p end left (Start t) = ⊥
IsNextWork before after p end left (Resume q t rest) =
    (q ≡ p) × (rest ≡ left) × (int (pos 0) <ℚ left) × IsFirstOpenAt (opening_for before) end t × HasOpened after t
IsNextWork before after p end left (Leave q t) = (q ≡ p) × (t ≡ end) × (left ≤ℚ int (pos 0)) × IsOver after t

-- the arithmetic of work from a on that takes so long has room
pub record WorkRoom (station : Station) (a left : ℚ) : Type 0 where
  pub grid : ℕ
  pub most : ℚ
  pub room : HasRoom grid most
  pub gate : IsGateTime grid most (opening_for station.opening).gate
  pub stalls : AreStallTimes grid most (opening_for station.opening).stalls
  pub start_is : IsTime grid most a
  pub left_is : IsTime grid most left
  pub ends : (e : ℚ) → StaysTo (IsOpenAt (opening_for station.opening)) a (a +ℚ left) e → IsTime grid most e
  pub works : (x : ℚ) → IsTime grid most x → IsSmall (station.rate *ℚ x)
