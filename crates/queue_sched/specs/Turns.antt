-- What the calls of a scheduler ask for and give, in the words of the laws of runs. `StandsFor σ` says that the
-- scheduler stands for a server in the state σ.
use Rattle.std.specs.Prelude.{Option, Some, None, ◌≡◌, ◌≢◌, ℕ, ◌<◌, []}
use Rattle.rational.specs.Rational.{ℚ}
use Rattle.run_laws.specs.Cards.{Card, Works, Leaves, Visits}
use Rattle.run_laws.specs.Servers.{Discipline, queue_count, Under, ServerState}
use Rattle.run_laws.specs.Next.{next}
use Rattle.run_laws.specs.Allows.{pick, MayVisit}
use Rattle.queue_sched.specs.declared.turn.Turn.{Turn}
use Rattle.queue_sched.specs.declared.turn.Turn.TheVariants.{Visit, Send}
use Rattle.queue_sched.specs.Waiting.{HasPacket}

-- a card with this packet, queue and length
pub record IsCard (c : Card) (packet queue bits : ℕ) : Type 0 where
  pub packet_is : c.packet ≡ packet
  pub queue_is : c.queue ≡ queue
  pub bits_are : c.bits ≡ bits

-- a packet that is not inside may join a queue of the server
pub record MayJoin (StandsFor : ServerState → Type 0) (d : Discipline) (room packet queue : ℕ) : Type 0 where
  pub state : ServerState
  pub stands : StandsFor state
  pub not_there : ¬ (HasPacket state.inside packet)
  pub known_queue : queue < queue_count d
  pub known_packet : packet < room

-- no packet is under way; one is
pub record IsIdle (StandsFor : ServerState → Type 0) : Type 0 where
  pub state : ServerState
  pub stands : StandsFor state
  pub idle : state.under ≡ None

pub record IsBusy (StandsFor : ServerState → Type 0) : Type 0 where
  pub state : ServerState
  pub stands : StandsFor state
  pub under : Under
  pub busy : state.under ≡ Some under

-- the packet that the discipline lets start, which is put under way by its first work, whatever its time
pub record Sends (d : Discipline) (StandsNow : ServerState → Type 0) (σ : ServerState) (packet : ℕ) : Type 0 where
  pub card : Card
  pub packet_is : card.packet ≡ packet
  pub picked : pick d σ.inside σ.round ≡ Some card
  pub moved : (a b w : ℚ) → StandsNow (next d σ (Works card a b w))

-- the turn that is due in the state σ, and the scheduler after it; none exactly where nothing is inside, since a
-- queue is visited only where something is, and a packet that is sent is inside
abbrev pub Starts : Discipline → (ServerState → Type 0) → ServerState → Option Turn → Type 0
Starts d StandsNow σ None = (σ.inside ≡ []) × StandsNow σ
Starts d StandsNow σ (Some (Visit q)) = MayVisit d σ q × ((t : ℚ) → StandsNow (next d σ (Visits q t))) × (σ.inside ≢ [])
Starts d StandsNow σ (Some (Send p)) = Sends d StandsNow σ p

-- the packet under way has left
pub record Finishes (d : Discipline) (StandsNow : ServerState → Type 0) (σ : ServerState) (u : Under)
    (packet : ℕ) : Type 0 where
  pub packet_is : u.card.packet ≡ packet
  pub moved : (t : ℚ) → StandsNow (next d σ (Leaves u.card t))
