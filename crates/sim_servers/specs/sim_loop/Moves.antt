-- What steps do to stations: one of them changes.
use Rattle.std.specs.Prelude.{Option, Some, None, ◌≡◌, ℕ, pos, List, set, slice_get}
use Rattle.rational.specs.Rational.{ℚ, int, ◌≤ℚ◌, ◌<ℚ◌}
use Rattle.run_laws.specs.Cards.{Card, Arrives, Leaves}
use Rattle.run_laws.specs.Servers.{Under, ServerState}
use Rattle.run_laws.specs.Next.{next}
use Rattle.run_laws.specs.Routes.{server_at}
use Rattle.queue_sched.specs.Turns.{IsCard, Starts}
use Rattle.queue_sched.specs.declared.turn.Turn.{Turn}
use Rattle.net_model.specs.stated_runs.Setups.{Setup}
use Rattle.sim_servers.specs.declared.station.Station.{Station}
use Rattle.sim_servers.specs.declared.station.Stretch.{Stretch}
use Rattle.sim_servers.specs.Openings.{opening_for, IsInOrder, HasOpened, IsSameOpening}
use Rattle.sim_servers.specs.Queues.{served_by, room_of, StandFor}
use Rattle.sim_servers.specs.Stations.{IsStation, IsBeforeStart, IsWorkOf, IsAfterWork, WorkRoom}

-- the station of server s is another
pub record IsMoved (before after : List Station) (s : ℕ) (old new : Station) : Type 0 where
  pub was : slice_get before s ≡ Some old
  pub is : after ≡ set before s new
  pub room : room_of new.queues ≡ room_of old.queues

-- it has taken a packet
pub record HasTaken (before after : List Station) (s packet queue bits : ℕ) (time : ℚ) : Type 0 where
  pub old : Station
  pub new : Station
  pub moved : IsMoved before after s old new
  pub same : IsSameOpening old.opening new.opening
  pub joined : (S : Setup) (k : ℕ) (σ : ServerState) (c : Card) → IsStation S k σ old → IsCard c packet queue bits
      → σ.now ≤ℚ time → IsBeforeStart old.next time
      → IsStation S k (next (server_at S.net k).discipline σ (Arrives c time)) new

-- it has lost the packet under way
pub record HasLost (before after : List Station) (s : ℕ) (time : ℚ) (packet : ℕ) : Type 0 where
  pub old : Station
  pub new : Station
  pub moved : IsMoved before after s old new
  pub same : IsSameOpening old.opening new.opening
  pub left : (S : Setup) (k : ℕ) (σ : ServerState) (u : Under) → IsStation S k σ old → σ.under ≡ Some u
      → (u.card.packet ≡ packet) × IsStation S k (next (server_at S.net k).discipline σ (Leaves u.card time)) new

-- nothing but its queues is another, and they have taken the turn that is due
pub record HasTurned (before after : List Station) (s : ℕ) (turn : Option Turn) : Type 0 where
  pub old : Station
  pub new : Station
  pub moved : IsMoved before after s old new
  pub discipline : served_by new.queues ≡ served_by old.queues
  pub opening : new.opening ≡ old.opening
  pub rate : new.rate ≡ old.rate
  pub inside : new.inside ≡ old.inside
  pub next : new.next ≡ old.next
  pub turned : (σ : ServerState) → StandFor old.queues σ → σ.under ≡ None
      → Starts (served_by old.queues) (StandFor new.queues) σ turn

-- work may begin at a
pub record MayWorkOn (x : Station) (a left : ℚ) : Type 0 where
  pub order : IsInOrder x.opening
  pub some : int (pos 0) <ℚ left
  pub opened : HasOpened x.opening a
  pub room : WorkRoom x a left

-- nothing but its opening, and what is due next, is another
pub record HasWorked (before after : List Station) (s packet : ℕ) (a left : ℚ) (w : Stretch) : Type 0 where
  pub old : Station
  pub new : Station
  pub was : slice_get before s ≡ Some old
  pub is : after ≡ set before s new
  pub queues : new.queues ≡ old.queues
  pub rate : new.rate ≡ old.rate
  pub inside : new.inside ≡ old.inside
  pub order : IsInOrder new.opening
  pub same : IsSameOpening old.opening new.opening
  pub work : IsWorkOf (opening_for old.opening) old.rate packet a left w
  pub next : IsAfterWork new.opening packet a left w new.next
