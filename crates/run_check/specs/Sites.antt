-- One server of a recorded run, as the walk over its rows keeps it.
use Rattle.std.specs.Prelude.{Option, Some, None, ◌≡◌, ◌≢◌, ◌⊎◌, ℕ, pos, ◌<◌, Bool, true, false}
use Rattle.rational.specs.Rational.{ℚ, int, neg_ℚ, ◌-ℚ◌, ◌/ℚ◌, ◌≤ℚ◌, ◌<ℚ◌}
use Rattle.rational.specs.Ratio.{IsSmall, SumFits}
use Rattle.run_laws.specs.Cards.{Card, size, Works, Leaves, Visits}
use Rattle.run_laws.specs.Servers.{Discipline, queue_count, Under, ServerState, done}
use Rattle.run_laws.specs.Next.{next}
use Rattle.run_laws.specs.Allows.{pick, next_card, MayLeave, MayVisit}
use Rattle.queue_sched.specs.Waiting.{HasPacket}
use Rattle.net_model.specs.stated_runs.TimeGrids.{HasRoom, IsTime}
use Rattle.sim_servers.specs.Queues.{served_by, room_of, StandFor}
use Rattle.run_check.specs.declared.broken_laws.law.Law.{Law}
use Rattle.run_check.specs.declared.broken_laws.law.Law.TheVariants.{L1, L2, L3, L4, L5, L6, L7, L8, L9}
use Rattle.run_check.specs.broken_laws.Broken.{IsTooFast}
use Rattle.run_packets.specs.declared.underway.Underway.{Underway}
use Rattle.run_packets.specs.Works.{IsOther}
use Rattle.run_check.specs.declared.site.Piece.{Piece}
use Rattle.run_check.specs.declared.site.Site.{Site}

-- ---- what is kept
pub record IsUnder (u : Under) (v : Underway) : Type 0 where
  pub packet : v.packet ≡ u.card.packet
  pub left : v.left ≡ size u.card -ℚ done u
  pub end : v.end ≡ u.last.end

abbrev pub AreUnder : Option Under → Option Underway → Type 0
AreUnder None None = Unit {0}
AreUnder None (Some v) = ⊥
AreUnder (Some u) None = ⊥
AreUnder (Some u) (Some v) = IsUnder u v

-- a server with this discipline, and room for so many packets, in this state
pub record IsSite (d : Discipline) (room : ℕ) (σ : ServerState) (site : Site) : Type 0 where
  pub now : site.latest ≡ σ.now
  pub busy : site.busy ≡ σ.busy
  pub under : AreUnder σ.under site.under
  pub queues : StandFor site.queues σ
  pub serves : served_by site.queues ≡ d
  pub has_room : room_of site.queues ≡ room

-- of some server
pub record KeepsSome (site : Site) : Type 0 where
  pub discipline : Discipline
  pub room : ℕ
  pub state : ServerState
  pub keeps : IsSite discipline room state site

-- ---- tests
-- work that is wrong by itself, where so many bits are yet to be worked of its packet
abbrev pub IsWrong : Site → Piece → ℚ → Type 0
IsWrong site w rest =
    (w.end ≤ℚ w.start) ⊎ (w.bits ≤ℚ int (pos 0)) ⊎ (w.start <ℚ site.busy) ⊎ IsOther site.under w.packet
    ⊎ (rest <ℚ w.bits)

-- ---- what the calls ask for
-- the packet may arrive
pub record MayTake (site : Site) (packet queue : ℕ) : Type 0 where
  pub some : KeepsSome site
  pub not_there : ¬ (HasPacket some.state.inside packet)
  pub known_queue : queue < queue_count some.discipline
  pub known_packet : packet < some.room

-- one is under way
pub record MayLose (site : Site) : Type 0 where
  pub some : KeepsSome site
  pub under : Under
  pub is_under : some.state.under ≡ Some under

-- ---- what they give
-- a visit is made where the discipline allows it
abbrev pub Turns : Discipline → ℕ → ServerState → Site → ℕ → ℚ → Bool → Type 0
Turns d room σ after q t true = MayVisit d σ q × IsSite d room (next d σ (Visits q t)) after
Turns d room σ after q t false = ¬ MayVisit d σ q

-- a packet that the discipline picks: the queues have it under way, whatever its work
pub record IsStarted (d : Discipline) (room : ℕ) (σ : ServerState) (before after : Site) (p : ℕ) : Type 0 where
  pub card : Card
  pub packet : card.packet ≡ p
  pub picked : pick d σ.inside σ.round ≡ Some card
  pub queues : (a b w : ℚ) → StandFor after.queues (next d σ (Works card a b w))
  pub serves : served_by after.queues ≡ d
  pub has_room : room_of after.queues ≡ room
  pub latest : after.latest ≡ before.latest
  pub busy : after.busy ≡ before.busy
  pub under : after.under ≡ before.under

abbrev pub Starts : Discipline → ℕ → ServerState → Site → Site → ℕ → Bool → Type 0
Starts d room σ before after p true = IsStarted d room σ before after p
Starts d room σ before after p false = (c : Card) → c.packet ≡ p → ¬ (pick d σ.inside σ.round ≡ Some c)

-- ---- rows
-- a time is before the last step, or after the run's end
abbrev pub IsOut : ServerState → ℚ → ℚ → Type 0
IsOut σ end t = (t <ℚ σ.now) ⊎ (end <ℚ t)

-- the packet is under way and worked off, at the end of its last work
pub record IsOff (u : Under) (p : ℕ) (t : ℚ) : Type 0 where
  pub packet : u.card.packet ≡ p
  pub worked_off : done u ≡ size u.card
  pub at_end : t ≡ u.last.end

abbrev pub GoesOff : Option Under → ℕ → ℚ → Type 0
GoesOff None p t = ⊥
GoesOff (Some u) p t = IsOff u p t

-- a row that has a packet leave
pub record HasGone (d : Discipline) (room : ℕ) (σ : ServerState) (end : ℚ) (known : Bool) (p : ℕ) (t : ℚ)
    (after : Site) : Type 0
  where
    pub timely : ¬ IsOut σ end t
    pub is_known : known ≡ true
    pub off : GoesOff σ.under p t
    pub after_it : (c : Card) → MayLeave σ.under c t → IsSite d room (next d σ (Leaves c t)) after

abbrev pub LeaveAnswer : Discipline → ℕ → ServerState → ℚ → Bool → ℕ → ℚ → Site → Option Law → Type 0
LeaveAnswer d room σ end known p t after None = HasGone d room σ end known p t after
LeaveAnswer d room σ end known p t after (Some L1) = IsOut σ end t
LeaveAnswer d room σ end known p t after (Some L2) = (¬ IsOut σ end t) × (known ≡ false)
LeaveAnswer d room σ end known p t after (Some L3) = ⊥
LeaveAnswer d room σ end known p t after (Some L4) = ⊥
LeaveAnswer d room σ end known p t after (Some L5) = ⊥
LeaveAnswer d room σ end known p t after (Some L6) = (¬ IsOut σ end t) × (known ≡ true) × (¬ GoesOff σ.under p t)
LeaveAnswer d room σ end known p t after (Some L7) = ⊥
LeaveAnswer d room σ end known p t after (Some L8) = ⊥
LeaveAnswer d room σ end known p t after (Some L9) = ⊥

-- a row with a visit
pub record HasTurned (d : Discipline) (room : ℕ) (σ : ServerState) (end : ℚ) (q : ℕ) (t : ℚ) (after : Site) : Type 0
  where
    pub timely : ¬ IsOut σ end t
    pub may : MayVisit d σ q
    pub after_it : IsSite d room (next d σ (Visits q t)) after

abbrev pub VisitAnswer : Discipline → ℕ → ServerState → ℚ → ℕ → ℚ → Site → Option Law → Type 0
VisitAnswer d room σ end q t after None = HasTurned d room σ end q t after
VisitAnswer d room σ end q t after (Some L1) = IsOut σ end t
VisitAnswer d room σ end q t after (Some L2) = ⊥
VisitAnswer d room σ end q t after (Some L3) = ⊥
VisitAnswer d room σ end q t after (Some L4) = ⊥
VisitAnswer d room σ end q t after (Some L5) = ⊥
VisitAnswer d room σ end q t after (Some L6) = ⊥
VisitAnswer d room σ end q t after (Some L7) = (¬ IsOut σ end t) × (¬ MayVisit d σ q)
VisitAnswer d room σ end q t after (Some L8) = ⊥
VisitAnswer d room σ end q t after (Some L9) = ⊥

-- a row with work: where none is under way, a packet that the discipline picks has all its bits
abbrev pub IsFresh : Discipline → ServerState → ℕ → ℚ → Type 0
IsFresh d σ p fresh = σ.under ≡ None → (c : Card) → c.packet ≡ p → pick d σ.inside σ.round ≡ Some c → fresh ≡ size c

-- the same by the state
abbrev pub rest_by : Option Under → ℚ → ℚ
rest_by None fresh = fresh
rest_by (Some u) fresh = size u.card -ℚ done u

abbrev pub IsOtherBy : Option Under → ℕ → Type 0
IsOtherBy None p = ⊥
IsOtherBy (Some u) p = u.card.packet ≢ p

abbrev pub IsWrongBy : ServerState → Piece → ℚ → Type 0
IsWrongBy σ w fresh =
    (w.end ≤ℚ w.start) ⊎ (w.bits ≤ℚ int (pos 0)) ⊎ (w.start <ℚ σ.busy) ⊎ IsOtherBy σ.under w.packet
    ⊎ (rest_by σ.under fresh <ℚ w.bits)

-- the packet is under way, or may start; whatever its work, the queues have it under way
pub record IsTakenOn (d : Discipline) (room : ℕ) (σ : ServerState) (before after : Site) (p : ℕ) : Type 0 where
  pub card : Card
  pub next_one : next_card σ.under d σ.inside σ.round ≡ Some card
  pub packet : σ.under ≡ None → card.packet ≡ p
  pub queues : (a b w : ℚ) → StandFor after.queues (next d σ (Works card a b w))
  pub serves : served_by after.queues ≡ d
  pub has_room : room_of after.queues ≡ room
  pub under : after.under ≡ before.under

abbrev pub TakesOn : Discipline → ℕ → ServerState → Site → Site → ℕ → Bool → Type 0
TakesOn d room σ before after p true = IsTakenOn d room σ before after p
TakesOn d room σ before after p false =
    (σ.under ≡ None) × ((c : Card) → c.packet ≡ p → ¬ (pick d σ.inside σ.round ≡ Some c))

-- work on a packet that may be worked, whatever its pace
pub record IsOfPacket (d : Discipline) (σ : ServerState) (end : ℚ) (known : Bool) (fresh : ℚ) (w : Piece) : Type 0 where
  pub timely : ¬ IsOut σ end w.start
  pub ends : ¬ (end <ℚ w.end)
  pub is_known : known ≡ true
  pub right : ¬ IsWrongBy σ w fresh
  pub card : Card
  pub packet : card.packet ≡ w.packet
  pub next_one : next_card σ.under d σ.inside σ.round ≡ Some card

abbrev pub IsFast : Option ℚ → Piece → Type 0
IsFast pace w = IsTooFast pace w.start w.end w.bits

-- it is no faster than its server's pace, and done
pub record HasWorked (d : Discipline) (room : ℕ) (σ : ServerState) (end : ℚ) (known : Bool) (fresh : ℚ)
    (pace : Option ℚ)
    (w : Piece) (after : Site) : Type 0
  where
    pub of_packet : IsOfPacket d σ end known fresh w
    pub in_pace : ¬ IsFast pace w
    pub after_it : IsSite d room (next d σ (Works of_packet.card w.start w.end w.bits)) after

abbrev pub WorkAnswer : Discipline → ℕ → ServerState → ℚ → Bool → ℚ → Option ℚ → Piece → Site → Option Law → Type 0
WorkAnswer d room σ end known fresh pace w after None = HasWorked d room σ end known fresh pace w after
WorkAnswer d room σ end known fresh pace w after (Some L1) = IsOut σ end w.start ⊎ (end <ℚ w.end)
WorkAnswer d room σ end known fresh pace w after (Some L2) = (¬ (IsOut σ end w.start ⊎ (end <ℚ w.end)))
    × (known ≡ false)
WorkAnswer d room σ end known fresh pace w after (Some L3) = ⊥
WorkAnswer d room σ end known fresh pace w after (Some L4) =
    (¬ (IsOut σ end w.start ⊎ (end <ℚ w.end))) × (known ≡ true) × IsWrongBy σ w fresh
WorkAnswer d room σ end known fresh pace w after (Some L5) =
    (¬ (IsOut σ end w.start ⊎ (end <ℚ w.end))) × (known ≡ true) × (¬ IsWrongBy σ w fresh) × (σ.under ≡ None)
    × ((c : Card) → c.packet ≡ w.packet → ¬ (pick d σ.inside σ.round ≡ Some c))
WorkAnswer d room σ end known fresh pace w after (Some L6) = ⊥
WorkAnswer d room σ end known fresh pace w after (Some L7) = ⊥
WorkAnswer d room σ end known fresh pace w after (Some L8) = IsOfPacket d σ end known fresh w × IsFast pace w
WorkAnswer d room σ end known fresh pace w after (Some L9) = ⊥

-- ---- numbers: how long work takes, and its pace, fit where it takes time
abbrev pub HasPace : (a b w : ℚ) → Type 0
HasPace a b w = a <ℚ b → SumFits b (neg_ℚ a) × IsSmall (w /ℚ (b -ℚ a))

-- what is left of the packet under way is on a grid
abbrev pub IsFineUnder : ℕ → ℚ → Option Underway → Type 0
IsFineUnder grid most None = Unit {0}
IsFineUnder grid most (Some v) = IsTime grid most v.left

abbrev pub IsFine : ℕ → ℚ → Site → Type 0
IsFine grid most site = IsFineUnder grid most site.under

-- and what a row of work brings
pub record IsOnGrid (grid : ℕ) (most : ℚ) (site : Site) (fresh : ℚ) (w : Piece) : Type 0 where
  pub site_is : IsFine grid most site
  pub fresh_is : IsTime grid most fresh
  pub bits_are : int (pos 0) <ℚ w.bits → IsTime grid most w.bits

pub record WorkRoom (site : Site) (fresh : ℚ) (w : Piece) : Type 0 where
  pub grid : ℕ
  pub most : ℚ
  pub room : HasRoom grid most
  pub on_grid : IsOnGrid grid most site fresh w
  pub paced : HasPace w.start w.end w.bits
