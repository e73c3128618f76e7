-- Which step is due after those of a state, and which of several that are due comes first.
use Rattle.std.specs.Prelude.{Option, Some, None, ◌≡◌, ◌⊎◌, ℕ, ◌<◌, ◌≤◌, length, Contains}
use Rattle.rational.specs.Rational.{ℚ, ◌-ℚ◌, ◌≤ℚ◌, ◌<ℚ◌}
use Rattle.run_laws.specs.declared.steps.Step.{Step}
use Rattle.run_laws.specs.declared.steps.Step.TheVariants.{Enter, Reach, Work, Leave, Visit}
use Rattle.run_laws.specs.Cards.{Card, size}
use Rattle.run_laws.specs.Servers.{Under, ServerState, done}
use Rattle.run_laws.specs.Allows.{pick, MayVisit}
use Rattle.run_laws.specs.Routes.{server_at}
use Rattle.run_laws.specs.Lawful.{RunState, state_at}
use Rattle.net_model.specs.stated_runs.Setups.{Setup, packet_of, IsFirstOpen, IsStretch}

-- ---- what is due at one server, by its state alone
-- the packet under way is worked off, and leaves
pub record IsLeaving (σ : ServerState) (p : ℕ) (t : ℚ) : Type 0 where
  pub under : Under
  pub is_under : σ.under ≡ Some under
  pub packet_is : under.card.packet ≡ p
  pub worked_off : done under ≡ size under.card
  pub at_end : t ≡ under.last.end

-- it is not, and goes on when the server is open again
pub record IsResumed (S : Setup) (s : ℕ) (σ : ServerState) (p : ℕ) (a b w : ℚ) : Type 0 where
  pub under : Under
  pub is_under : σ.under ≡ Some under
  pub packet_is : under.card.packet ≡ p
  pub not_done : done under <ℚ size under.card
  pub stretch : IsStretch S s under.last.end (size under.card -ℚ done under) a b w

-- none is under way, and the packet that the discipline allows starts when the server is open
pub record IsStarted (S : Setup) (s : ℕ) (σ : ServerState) (p : ℕ) (a b w : ℚ) : Type 0 where
  pub idle : σ.under ≡ None
  pub card : Card
  pub packet_is : card.packet ≡ p
  pub picked : pick (server_at S.net s).discipline σ.inside σ.round ≡ Some card
  pub stretch : IsStretch S s σ.now (size card) a b w

-- a deficit round robin server turns to a queue when it is open
pub record IsVisited (S : Setup) (s : ℕ) (σ : ServerState) (q : ℕ) (t : ℚ) : Type 0 where
  pub may : MayVisit (server_at S.net s).discipline σ q
  pub opens : IsFirstOpen S s σ.now t

-- the next packet of the trace enters
pub record IsEntering (S : Setup) (r : RunState) (f p : ℕ) (t : ℚ) (b : ℕ) : Type 0 where
  pub in_turn : p ≡ length r.entered
  pub in_trace : p < length S.packets
  pub flow_is : f ≡ (packet_of S p).flow
  pub time_is : t ≡ (packet_of S p).time
  pub bits_are : b ≡ (packet_of S p).bits

-- the step is due in this state
abbrev pub IsDue : Setup → RunState → Step → Type 0
IsDue S r (Enter f p t b) = IsEntering S r f p t b
IsDue S r (Reach s p t) = Contains r.due record { packet = p; server = s; time = t }
IsDue S r (Work s p a b w) =
    (s < length S.net.servers) × (IsResumed S s (state_at r s) p a b w ⊎ IsStarted S s (state_at r s) p a b w)
IsDue S r (Leave s p t) = (s < length S.net.servers) × IsLeaving (state_at r s) p t
IsDue S r (Visit s q t) = (s < length S.net.servers) × IsVisited S s (state_at r s) q t

-- ---- which comes first
abbrev pub step_time : Step → ℚ
step_time (Enter f p t b) = t
step_time (Reach s p t) = t
step_time (Work s p a b w) = a
step_time (Leave s p t) = t
step_time (Visit s q t) = t

-- at equal times: resumed work, then packets that leave, those that reach a server, those that enter, and what starts;
-- packets that enter by their numbers, the others by servers, and at one server by packets
pub record Rank : Type 0 where
  pub kind : ℕ
  pub server : ℕ
  pub packet : ℕ

abbrev pub work_kind : Option Under → ℕ
work_kind None = 4
work_kind (Some u) = 0

abbrev pub rank_of : RunState → Step → Rank
rank_of r (Enter f p t b) = record { kind = 3; server = 0; packet = p }
rank_of r (Reach s p t) = record { kind = 2; server = s; packet = p }
rank_of r (Work s p a b w) = record { kind = work_kind (state_at r s).under; server = s; packet = 0 }
rank_of r (Leave s p t) = record { kind = 1; server = s; packet = 0 }
rank_of r (Visit s q t) = record { kind = 4; server = s; packet = 0 }

abbrev pub RankAtMost : Rank → Rank → Type 0
RankAtMost a b =
    (a.kind < b.kind) ⊎ ((a.kind ≡ b.kind) × ((a.server < b.server) ⊎ ((a.server ≡ b.server) × (a.packet ≤ b.packet))))

-- x does not come after y
pub record ComesFirst (r : RunState) (x y : Step) : Type 0 where
  pub no_later : step_time x ≤ℚ step_time y
  pub in_turn : step_time x ≡ step_time y → RankAtMost (rank_of r x) (rank_of r y)
