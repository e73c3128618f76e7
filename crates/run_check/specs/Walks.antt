-- The walk over the rows of a recorded run: what it keeps after some rows that break no law, and what it tells of the
-- next.
use Rattle.std.specs.Prelude.{Option, Some, None, ◌≡◌, ℕ, pos, ◌<◌, ◌≤◌, List, [], ◌∷◌, ◌++◌, length, map, slice_get}
use Rattle.std.specs.Prelude.{Bool, ◌||◌, nat_le, get_or, set, if◌then◌else◌}
use Rattle.rational.specs.Rational.{ℚ, int, ◌+ℚ◌, ◌<ℚ◌}
use Rattle.rational.specs.Ratio.{SumFits}
use Rattle.run_laws.specs.declared.steps.Step.{Step}
use Rattle.run_laws.specs.declared.steps.Step.TheVariants.{Enter, Reach, Work, Leave, Visit}
use Rattle.run_laws.specs.Cards.{whole}
use Rattle.run_laws.specs.Routes.{Routes, server_at, link_at, route_of, server_after}
use Rattle.run_laws.specs.Views.{entry_of}
use Rattle.run_laws.specs.Lawful.{RunState, state_at, next_run}
use Rattle.net_model.specs.stated_runs.TimeGrids.{HasRoom, IsTime}
use Rattle.run_check.specs.declared.broken_laws.law.Law.{Law}
use Rattle.run_packets.specs.declared.place.Place.{Place}
use Rattle.run_check.specs.broken_laws.Recorded.{HasPaths, IsRecordedStep}
use Rattle.run_check.specs.broken_laws.FirstBroken.{BreaksNone, BreaksFirst}
use Rattle.run_check.specs.broken_laws.Tracked.{IsTracked, place_of, place_after, has_left}
use Rattle.run_check.specs.declared.site.Piece.{Piece}
use Rattle.run_check.specs.declared.site.Site.{Site}
use Rattle.run_check.specs.declared.walk.Passage.{Passage}
use Rattle.run_check.specs.declared.walk.Walk.{Walk}
use Rattle.run_check.specs.Sites.{IsSite, IsFine, HasPace}

-- ---- what is kept
-- after some rows, which led to the state r
pub record Keeps (net : Routes) (room grid : ℕ) (most : ℚ) (before : List Step) (r : RunState) (w : Walk) : Type 0 where
  pub tracked : IsTracked net before r w.places.items
  pub flows : w.flows.items ≡ map (λ e. e.flow) r.entered
  pub bits : w.bits.items ≡ map (λ e. e.bits) r.entered
  pub many : length w.sites.items ≡ length net.servers
  pub sites : (s : ℕ) (x : Site) → slice_get w.sites.items s ≡ Some x
      → IsSite (server_at net s).discipline room (state_at r s) x
  pub fine : (s : ℕ) (x : Site) → slice_get w.sites.items s ≡ Some x → IsFine grid most x
  pub sizes : (p : ℕ) → p < length r.entered → IsTime grid most (whole (entry_of r.entered p).bits)
  pub few : length r.entered ≤ length before

-- ---- the next row
-- its numbers fit
abbrev pub StepFits : Routes → ℕ → ℚ → Step → Type 0
StepFits net grid most (Enter f p t b) = IsTime grid most (whole b)
StepFits net grid most (Reach s p t) = Unit {0}
StepFits net grid most (Work s p a b w) = (int (pos 0) <ℚ w → IsTime grid most w) × HasPace a b w
StepFits net grid most (Leave s p t) = SumFits t (link_at net s)
StepFits net grid most (Visit s q t) = Unit {0}

-- the walk stands before this row
pub record Stands (net : Routes) (x : Step) (w : Walk) : Type 0 where
  pub room : ℕ
  pub grid : ℕ
  pub most : ℚ
  pub before : List Step
  pub state : RunState
  pub keeps : Keeps net room grid most before state w
  pub paths : HasPaths net
  pub recorded : IsRecordedStep net state.entered x
  pub numbers : HasRoom grid most
  pub fits : StepFits net grid most x
  pub more : length before < room

-- the row breaks no law, and the walk stands behind it; or it breaks this one first
abbrev pub Told : (net : Routes) (x : Step) (w : Walk) → Stands net x w → ℚ → Walk → Option Law → Type 0
Told net x w k end after None =
    BreaksNone net end k.before k.state x
    × Keeps net k.room k.grid k.most (k.before ++ x ∷ []) (next_run net k.state x) after
Told net x w k end after (Some law) = BreaksFirst net end k.before k.state x law

-- ---- the rows of a packet at a server
abbrev pub reached_by : Passage → Step
reached_by at = Reach at.server at.packet at.time

abbrev pub left_by : Passage → Step
left_by at = Leave at.server at.packet at.time

-- ---- work
-- a row with work at server s
abbrev pub work_of : ℕ → Piece → Step
work_of s w = Work s w.packet w.start w.end w.bits

-- what is yet to be worked of packet p at server s, where none is under way there: nothing where it has left, and where
-- it has not entered
abbrev pub fresh_by : Bool → ℚ → ℚ
fresh_by gone bits = if gone then int (pos 0) else bits

abbrev pub fresh_for : Routes → Walk → ℕ → ℕ → ℚ
fresh_for net w s p =
    fresh_by (nat_le (length w.flows.items) p
    || has_left (place_of w.places.items p) (route_of net (get_or w.flows.items p 0)).hops s)
    (whole (get_or w.bits.items p 0))

-- ---- a packet leaves
abbrev pub sent_places : Routes → Walk → ℕ → ℕ → ℚ → List Place
sent_places net w s p t =
    set w.places.items p
    (place_after (server_after s (route_of net (get_or w.flows.items p 0)).hops) (t +ℚ link_at net s))
