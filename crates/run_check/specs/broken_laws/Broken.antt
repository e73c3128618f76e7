-- The laws of a recorded run: each by the steps that break it, after the steps before, which led to a state of the run.
use Rattle.std.specs.Prelude.{Option, Some, None, ◌≡◌, ◌≢◌, ◌⊎◌, ℕ, pos, ◌≤◌, List, length, Contains}
use Rattle.rational.specs.Rational.{ℚ, int, ◌+ℚ◌, ◌-ℚ◌, ◌*ℚ◌, ◌≤ℚ◌, ◌<ℚ◌}
use Rattle.run_laws.specs.declared.steps.Step.{Step}
use Rattle.run_laws.specs.declared.steps.Step.TheVariants.{Enter, Reach, Work, Leave, Visit}
use Rattle.run_laws.specs.Cards.{whole}
use Rattle.run_laws.specs.Servers.{Under}
use Rattle.run_laws.specs.Allows.{pick, MayLeave, MayVisit}
use Rattle.run_laws.specs.Routes.{Routes, server_at}
use Rattle.run_laws.specs.Views.{entry_of, card_of, server_of}
use Rattle.run_laws.specs.Lawful.{RunState, state_at}
use Rattle.net_model.specs.stated_runs.DueSteps.{step_time}
use Rattle.run_check.specs.declared.broken_laws.law.Law.{Law}
use Rattle.run_check.specs.declared.broken_laws.law.Law.TheVariants.{L1, L2, L3, L4, L5, L6, L7, L8, L9}
use Rattle.run_check.specs.broken_laws.Worked.{worked_in}

-- ---- L1: before an earlier step of its server (or below 0), or after the end; work also where it ends after the end
abbrev pub EndsLate : ℚ → Step → Type 0
EndsLate end (Enter f p t b) = ⊥
EndsLate end (Reach s p t) = ⊥
EndsLate end (Work s p a b w) = end <ℚ b
EndsLate end (Leave s p t) = ⊥
EndsLate end (Visit s q t) = ⊥

abbrev pub IsOutOfTime : Routes → ℚ → RunState → Step → Type 0
IsOutOfTime net end r x = (step_time x <ℚ (state_at r (server_of net x)).now) ⊎ (end <ℚ step_time x) ⊎ EndsLate end x

-- ---- L2: of a packet that has not entered
abbrev pub IsOfNoPacket : RunState → Step → Type 0
IsOfNoPacket r (Enter f p t b) = ⊥
IsOfNoPacket r (Reach s p t) = length r.entered ≤ p
IsOfNoPacket r (Work s p a b w) = length r.entered ≤ p
IsOfNoPacket r (Leave s p t) = length r.entered ≤ p
IsOfNoPacket r (Visit s q t) = ⊥

-- ---- L3: a packet reaches a server where it is not due at that time
abbrev pub IsNotDue : RunState → Step → Type 0
IsNotDue r (Enter f p t b) = ⊥
IsNotDue r (Reach s p t) = ¬ Contains r.due record { packet = p; server = s; time = t }
IsNotDue r (Work s p a b w) = ⊥
IsNotDue r (Leave s p t) = ⊥
IsNotDue r (Visit s q t) = ⊥

-- ---- L4: work that takes no time, or does no bits; that starts before the last work ends; while another packet is
-- under way; or after which more is worked of the packet than it has bits
abbrev pub IsOther : Option Under → ℕ → Type 0
IsOther None p = ⊥
IsOther (Some u) p = u.card.packet ≢ p

abbrev pub PassesBits : List Step → RunState → (s p : ℕ) → ℚ → Type 0
PassesBits before r s p w = whole (entry_of r.entered p).bits <ℚ (worked_in s p before +ℚ w)

abbrev pub IsWrongWork : List Step → RunState → (s p : ℕ) → (a b w : ℚ) → Type 0
IsWrongWork before r s p a b w =
    (b ≤ℚ a) ⊎ (w ≤ℚ int (pos 0)) ⊎ (a <ℚ (state_at r s).busy) ⊎ IsOther (state_at r s).under p
    ⊎ PassesBits before r s p w

abbrev pub WorksWrongly : List Step → RunState → Step → Type 0
WorksWrongly before r (Enter f p t b) = ⊥
WorksWrongly before r (Reach s p t) = ⊥
WorksWrongly before r (Work s p a b w) = IsWrongWork before r s p a b w
WorksWrongly before r (Leave s p t) = ⊥
WorksWrongly before r (Visit s q t) = ⊥

-- ---- L5: the first work on a packet that the discipline does not pick
pub record IsNotPicked (net : Routes) (r : RunState) (s p : ℕ) : Type 0 where
  pub idle : (state_at r s).under ≡ None
  pub not_picked : let σ = state_at r s in
      ¬ (pick (server_at net s).discipline σ.inside σ.round ≡ Some (card_of net r.entered p s))

abbrev pub StartsWrongly : Routes → RunState → Step → Type 0
StartsWrongly net r (Enter f p t b) = ⊥
StartsWrongly net r (Reach s p t) = ⊥
StartsWrongly net r (Work s p a b w) = IsNotPicked net r s p
StartsWrongly net r (Leave s p t) = ⊥
StartsWrongly net r (Visit s q t) = ⊥

-- ---- L6: a packet leaves that is not under way there, or not worked off, or not at the end of its last work
abbrev pub LeavesWrongly : Routes → RunState → Step → Type 0
LeavesWrongly net r (Enter f p t b) = ⊥
LeavesWrongly net r (Reach s p t) = ⊥
LeavesWrongly net r (Work s p a b w) = ⊥
LeavesWrongly net r (Leave s p t) = ¬ MayLeave (state_at r s).under (card_of net r.entered p s) t
LeavesWrongly net r (Visit s q t) = ⊥

-- ---- L7: a visit that the discipline does not allow
abbrev pub VisitsWrongly : Routes → RunState → Step → Type 0
VisitsWrongly net r (Enter f p t b) = ⊥
VisitsWrongly net r (Reach s p t) = ⊥
VisitsWrongly net r (Work s p a b w) = ⊥
VisitsWrongly net r (Leave s p t) = ⊥
VisitsWrongly net r (Visit s q t) = ¬ MayVisit (server_at net s).discipline (state_at r s) q

-- ---- L8: work with more bits than the pace of its server allows, where that is limited
abbrev pub IsTooFast : Option ℚ → (a b w : ℚ) → Type 0
IsTooFast None a b w = ⊥
IsTooFast (Some pace) a b w = pace *ℚ (b -ℚ a) <ℚ w

abbrev pub WorksTooFast : Routes → Step → Type 0
WorksTooFast net (Enter f p t b) = ⊥
WorksTooFast net (Reach s p t) = ⊥
WorksTooFast net (Work s p a b w) = IsTooFast (server_at net s).pace a b w
WorksTooFast net (Leave s p t) = ⊥
WorksTooFast net (Visit s q t) = ⊥

-- ---- all of them
-- the step breaks the law
abbrev pub Breaks : Routes → ℚ → List Step → RunState → Step → Law → Type 0
Breaks net end before r x L1 = IsOutOfTime net end r x
Breaks net end before r x L2 = IsOfNoPacket r x
Breaks net end before r x L3 = IsNotDue r x
Breaks net end before r x L4 = WorksWrongly before r x
Breaks net end before r x L5 = StartsWrongly net r x
Breaks net end before r x L6 = LeavesWrongly net r x
Breaks net end before r x L7 = VisitsWrongly net r x
Breaks net end before r x L8 = WorksTooFast net x
Breaks net end before r x L9 = ⊥
