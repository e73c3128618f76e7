-- What the walk keeps from row to row.
use Rattle.std.proofs.Common.{◌≡◌, ℕ, ◌<◌, ◌≤◌, ◌+◌, List, [], ◌∷◌, ◌++◌, length, map, set, sym, ap, ◌∙◌, subst, arith, inl, inr, ◌⊎◌, Some, None}
use Rattle.std.specs.Prelude.{Option, ◌≢◌, slice_get}
use Rattle.std.proofs.lemmas.Bool.{cases_eq}
use Rattle.std.proofs.lemmas.List.{length_push, length-set}
use Rattle.std.proofs.lemmas.Option.{slice_get_within}
use Rattle.rational.specs.Rational.{ℚ, ◌<ℚ◌}
use Rattle.run_laws.specs.declared.steps.Step.{Step}
use Rattle.run_laws.specs.declared.steps.Step.TheVariants.{Enter, Reach, Work, Leave, Visit}
use Rattle.run_laws.specs.Cards.{whole}
use Rattle.run_laws.specs.Servers.{ServerState}
use Rattle.run_laws.specs.Next.{next}
use Rattle.run_laws.specs.Routes.{Routes, server_at}
use Rattle.run_laws.specs.Views.{Entry, entry_of, entered_after, server_of, seen}
use Rattle.run_laws.specs.Lawful.{RunState, state_at, next_run}
use Rattle.run_laws.proofs.Entries.{entry_before, entry_last}
use Rattle.run_laws.proofs.Views.{own_state, other_state}
use Rattle.net_model.specs.stated_runs.TimeGrids.{IsTime}
use Rattle.sim_servers.proofs.sim_states.Kept.{set_same, set_other}
use Rattle.run_check.specs.declared.broken_laws.law.Law.{Law}
use Rattle.run_check.specs.declared.broken_laws.law.Law.TheVariants.{L1, L2, L3, L4, L5, L6, L7, L8, L9}
use Rattle.run_check.specs.broken_laws.FirstBroken.{number_of, BreaksNone}
use Rattle.run_check.specs.broken_laws.Broken.{Breaks}
use Rattle.run_check.specs.broken_laws.Tracked.{next_places}
use Rattle.run_check.proofs.broken_laws.TrackedSteps.{tracked_next}
use Rattle.run_check.proofs.broken_laws.Breaking.{allows}
use Rattle.run_check.specs.declared.site.Site.{Site}
use Rattle.run_check.specs.declared.walk.Walk.{Walk}
use Rattle.run_check.specs.Sites.{IsSite, IsFine, IsOut, KeepsSome, VisitAnswer}
use Rattle.run_check.specs.Rows.{ChangesAt, Visited}
use Rattle.run_check.specs.Walks.{Keeps, StepFits, Stands, Told}

one_site : (x y : Site) → Some x ≡ Some y → x ≡ y
one_site x y e = cc

-- what holds of the new site of a row's server, and of the sites of the others, holds of each
each_site : (sites : List Site) (s0 : ℕ) (old new : Site) (P : ℕ → Site → Type 0) → slice_get sites s0 ≡ Some old → P s0 new
    → ((s : ℕ) (x : Site) → s ≢ s0 → slice_get sites s ≡ Some x → P s x) → (s : ℕ) (x : Site) → slice_get (set sites s0 new) s ≡ Some x → P s x
each_site sites s0 old new P was own other s x e = elim (cases_eq s s0) [
  | inl i ↦
      let known = slice_get_within sites s0 old was in
      let same : new ≡ x = one_site new x (sym (set_same sites s0 new known) ∙ (ap (slice_get (set sites s0 new)) (sym i) ∙ e)) in
      subst (λ k. P k x) (sym i) (subst (P s0) same own)
  | inr n ↦ other s x n (sym (set_other sites s0 s new n) ∙ e)
]

-- the sizes of the packets
sizes_after : (net : Routes) (grid : ℕ) (most : ℚ) (entered : List Entry) (x : Step) → StepFits net grid most x
    → ((p : ℕ) → p < length entered → IsTime grid most (whole (entry_of entered p).bits))
    → (p : ℕ) → p < length (entered_after entered x) → IsTime grid most (whole (entry_of (entered_after entered x) p).bits)
sizes_after net grid most entered (Enter f q t b) fits h p l =
    let e : Entry = record { flow = f; bits = b } in
    let long : length (entered ++ e ∷ []) ≡ length entered + 1 = length_push entered e in
    elim (cases_eq p (length entered)) [
      | inl i ↦ subst (λ (y : Entry). IsTime grid most (whole y.bits)) (sym (entry_last entered e p i)) fits
      | inr n ↦
          let old : p < length entered = omega (arith, l, long, n) in
          subst (λ (y : Entry). IsTime grid most (whole y.bits)) (sym (entry_before entered e p old)) (h p old)
    ]
sizes_after net grid most entered (Reach s q t) fits h p l = h p l
sizes_after net grid most entered (Work s q a b w) fits h p l = h p l
sizes_after net grid most entered (Leave s q t) fits h p l = h p l
sizes_after net grid most entered (Visit s q t) fits h p l = h p l

few_after : (before : List Step) (entered : List Entry) (x : Step) → length entered ≤ length before → length (entered_after entered x) ≤ length (before ++ x ∷ [])
few_after before entered (Enter f q t b) l =
    let e : Entry = record { flow = f; bits = b } in
    let a = length_push entered e in let c = length_push before (Enter f q t b) in omega (arith, a, c, l)
few_after before entered (Reach s q t) l = let c = length_push before (Reach s q t) in omega (arith, c, l)
few_after before entered (Work s q a b w) l = let c = length_push before (Work s q a b w) in omega (arith, c, l)
few_after before entered (Leave s q t) l = let c = length_push before (Leave s q t) in omega (arith, c, l)
few_after before entered (Visit s q t) l = let c = length_push before (Visit s q t) in omega (arith, c, l)

-- behind a row that breaks no law
pub walk_next : (net : Routes) (x : Step) (w after : Walk) (k : Stands net x w) (end : ℚ) → BreaksNone net end k.before k.state x
    → (old new : Site) → slice_get w.sites.items (server_of net x) ≡ Some old → after.sites.items ≡ set w.sites.items (server_of net x) new
    → IsSite (server_at net (server_of net x)).discipline k.room (next (server_at net (server_of net x)).discipline (state_at k.state (server_of net x)) (seen net k.state.entered x)) new
    → IsFine k.grid k.most new → after.places.items ≡ next_places net k.state.entered w.places.items x
    → after.flows.items ≡ map (λ (e : Entry). e.flow) (entered_after k.state.entered x) → after.bits.items ≡ map (λ (e : Entry). e.bits) (entered_after k.state.entered x)
    → Keeps net k.room k.grid k.most (k.before ++ x ∷ []) (next_run net k.state x) after
walk_next net x w after k end none old new was is site fine places flows bits =
    let h = k.keeps in
    let s0 = server_of net x in
    let a = allows net end k.before k.state w.places.items h.tracked k.paths x k.recorded none in
    let many = h.tracked.many in
    let known = a.known_server in
    record {
      tracked = subst (Rattle.run_check.specs.broken_laws.Tracked.IsTracked net (k.before ++ x ∷ []) (next_run net k.state x)) (sym places)
          (tracked_next net end k.before k.state w.places.items h.tracked k.paths x a);
      flows = flows;
      bits = bits;
      many = ap length is ∙ (length-set w.sites.items s0 new ∙ h.many);
      sites = subst (λ (xs : List Site). (s : ℕ) (y : Site) → slice_get xs s ≡ Some y → IsSite (server_at net s).discipline k.room (state_at (next_run net k.state x) s) y) (sym is)
          (each_site w.sites.items s0 old new (λ s y. IsSite (server_at net s).discipline k.room (state_at (next_run net k.state x) s) y) was
          (subst (λ σ. IsSite (server_at net s0).discipline k.room σ new) (sym (own_state net k.state x (omega (arith, many, known)))) site)
          (λ s y n i. subst (λ σ. IsSite (server_at net s).discipline k.room σ y) (sym (other_state net k.state x s n)) (h.sites s y i)));
      fine = subst (λ (xs : List Site). (s : ℕ) (y : Site) → slice_get xs s ≡ Some y → IsFine k.grid k.most y) (sym is)
          (each_site w.sites.items s0 old new (λ s y. IsFine k.grid k.most y) was fine (λ s y n i. h.fine s y i));
      sizes = sizes_after net k.grid k.most k.state.entered x k.fits h.sizes;
      few = few_after k.before k.state.entered x h.few;
    }

-- ---- laws
pub below_first : (other : Law) → ¬ (number_of other < 1)
below_first L1 l = omega (arith, l)
below_first L2 l = omega (arith, l)
below_first L3 l = omega (arith, l)
below_first L4 l = omega (arith, l)
below_first L5 l = omega (arith, l)
below_first L6 l = omega (arith, l)
below_first L7 l = omega (arith, l)
below_first L8 l = omega (arith, l)
below_first L9 l = omega (arith, l)

pub keeps_some : (net : Routes) (x : Step) (w : Walk) → Stands net x w → (s : ℕ) (y : Site) → slice_get w.sites.items s ≡ Some y → KeepsSome y
keeps_some net x w k s y e = record { discipline = (server_at net s).discipline; room = k.room; state = state_at k.state s; keeps = k.keeps.sites s y e }

-- ---- a visit
pub untimely : (σ : ServerState) (end t : ℚ) → IsOut σ end t → (t <ℚ σ.now) ⊎ (end <ℚ t) ⊎ ⊥
untimely σ end t (inl l) = inl l
untimely σ end t (inr l) = inr (inl l)

pub timely : (σ : ServerState) (end t : ℚ) → ¬ IsOut σ end t → (t <ℚ σ.now) ⊎ (end <ℚ t) ⊎ ⊥ → ⊥
timely σ end t n (inl l) = n (inl l)
timely σ end t n (inr (inl l)) = n (inr l)
timely σ end t n (inr (inr l)) = l

visit_none : (net : Routes) (end : ℚ) (before : List Step) (r : RunState) (s q : ℕ) (t : ℚ) → ¬ IsOut (state_at r s) end t
    → Rattle.run_laws.specs.Allows.MayVisit (server_at net s).discipline (state_at r s) q → BreaksNone net end before r (Visit s q t)
visit_none net end before r s q t n m L1 k = timely (state_at r s) end t n k
visit_none net end before r s q t n m L2 k = k
visit_none net end before r s q t n m L3 k = k
visit_none net end before r s q t n m L4 k = k
visit_none net end before r s q t n m L5 k = k
visit_none net end before r s q t n m L6 k = k
visit_none net end before r s q t n m L7 k = k m
visit_none net end before r s q t n m L8 k = k
visit_none net end before r s q t n m L9 k = k

visit_other : (net : Routes) (end : ℚ) (before : List Step) (r : RunState) (s q : ℕ) (t : ℚ) → ¬ IsOut (state_at r s) end t
    → (other : Law) → number_of other < 7 → ¬ Breaks net end before r (Visit s q t) other
visit_other net end before r s q t n L1 l k = timely (state_at r s) end t n k
visit_other net end before r s q t n L2 l k = k
visit_other net end before r s q t n L3 l k = k
visit_other net end before r s q t n L4 l k = k
visit_other net end before r s q t n L5 l k = k
visit_other net end before r s q t n L6 l k = k
visit_other net end before r s q t n L7 l k = omega (arith, l)
visit_other net end before r s q t n L8 l k = omega (arith, l)
visit_other net end before r s q t n L9 l k = omega (arith, l)

pub visit_told : (net : Routes) (w after : Walk) (s q : ℕ) (t : ℚ) (k : Stands net (Visit s q t) w) (end : ℚ) (o : Option Law)
    → (c : ChangesAt (Visited end q t o) w.sites.items after.sites.items s) → after.places.items ≡ w.places.items → after.flows.items ≡ w.flows.items
    → after.bits.items ≡ w.bits.items → Told net (Visit s q t) w k end after o
visit_told net w after s q t k end o c places flows bits =
    go o (λ z. z) (c.changed.0 (server_at net s).discipline k.room (state_at k.state s) (k.keeps.sites s c.old c.was))
  where
    go : (p : Option Law) → (Told net (Visit s q t) w k end after p → Told net (Visit s q t) w k end after p)
        → VisitAnswer (server_at net s).discipline k.room (state_at k.state s) end q t c.new p → Told net (Visit s q t) w k end after p
    go None z h =
        let none = visit_none net end k.before k.state s q t h.timely h.may in (
          none,
          walk_next net (Visit s q t) w after k end none c.old c.new c.was c.is h.after_it
              (subst (λ u. Rattle.run_check.specs.Sites.IsFineUnder k.grid k.most u) (sym c.changed.1) (k.keeps.fine s c.old c.was))
              places (flows ∙ k.keeps.flows) (bits ∙ k.keeps.bits),
        )
    go (Some L1) z h = record { breaks = untimely (state_at k.state s) end t h; no_other = λ other l b. below_first other l }
    go (Some L2) z h = absurd h
    go (Some L3) z h = absurd h
    go (Some L4) z h = absurd h
    go (Some L5) z h = absurd h
    go (Some L6) z h = absurd h
    go (Some L7) z h = record { breaks = h.1; no_other = λ other l b. visit_other net end k.before k.state s q t h.0 other l b }
    go (Some L8) z h = absurd h
    go (Some L9) z h = absurd h

pub changed_lists : {P : Site → Site → Type 0} {xs ys : List Site} {s : ℕ} {zs vs : List Site} → ChangesAt P xs ys s → xs ≡ zs → vs ≡ ys → ChangesAt P zs vs s
changed_lists {P} {xs} {ys} {s} {zs} {vs} c e f = record {
  old = c.old;
  new = c.new;
  was = subst (λ ls. slice_get ls s ≡ Some c.old) e c.was;
  is = f ∙ (c.is ∙ ap (λ (ls : List Site). set ls s c.new) e);
  changed = c.changed;
}
