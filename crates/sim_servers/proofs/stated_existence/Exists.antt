-- There is a stated run.
use Rattle.std.proofs.Common.{◌≡◌, ℕ, zero, suc, ◌<◌, ◌≤◌, ◌+◌, ◌*◌, ◌-◌, ◌^◌, List, [], ◌∷◌, ◌++◌, length, get_or, refl, sym, ap, ◌∙◌, subst, arith, inl, inr, None}
use Rattle.std.specs.Prelude.{pos}
use Rattle.std.proofs.lemmas.List.{length_push}
use Rattle.rational.specs.Rational.{ℚ, int, ◌+ℚ◌, ◌≤ℚ◌}
use Rattle.rational.specs.Grid.{Whole}
use Rattle.rational.proofs.Laws.{le_trans}
use Rattle.run_laws.specs.declared.steps.Step.{Step}
use Rattle.run_laws.specs.declared.steps.Step.TheVariants.{Enter, Reach, Work, Leave, Visit}
use Rattle.run_laws.specs.Runs.{SpecRun}
use Rattle.run_laws.specs.Servers.{Fifo, Priority, Discipline, Drr, queue_count, ServerState, Server, start}
use Rattle.run_laws.specs.Next.{next}
use Rattle.run_laws.specs.Cards.{Visits}
use Rattle.run_laws.specs.Allows.{MayVisit}
use Rattle.run_laws.specs.Routes.{server_at, link_at, server_after}
use Rattle.run_laws.specs.Views.{hops_of, server_of, seen}
use Rattle.run_laws.specs.Lawful.{Due, RunState, state_at, next_run, run_start, after_run}
use Rattle.net_model.specs.Networks.{Net}
use Rattle.net_model.specs.Accepted.{IsAccepted, HasFewQueues}
use Rattle.net_model.proofs.FewQueues.{few_of}
use Rattle.net_model.specs.NetRoutes.{server_for}
use Rattle.net_model.specs.Traces.{SpecTrace, IsTrace}
use Rattle.net_model.specs.Walks.{IsFeedForward}
use Rattle.net_model.specs.stated_runs.Setups.{Setup, IsSetup}
use Rattle.net_model.specs.stated_runs.DueSteps.{IsLeaving, IsEntering, IsDue, step_time}
use Rattle.net_model.specs.stated_runs.FromTraces.{setup_of, IsTraceOf}
use Rattle.net_model.specs.stated_runs.Simulated.{IsNext, Follows, FollowsSoFar, last_time, IsSimulated}
use Rattle.net_model.proofs.stated_runs.Lists.{contains_in, in_contains}
use Rattle.net_model.proofs.stated_runs.Turning.{KeepsTurns, AreHeads}
use Rattle.net_model.proofs.stated_runs.Good.{IsGood, own_state, good_from_step}
use Rattle.net_model.proofs.stated_runs.GoodWork.{good_work_of}
use Rattle.net_model.proofs.stated_runs.GoodSteps.{good_next}
use Rattle.net_model.proofs.stated_runs.Lawfulness.{good_start}
use Rattle.net_model.proofs.stated_runs.Progress.{AllKeepTurns, turn_next, turn_start, heads_at}
use Rattle.net_model.proofs.stated_runs.MadeSetups.{traces_make_setups}
use Rattle.sim_servers.proofs.sim_states.SoFar.{after_push, follows_push}
use Rattle.sim_bounds.specs.Horizons.{horizon, IsForward}
use Rattle.sim_bounds.specs.Times.{IsTimely, IsGrid, IsStepOnGrid}
use Rattle.sim_bounds.specs.Gauge.{grid_of}
use Rattle.sim_bounds.proofs.TimesOf.{due_in_time, due_on_grid}
use Rattle.sim_bounds.proofs.Places.{place_of_server}
use Rattle.sim_bounds.proofs.MadeBounds.{made_forward}
use Rattle.sim_bounds.proofs.Members.{any_made}
use Rattle.sim_bounds.proofs.Fits.{made_grid, sizes_some}
use Rattle.sim_servers.proofs.stated_existence.Firsts.{next_or_end}
use Rattle.sim_servers.proofs.stated_existence.Worth.{fewer_ticks, to_visit, to_visit_most, visit_less, under_worth, worth_at, worths, worths_set, without_less, sent_more}

-- ---- what is asked of the servers: few queues, and quanta of some bits
abbrev pub HasQuanta : Discipline → Type 0
HasQuanta d = (quanta : List ℕ) → d ≡ Drr quanta → (q : ℕ) → q < length quanta → 1 ≤ get_or quanta q 0

pub record IsServed (S : Setup) : Type 0 where
  pub few : (s : ℕ) → queue_count (server_at S.net s).discipline ≤ 8
  pub quanta : (s : ℕ) → HasQuanta (server_at S.net s).discipline

-- ---- the number
abbrev pub worth : Setup → ℕ → ℚ → RunState → ℕ
worth S d E r = worths S d E 0 r.servers + 2 ^ 37 * (length r.due + (length S.packets - length r.entered))

-- the servers before and after a step
server_change : (S : Setup) (d : ℕ) (E : ℚ) (r : RunState) (x : Step) → server_of S.net x < length r.servers
    → worths S d E 0 (next_run S.net r x).servers + worth_at d E (server_at S.net (server_of S.net x)).discipline (state_at r (server_of S.net x))
    ≡ worths S d E 0 r.servers + worth_at d E (server_at S.net (server_of S.net x)).discipline
    (next (server_at S.net (server_of S.net x)).discipline (state_at r (server_of S.net x)) (seen S.net r.entered x))
server_change S d E r x h =
    let s = server_of S.net x in
    let y = next (server_at S.net s).discipline (state_at r s) (seen S.net r.entered x) in
    let e : 0 + s ≡ s = omega arith in
    subst (λ i. worths S d E 0 (next_run S.net r x).servers + worth_at d E (server_at S.net i).discipline (state_at r s)
    ≡ worths S d E 0 r.servers + worth_at d E (server_at S.net i).discipline y) e
    (worths_set S d E 0 s r.servers y (start Fifo) h)

-- ---- one step
-- work is on the grid, and ends by E
abbrev pub IsShort : ℕ → ℚ → Step → Type 0
IsShort d E (Enter f p t b) = Unit {0}
IsShort d E (Reach s p t) = Unit {0}
IsShort d E (Work s p a b w) = Whole d a × Whole d b × (b ≤ℚ E)
IsShort d E (Leave s p t) = Unit {0}
IsShort d E (Visit s q t) = Unit {0}

short_of : (S : Setup) (d : ℕ) (r : RunState) (x : Step) → IsTimely S r x → IsStepOnGrid S d r x → IsShort d (horizon S) x
short_of S d r (Enter f p t b) h k = tt
short_of S d r (Reach s p t) h k = tt
short_of S d r (Work s p a b w) h k = (k.time, k.end, le_trans h.end_near h.in_time)
short_of S d r (Leave s p t) h k = tt
short_of S d r (Visit s q t) h k = tt

visits : (D : Discipline) (σ : ServerState) (q : ℕ) (t : ℚ) → MayVisit D σ q → KeepsTurns D σ → AreHeads D σ.inside → HasQuanta D
    → suc (to_visit D (next D σ (Visits q t))) ≤ to_visit D σ
visits Fifo σ q t m k h b = absurd m
visits (Priority n) σ q t m k h b = absurd m
visits (Drr quanta) σ q t m k h b = visit_less quanta σ q t m k h (b quanta refl q)

-- what is known of the step x at its server
record IsTaken (S : Setup) (d : ℕ) (E : ℚ) (r : RunState) (T : ℚ) (x : Step) : Type 0 where
  good : IsGood S r T
  known : server_of S.net x < length S.net.servers
  turns : KeepsTurns (server_at S.net (server_of S.net x)).discipline (state_at r (server_of S.net x))
  heads : AreHeads (server_at S.net (server_of S.net x)).discipline (state_at r (server_of S.net x)).inside
  quanta : HasQuanta (server_at S.net (server_of S.net x)).discipline
  most : to_visit (server_at S.net (server_of S.net x)).discipline
      (next (server_at S.net (server_of S.net x)).discipline (state_at r (server_of S.net x)) (seen S.net r.entered x)) ≤ 2 ^ 36
  change : worths S d E 0 (next_run S.net r x).servers + worth_at d E (server_at S.net (server_of S.net x)).discipline (state_at r (server_of S.net x))
      ≡ worths S d E 0 r.servers + worth_at d E (server_at S.net (server_of S.net x)).discipline
      (next (server_at S.net (server_of S.net x)).discipline (state_at r (server_of S.net x)) (seen S.net r.entered x))

taken_less : (S : Setup) → IsSetup S → (d : ℕ) (E : ℚ) → 0 < d → (r : RunState) (T : ℚ) (x : Step) → IsDue S r x → IsShort d E x → IsTaken S d E r T x
    → suc (worth S d E (next_run S.net r x)) ≤ worth S d E r
taken_less S ok d E some r T (Enter f p t b) due short h =
    let y : IsEntering S r f p t b = due in
    let l = length_push r.entered record { flow = f; bits = b } in
    let i = y.in_turn in
    let j = y.in_trace in
    let most = h.most in
    let change = h.change in
    omega (arith, l, i, j, most, change)
taken_less S ok d E some r T (Reach s p t) due short h =
    let e : Due = record { packet = p; server = s; time = t } in
    let l = without_less e r.due (contains_in r.due e due) in
    let most = h.most in
    let change = h.change in
    omega (arith, l, most, change)
taken_less S ok d E some r T (Work s p a b w) due short h =
    let σ = state_at r s in
    let z = good_work_of S ok r.entered s σ T p a b w (h.good.servers s h.known) due.1 in
    let l = fewer_ticks d E σ.busy a b some short.0 short.1 z.no_overlap z.forward short.2 in
    let most = h.most in
    let change = h.change in
    omega (arith, l, most, change)
taken_less S ok d E some r T (Leave s p t) due short h =
    let y : IsLeaving (state_at r s) p t = due.1 in
    let u : under_worth (state_at r s).under ≡ 2 ^ 38 = ap under_worth y.is_under in
    let l = sent_more (server_after s (hops_of S.net r.entered p)) p (t +ℚ link_at S.net s) r.due in
    let most = h.most in
    let change = h.change in
    omega (arith, u, l, most, change)
taken_less S ok d E some r T (Visit s q t) due short h =
    let l = visits (server_at S.net s).discipline (state_at r s) q t due.1.may h.turns h.heads h.quanta in
    let change = h.change in
    omega (arith, l, change)

-- ---- the run
-- what holds after the steps ys
record IsOnWay (S : Setup) (ys : List Step) (r : RunState) : Type 0 where
  time : ℚ
  good : IsGood S r time
  turns : AllKeepTurns S r
  followed : FollowsSoFar S (run_start S.net) ys
  is : after_run S.net (run_start S.net) ys ≡ r

record IsGridded (S : Setup) : Type 0 where
  setup : IsSetup S
  served : IsServed S
  place : ℕ → ℕ
  forward : IsForward S place
  grid : ℕ
  some : 0 < grid
  on_grid : IsGrid S grid

record IsOneOn (S : Setup) (d : ℕ) (ys : List Step) (r : RunState) (x : Step) : Type 0 where
  on_way : IsOnWay S (ys ++ x ∷ []) (next_run S.net r x)
  less : suc (worth S d (horizon S) (next_run S.net r x)) ≤ worth S d (horizon S) r

one_on : (S : Setup) → (k : IsGridded S) → (ys : List Step) (r : RunState) → IsOnWay S ys r → (x : Step) → IsNext S r x → IsOneOn S k.grid ys r x
one_on S k ys r h x n =
    let d = k.grid in
    let E = horizon S in
    let s = server_of S.net x in
    let D = (server_at S.net s).discipline in
    let r' = next_run S.net r x in
    let step = good_next S k.setup r h.time h.good x n in
    let good = good_from_step S r h.time x h.good n step in
    let turns = turn_next S k.setup r h.time h.good x n.due step.known h.turns in
    let g = h.good.many in
    let l = step.known in
    let many : s < length r.servers = omega (arith, l, g) in
    let due : IsDue S (after_run S.net (run_start S.net) ys) x = subst (λ z. IsDue S z x) (sym h.is) n.due in
    let timely = due_in_time S k.place ys x k.setup k.forward h.followed due in
    let on_grid = due_on_grid S d ys x k.setup k.on_grid h.followed due in
    record {
      on_way = record {
        time = step_time x;
        good = good;
        turns = turns;
        followed = follows_push S ys (run_start S.net) x h.followed (subst (λ z. IsNext S z x) (sym h.is) n);
        is = after_push S ys (run_start S.net) x ∙ ap (λ z. next_run S.net z x) h.is;
      };
      less = taken_less S k.setup d E k.some r h.time x n.due (short_of S d (after_run S.net (run_start S.net) ys) x timely on_grid) record {
        good = h.good;
        known = step.known;
        turns = h.turns s step.known;
        heads = heads_at S r h.time h.good s step.known;
        quanta = k.served.quanta s;
        most = subst (λ σ. to_visit D σ ≤ 2 ^ 36) (own_state S.net r x many)
            (to_visit_most D (state_at r' s) (turns s step.known) (heads_at S r' (step_time x) good s step.known) (k.served.few s));
        change = server_change S d E r x many;
      };
    }

on : (S : Setup) → (k : IsGridded S) → (n : ℕ) (ys : List Step) (r : RunState) → IsOnWay S ys r → worth S k.grid (horizon S) r ≤ n
    → (xs : List Step) × Follows S r xs
on S k zero ys r h l = elim (next_or_end S k.setup r h.time h.good h.turns) [
  | inr none ↦ ([], none)
  | inl x ↦ absurd (let m = (one_on S k ys r h x.0 x.1).less in omega (arith, l, m))
]
on S k (suc n) ys r h l = elim (next_or_end S k.setup r h.time h.good h.turns) [
  | inr none ↦ ([], none)
  | inl x ↦
      let one = one_on S k ys r h x.0 x.1 in
      let m = one.less in
      let rest = on S k n (ys ++ x.0 ∷ []) (next_run S.net r x.0) one.on_way (omega (arith, l, m)) in
      (x.0 ∷ rest.0, (x.1, rest.1))
]

-- ---- of a network and a trace
quanta_of : (d : Discipline) → HasFewQueues d → HasQuanta d
quanta_of Fifo h = λ quanta e. absurd (cc)
quanta_of (Priority n) h = λ quanta e. absurd (cc)
quanta_of (Drr own) h = λ quanta e q l.
    let same : own ≡ quanta = cc in
    subst (λ qs. 1 ≤ get_or qs q 0) same (h.1 q 0 (subst (λ qs. q < length qs) (sym same) l)).0

served : (net : Net) (trace : SpecTrace) → IsAccepted net → IsServed (setup_of net trace)
served net trace ok = record {
  few = λ s. any_made (λ (x : Server). queue_count x.discipline ≤ 8) (server_for net.version) net.servers s record { discipline = Fifo; pace = None } (omega arith)
      (λ x i. few_of x.discipline (ok.servers x (in_contains net.servers x i)).queues);
  quanta = λ s. any_made (λ (x : Server). HasQuanta x.discipline) (server_for net.version) net.servers s record { discipline = Fifo; pace = None }
      (λ quanta e. absurd (cc)) (λ x i. quanta_of x.discipline (ok.servers x (in_contains net.servers x i)).queues);
}

gridded : (net : Net) (trace : SpecTrace) → IsAccepted net → IsTrace trace → IsTraceOf net trace → IsFeedForward net → IsGridded (setup_of net trace)
gridded net trace ok fine named free = record {
  setup = traces_make_setups net trace ok fine named;
  served = served net trace ok;
  place = place_of_server net;
  forward = made_forward net trace ok fine named free;
  grid = grid_of net trace;
  some = (let d = (sizes_some net trace ok).dt in omega (arith, d));
  on_grid = made_grid net trace ok;
}

pub stated_run : (net : Net) (trace : SpecTrace) → IsAccepted net → IsTrace trace → IsTraceOf net trace → IsFeedForward net
    → (run : SpecRun) × IsSimulated (setup_of net trace) run
stated_run net trace ok fine named free =
    let S = setup_of net trace in
    let k = gridded net trace ok fine named free in
    let r = run_start S.net in
    let way : IsOnWay S [] r = record {
      time = int (pos 0);
      good = good_start S k.setup;
      turns = turn_start S;
      followed = tt;
      is = refl;
    } in
    let steps = on S k (worth S k.grid (horizon S) r) [] r way (omega arith) in
    (record { steps = steps.0; end = last_time (int (pos 0)) steps.0 }, record { follows = steps.1; ends = refl })
