-- All times of a stated run are on the grid of its setup.
use Rattle.std.proofs.Common.{◌≡◌, ℕ, ◌<◌, List, [], ◌∷◌, ◌++◌, length, refl, sym, ap, ◌∙◌, subst, arith, inl, inr, Some, None}
use Rattle.std.specs.Prelude.{Option, pos}
use Rattle.std.proofs.lemmas.Bool.{cases_eq}
use Rattle.std.proofs.lemmas.List.{get_or-map}
use Rattle.rational.specs.Rational.{ℚ, int, ◌+ℚ◌, ◌-ℚ◌, ◌*ℚ◌, ◌/ℚ◌, ◌≤ℚ◌}
use Rattle.rational.specs.Grid.{Whole}
use Rattle.rational.proofs.Laws.{le_trans, mul_comm, not_zero}
use Rattle.rational.proofs.Grid.{whole_int, whole_add, whole_sub}
use Rattle.rational.proofs.Quotients.{add_div, sub_div, zero_div, div_unique}
use Rattle.run_laws.specs.declared.steps.Step.{Step}
use Rattle.run_laws.specs.declared.steps.Step.TheVariants.{Enter, Reach, Work, Leave, Visit}
use Rattle.run_laws.specs.Cards.{Card, size, Arrives, Works}
use Rattle.run_laws.specs.Servers.{Fifo, Server, Under, ServerState, done, done_so_far, start}
use Rattle.run_laws.specs.Next.{next}
use Rattle.run_laws.specs.Routes.{server_at, link_at, route_of, first_server, server_after}
use Rattle.run_laws.specs.Views.{hops_of, card_of, server_of, seen}
use Rattle.run_laws.specs.Lawful.{Due, RunState, state_at, next_run, run_start, after_run}
use Rattle.net_model.specs.stated_runs.Setups.{Setup, IsSetup, rate_of}
use Rattle.net_model.specs.stated_runs.DueSteps.{IsDue, step_time}
use Rattle.net_model.proofs.stated_runs.Lists.{In, in_without, contains_in}
use Rattle.net_model.proofs.stated_runs.Good.{IsGood, own_state, other_state, good_from_step}
use Rattle.net_model.proofs.stated_runs.GoodSteps.{good_next}
use Rattle.net_model.proofs.stated_runs.Lawfulness.{good_start}
use Rattle.net_model.specs.stated_runs.Simulated.{FollowsSoFar}
use Rattle.sim_bounds.specs.Times.{time_left, IsGrid, IsStepOnGrid}
use Rattle.sim_bounds.proofs.Levels.{clock, clock_of}
use Rattle.sim_bounds.proofs.Bounded.{stretch_from, idle_of, sent_in}
use Rattle.sim_bounds.proofs.OpenGrid.{first_open_whole, stretch_end_whole}

-- what a server's state keeps: its times, and the time that it has worked on the packet under way
pub record IsStateOnGrid (S : Setup) (d s : ℕ) (σ : ServerState) : Type 0 where
  pub now : Whole d σ.now
  pub end : Whole d (clock σ)
  pub worked : Whole d (done_so_far σ.under /ℚ rate_of S s)

pub record IsRunOnGrid (S : Setup) (d : ℕ) (r : RunState) : Type 0 where
  pub states : (s : ℕ) → s < length S.net.servers → IsStateOnGrid S d s (state_at r s)
  pub links : (e : Due) → In r.due e → Whole d e.time

-- ---- the times of a due step
pub left_whole : (S : Setup) (d s : ℕ) → IsGrid S d → (σ : ServerState) (c : Card) → IsStateOnGrid S d s σ → Whole d ((size c -ℚ done_so_far σ.under) /ℚ rate_of S s)
left_whole S d s w σ c g =
    subst (λ x. Whole d x) (sym (sub_div (size c) (done_so_far σ.under) (rate_of S s)))
    (whole_sub d (size c /ℚ rate_of S s) (done_so_far σ.under /ℚ rate_of S s) (w.works s c.bits) g.worked)

-- what is left in a stretch is what the card of its packet lacks
record IsStretchLeft (S : Setup) (d : ℕ) (r : RunState) (s p : ℕ) (a b w : ℚ) : Type 0 where
  begins : Whole d a
  ends : Whole d b

work_times : (S : Setup) (d : ℕ) → IsSetup S → IsGrid S d → (r : RunState) (T : ℚ) → IsGood S r T → IsRunOnGrid S d r → (s p : ℕ) (a b w : ℚ)
    → IsDue S r (Work s p a b w) → IsStretchLeft S d r s p a b w
work_times S d ok w r T g h s p a b v (known, inl y) =
    let σ = state_at r s in
    let k = h.states s known in
    let from : y.under.last.end ≡ clock σ = sym (ap (λ o. clock_of o σ.now) y.is_under) in
    let wa : Whole d a = first_open_whole S s d y.under.last.end a (w.gates s) (w.stalls s) (subst (λ x. Whole d x) (sym from) k.end) y.stretch.begins in
    let zero : int (pos 0) ≤ℚ a = le_trans g.from_zero (g.later (Work s p a b v) (known, inl y)) in
    let so_far : done_so_far σ.under ≡ done y.under = ap done_so_far y.is_under in
    let wl : Whole d ((size y.under.card -ℚ done y.under) /ℚ rate_of S s) =
    subst (λ x. Whole d ((size y.under.card -ℚ x) /ℚ rate_of S s)) so_far (left_whole S d s w σ y.under.card k) in
    record { begins = wa; ends = stretch_end_whole S s d ok y.under.last.end (size y.under.card -ℚ done y.under) a b v (w.gates s) (w.stalls s) zero wa wl y.stretch }
work_times S d ok w r T g h s p a b v (known, inr y) =
    let σ = state_at r s in
    let k = h.states s known in
    let wa : Whole d a = first_open_whole S s d σ.now a (w.gates s) (w.stalls s) k.now y.stretch.begins in
    let zero : int (pos 0) ≤ℚ a = le_trans g.from_zero (g.later (Work s p a b v) (known, inr y)) in
    record { begins = wa; ends = stretch_end_whole S s d ok σ.now (size y.card) a b v (w.gates s) (w.stalls s) zero wa (w.works s y.card.bits) y.stretch }

pub on_grid : (S : Setup) (d : ℕ) → IsSetup S → IsGrid S d → (r : RunState) (T : ℚ) → IsGood S r T → IsRunOnGrid S d r → (y : Step) → IsDue S r y → IsStepOnGrid S d r y
on_grid S d ok w r T g h (Enter f p t b) due =
    let t_whole : Whole d t = subst (λ x. Whole d x) (sym due.time_is) (w.packets p due.in_trace) in
    record { time = t_whole; end = t_whole; far = t_whole }
on_grid S d ok w r T g h (Reach s p t) due =
    let t_whole : Whole d t = h.links record { packet = p; server = s; time = t } (contains_in r.due record { packet = p; server = s; time = t } due) in
    record { time = t_whole; end = t_whole; far = t_whole }
on_grid S d ok w r T g h (Work s p a b v) due =
    let k = work_times S d ok w r T g h s p a b v due in
    record {
      time = k.begins;
      end = k.ends;
      far = whole_add d a (time_left S r s p) k.begins (left_whole S d s w (state_at r s) (card_of S.net r.entered p s) (h.states s due.0));
    }
on_grid S d ok w r T g h (Leave s p t) due =
    let y = due.1 in
    let σ = state_at r s in
    let is : clock σ ≡ t = ap (λ o. clock_of o σ.now) y.is_under ∙ sym y.at_end in
    let t_whole : Whole d t = subst (λ x. Whole d x) is (h.states s due.0).end in
    record { time = t_whole; end = t_whole; far = whole_add d t (link_at S.net s) t_whole (w.links s) }
on_grid S d ok w r T g h (Visit s q t) due =
    let t_whole : Whole d t = first_open_whole S s d (state_at r s).now t (w.gates s) (w.stalls s) (h.states s due.0).now due.1.opens in
    record { time = t_whole; end = t_whole; far = t_whole }

-- ---- each step keeps it
zero_whole : (S : Setup) (d s : ℕ) → IsSetup S → Whole d (int (pos 0) /ℚ rate_of S s)
zero_whole S d s ok = subst (λ x. Whole d x) (sym (zero_div (rate_of S s) (not_zero (rate_of S s) (ok.rates s)))) (whole_int d (pos 0))

arrives_grid : (S : Setup) (d s : ℕ) (σ : ServerState) (c : Card) (t : ℚ) → IsStateOnGrid S d s σ → Whole d t → IsStateOnGrid S d s (next (server_at S.net s).discipline σ (Arrives c t))
arrives_grid S d s σ c t h w = record { now = w; end = by_under σ.under refl; worked = h.worked }
  where
    by_under : (o : Option Under) → σ.under ≡ o → Whole d (clock_of σ.under t)
    by_under None e = subst (λ x. Whole d x) (sym (ap (λ o. clock_of o t) e)) w
    by_under (Some u) e = subst (λ x. Whole d x) (ap (λ o. clock_of o σ.now) e ∙ sym (ap (λ o. clock_of o t) e)) h.end

works_grid : (S : Setup) (d s : ℕ) → IsSetup S → (σ : ServerState) (c : Card) (a b v : ℚ) → IsStateOnGrid S d s σ → Whole d a → Whole d b → v ≡ rate_of S s *ℚ (b -ℚ a)
    → IsStateOnGrid S d s (next (server_at S.net s).discipline σ (Works c a b v))
works_grid S d s ok σ c a b v h wa wb e = record {
  now = wa;
  end = wb;
  worked =
      let rate = rate_of S s in
      let part : v /ℚ rate ≡ b -ℚ a = div_unique v rate (b -ℚ a) (not_zero rate (ok.rates s)) (mul_comm (b -ℚ a) rate ∙ sym e) in
      subst (λ x. Whole d x) (sym (add_div (done_so_far σ.under) v rate))
      (whole_add d (done_so_far σ.under /ℚ rate) (v /ℚ rate) h.worked (subst (λ x. Whole d x) (sym part) (whole_sub d b a wb wa)));
}

own_grid : (S : Setup) (d : ℕ) → IsSetup S → IsGrid S d → (r : RunState) (T : ℚ) → IsGood S r T → IsRunOnGrid S d r → (x : Step) → IsDue S r x
    → server_of S.net x < length S.net.servers → IsStepOnGrid S d r x
    → IsStateOnGrid S d (server_of S.net x) (next (server_at S.net (server_of S.net x)).discipline (state_at r (server_of S.net x)) (seen S.net r.entered x))
own_grid S d ok w r T g h (Enter f p t b) due known k =
    let i = first_server (route_of S.net f).hops in
    arrives_grid S d i (state_at r i) (card_of S.net (r.entered ++ record { flow = f; bits = b } ∷ []) p i) t (h.states i known) k.time
own_grid S d ok w r T g h (Reach s p t) due known k = arrives_grid S d s (state_at r s) (card_of S.net r.entered p s) t (h.states s known) k.time
own_grid S d ok w r T g h (Work s p a b v) due known k =
    let z = stretch_from S s (state_at r s) p a b v due.1 in
    works_grid S d s ok (state_at r s) (card_of S.net r.entered p s) a b v (h.states s known) k.time k.end z.stretch.at_rate
own_grid S d ok w r T g h (Leave s p t) due known k = record { now = k.time; end = k.time; worked = zero_whole S d s ok }
own_grid S d ok w r T g h (Visit s q t) due known k =
    let σ = state_at r s in
    let idle = idle_of (server_at S.net s).discipline σ q due.1.may in
    record { now = k.time; end = subst (λ x. Whole d x) (sym (ap (λ o. clock_of o t) idle)) k.time; worked = (h.states s known).worked }

links_grid : (S : Setup) (d : ℕ) (r : RunState) (x : Step) → IsRunOnGrid S d r → IsStepOnGrid S d r x → (e : Due) → In (next_run S.net r x).due e → Whole d e.time
links_grid S d r (Enter f p t b) h k e i = h.links e i
links_grid S d r (Reach s p t) h k e i = h.links e (in_without record { packet = p; server = s; time = t } r.due e i)
links_grid S d r (Work s p a b v) h k e i = h.links e i
links_grid S d r (Leave s p t) h k e i = elim (sent_in (server_after s (hops_of S.net r.entered p)) p (t +ℚ link_at S.net s) r.due e i) [
  | inl j ↦ h.links e j
  | inr j ↦ subst (λ (y : Due). Whole d y.time) j.2 k.far
]
links_grid S d r (Visit s q t) h k e i = h.links e i

pub grid_next : (S : Setup) (d : ℕ) → IsSetup S → IsGrid S d → (r : RunState) (T : ℚ) → IsGood S r T → IsRunOnGrid S d r → (x : Step) → IsDue S r x
    → server_of S.net x < length S.net.servers → IsRunOnGrid S d (next_run S.net r x)
grid_next S d ok w r T g h x due known =
    let k = on_grid S d ok w r T g h x due in
    let i = server_of S.net x in
    let own = own_state S.net r x (omega (arith, known, g.many)) in
    record {
      states = λ s l. elim (cases_eq s i) [
        | inl j ↦ subst (λ m. IsStateOnGrid S d m (state_at (next_run S.net r x) m)) (sym j)
            (subst (λ σ. IsStateOnGrid S d i σ) (sym own) (own_grid S d ok w r T g h x due known k))
        | inr n ↦ subst (λ σ. IsStateOnGrid S d s σ) (sym (other_state S.net r x s n)) (h.states s l)
      ];
      links = links_grid S d r x h k;
    }

grid_start : (S : Setup) (d : ℕ) → IsSetup S → IsRunOnGrid S d (run_start S.net)
grid_start S d ok = record {
  states = λ s l.
      let at : state_at (run_start S.net) s ≡ start (server_at S.net s).discipline =
      get_or-map (λ (t : Server). start t.discipline) S.net.servers s record { discipline = Fifo; pace = None } (start Fifo) l in
      subst (λ σ. IsStateOnGrid S d s σ) (sym at) record { now = whole_int d (pos 0); end = whole_int d (pos 0); worked = zero_whole S d s ok };
  links = λ e i. absurd i;
}

-- ---- as far as the run has come
pub record IsGridded (S : Setup) (d : ℕ) (r : RunState) : Type 0 where
  pub now : ℚ
  pub good : IsGood S r now
  pub on_grid : IsRunOnGrid S d r

gridded_from : (S : Setup) (d : ℕ) → IsSetup S → IsGrid S d → (xs : List Step) (r : RunState) → IsGridded S d r → FollowsSoFar S r xs → IsGridded S d (after_run S.net r xs)
gridded_from S d ok w [] r h b = h
gridded_from S d ok w (x ∷ xs) r h b =
    let n = b.0 in
    let k = good_next S ok r h.now h.good x n in
    gridded_from S d ok w xs (next_run S.net r x) record {
      now = step_time x;
      good = good_from_step S r h.now x h.good n k;
      on_grid = grid_next S d ok w r h.now h.good h.on_grid x n.due k.known;
    } b.1

pub gridded : (S : Setup) (d : ℕ) → IsSetup S → IsGrid S d → (xs : List Step) → FollowsSoFar S (run_start S.net) xs → IsGridded S d (after_run S.net (run_start S.net) xs)
gridded S d ok w xs b = gridded_from S d ok w xs (run_start S.net) record { now = int (pos 0); good = good_start S ok; on_grid = grid_start S d ok } b
