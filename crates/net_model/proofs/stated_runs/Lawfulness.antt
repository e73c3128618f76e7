-- A stated run is lawful.
use Rattle.std.proofs.Common.{◌≡◌, ℕ, ◌<◌, ◌≤◌, List, [], ◌∷◌, ◌++◌, length, get_or, refl, sym, ap, ◌∙◌, subst, arith, inl, inr, ◌⊎◌, Some, None}
use Rattle.std.specs.Prelude.{Option, pos}
use Rattle.std.proofs.lemmas.Bool.{cases_eq}
use Rattle.std.proofs.lemmas.List.{get_or-map, length-map}
use Rattle.std.proofs.lemmas.List.Elements.{All-from_get_or}
use Rattle.rational.specs.Rational.{ℚ, int, ◌-ℚ◌, ◌≤ℚ◌, ◌<ℚ◌}
use Rattle.rational.proofs.Linear.{with2}
use Rattle.rational.proofs.Laws.{le_refl, le_trans, le_of_lt, le_or_lt, antisym}
use Rattle.run_laws.specs.declared.steps.Step.{Step}
use Rattle.run_laws.specs.declared.steps.Step.TheVariants.{Enter, Reach, Work, Leave, Visit}
use Rattle.run_laws.specs.Runs.{SpecRun}
use Rattle.run_laws.specs.Cards.{Card, size}
use Rattle.run_laws.specs.Servers.{Fifo, Server, Under, ServerState, done, start}
use Rattle.run_laws.specs.Next.{next_busy}
use Rattle.run_laws.specs.Allows.{Allows, MayLeave, MayWork, IsInTime, IsComplete}
use Rattle.run_laws.specs.Routes.{Routes, server_at, route_of, PassesServer, first_server}
use Rattle.run_laws.specs.Views.{Entry, hops_of, card_of, server_of, seen}
use Rattle.run_laws.specs.Lawful.{Due, RunState, state_at, next_run, run_start, after_run, AllowsInRun, AllAllowedInRun, IsLawful}
use Rattle.net_model.specs.stated_runs.Setups.{Setup, IsSetup}
use Rattle.net_model.specs.stated_runs.DueSteps.{IsEntering, IsDue, step_time}
use Rattle.net_model.specs.stated_runs.Simulated.{IsNext, Follows, last_time, IsSimulated}
use Rattle.net_model.proofs.stated_runs.Opens.{stretch_of}
use Rattle.net_model.proofs.stated_runs.Lists.{In, at_in, contains_in, in_contains}
use Rattle.net_model.proofs.stated_runs.Routed.{place_of, first_passes}
use Rattle.net_model.proofs.stated_runs.GoodServers.{IsCardAt, IsGoodAt}
use Rattle.net_model.proofs.stated_runs.GoodWork.{good_work_of}
use Rattle.net_model.proofs.stated_runs.Good.{IsGood, IsGoodStep, own_state, other_state, good_from_step}
use Rattle.net_model.proofs.stated_runs.GoodSteps.{good_next, coming}

-- ---- at first
pub good_start : (S : Setup) → IsSetup S → IsGood S (run_start S.net) (int (pos 0))
good_start S ok =
    let r = run_start S.net in
    let zero_q : int (pos 0) ≤ℚ int (pos 0) = le_refl (int (pos 0)) in
    let at : (s : ℕ) → s < length S.net.servers → state_at r s ≡ start (server_at S.net s).discipline =
    λ s h. get_or-map (λ (t : Server). start t.discipline) S.net.servers s record { discipline = Fifo; pace = None } (start Fifo) h in
    let fresh : (s : ℕ) → s < length S.net.servers → (state_at r s).under ≡ None = λ s h. ap (λ (t : ServerState). t.under) (at s h) in
    let now : (s : ℕ) → s < length S.net.servers → (state_at r s).now ≡ int (pos 0) = λ s h. ap (λ (t : ServerState). t.now) (at s h) in
    record {
      many = length-map S.net.servers (λ (t : Server). start t.discipline);
      servers = λ s h. subst (λ σ. IsGoodAt S.net [] s σ (int (pos 0))) (sym (at s h)) record {
        cards = λ c i. absurd i;
        under = λ u e. absurd (let f : None ≡ Some u = e in cc);
        idle = λ e. zero_q;
        from_zero = zero_q;
        by_now = zero_q;
      };
      entries = λ p h. absurd (omega (arith, h));
      links = λ d i. absurd i;
      later = λ y h. start_later S ok fresh now y h;
      from_zero = zero_q;
    }
  where
    start_later : (S : Setup) → IsSetup S → ((s : ℕ) → s < length S.net.servers → (state_at (run_start S.net) s).under ≡ None)
        → ((s : ℕ) → s < length S.net.servers → (state_at (run_start S.net) s).now ≡ int (pos 0))
        → (y : Step) → IsDue S (run_start S.net) y → int (pos 0) ≤ℚ step_time y
    start_later S ok fresh now (Enter f p t b) h = subst (λ u. int (pos 0) ≤ℚ u) (sym h.time_is) (ok.from_zero p h.in_trace)
    start_later S ok fresh now (Reach s p t) h = absurd (contains_in (run_start S.net).due record { packet = p; server = s; time = t } h)
    start_later S ok fresh now (Work s p a b w) (h, inl y) = absurd (let f : None ≡ Some y.under = sym (fresh s h) ∙ y.is_under in cc)
    start_later S ok fresh now (Work s p a b w) (h, inr y) = subst (λ u. u ≤ℚ a) (now s h) y.stretch.begins.not_before
    start_later S ok fresh now (Leave s p t) (h, y) = absurd (let f : None ≡ Some y.under = sym (fresh s h) ∙ y.is_under in cc)
    start_later S ok fresh now (Visit s q t) (h, y) = subst (λ u. u ≤ℚ t) (now s h) y.opens.not_before

-- ---- at the end
pub under_cases : (o : Option Under) → (o ≡ None) ⊎ ((u : Under) × (o ≡ Some u))
under_cases None = inl refl
under_cases (Some u) = inr (u, refl)

-- where nothing is due no packet is under way
pub none_under : (S : Setup) → IsSetup S → (r : RunState) (T : ℚ) → IsGood S r T → ((y : Step) → ¬ (IsDue S r y))
    → (s : ℕ) → s < length S.net.servers → (state_at r s).under ≡ None
none_under S ok r T g none s h = elim (under_cases (state_at r s).under) [
  | inl e ↦ e
  | inr k ↦
      let u = k.0 in
      let good = (g.servers s h).under u k.1 in
      absurd (elim (le_or_lt (size u.card) (done u)) [
        | inl all ↦ none (Leave s u.card.packet u.last.end)
            (h, record { under = u; is_under = k.1; packet_is = refl; worked_off = antisym (good.within, all); at_end = refl })
        | inr less ↦
            let left : int (pos 0) <ℚ size u.card -ℚ done u = with2 (size u.card) (done u) (λ c. omega (arith, c.le, c.lt, c.same)) in
            let o = stretch_of S s (ok.rates s) (ok.gates s) u.last.end (size u.card -ℚ done u) good.from_zero left in
            none (Work s u.card.packet o.0 o.1 o.2)
            (h, inl record { under = u; is_under = k.1; packet_is = refl; not_done = less; stretch = o.3 })
      ])
]

-- ---- the ends of works only grow
busy_grows : (S : Setup) → IsSetup S → (r : RunState) (T : ℚ) → IsGood S r T → (x : Step) → IsDue S r x
    → (state_at r (server_of S.net x)).busy ≤ℚ next_busy (state_at r (server_of S.net x)).busy (seen S.net r.entered x)
busy_grows S ok r T g (Enter f p t b) h = le_refl (state_at r (first_server (route_of S.net f).hops)).busy
busy_grows S ok r T g (Reach s p t) h = le_refl (state_at r s).busy
busy_grows S ok r T g (Work s p a b w) h =
    let k = good_work_of S ok r.entered s (state_at r s) T p a b w (g.servers s h.0) h.1 in
    le_trans k.no_overlap (le_of_lt k.forward)
busy_grows S ok r T g (Leave s p t) h = le_refl (state_at r s).busy
busy_grows S ok r T g (Visit s q t) h = le_refl (state_at r s).busy

pub record Reaches (S : Setup) (r : RunState) (T end : ℚ) : Type 0 where
  pub time : T ≤ℚ end
  pub works : (s : ℕ) → s < length S.net.servers → (state_at r s).busy ≤ℚ end

pub reaches : (S : Setup) → IsSetup S → (xs : List Step) (r : RunState) (T : ℚ) → IsGood S r T → Follows S r xs → Reaches S r T (last_time T xs)
reaches S ok [] r T g none = record {
  time = le_refl T;
  works = λ s h. le_trans ((g.servers s h).idle (none_under S ok r T g none s h)) (g.servers s h).by_now;
}
reaches S ok (x ∷ xs) r T g f =
    let n = f.0 in
    let k = good_next S ok r T g x n in
    let rest = reaches S ok xs (next_run S.net r x) (step_time x) (good_from_step S r T x g n k) f.1 in
    record {
      time = le_trans (g.later x n.due) rest.time;
      works = λ s h. elim (cases_eq s (server_of S.net x)) [
        | inl e ↦
            let own = own_state S.net r x (omega (arith, k.known, g.many)) in
            let grown = busy_grows S ok r T g x n.due in
            subst (λ i. (state_at r i).busy ≤ℚ last_time (step_time x) xs) (sym e)
            (le_trans grown (subst (λ (σ : ServerState). σ.busy ≤ℚ last_time (step_time x) xs) own (rest.works (server_of S.net x) k.known)))
        | inr d ↦ subst (λ (σ : ServerState). σ.busy ≤ℚ last_time (step_time x) xs) (other_state S.net r x s d) (rest.works s h)
      ];
    }

-- ---- each step is allowed
in_time : (net : Routes) (entered : List Entry) (s : ℕ) (σ : ServerState) (T t end : ℚ) → IsGoodAt net entered s σ T → T ≤ℚ t → t ≤ℚ end → IsInTime end σ t
in_time net entered s σ T t end g l e = record { in_order = le_trans g.by_now l; in_run = e }

pub allowed : (S : Setup) → IsSetup S → (r : RunState) (T end : ℚ) → IsGood S r T → (x : Step) → IsNext S r x → IsGoodStep S r T x → step_time x ≤ℚ end
    → next_busy (state_at r (server_of S.net x)).busy (seen S.net r.entered x) ≤ℚ end → AllowsInRun S.net end r x
allowed S ok r T end g (Enter f p t b) n k e l =
    let h : IsEntering S r f p t b = n.due in
    let c = coming S ok r f p t b h in
    let s = first_server (route_of S.net f).hops in
    let entered : List Entry = r.entered ++ record { flow = f; bits = b } ∷ [] in
    record {
      known = record {
        in_turn = h.in_turn;
        is_live = subst (λ i. (route_of S.net i).live ≡ Rattle.std.proofs.Common.true) (sym h.flow_is) c.may.live;
        has_path = (first_passes (route_of S.net f).hops (subst (λ i. 1 ≤ length (route_of S.net i).hops) (sym h.flow_is) c.may.some_hop)).1;
      };
      known_server = k.known;
      at_server = (
        in_time S.net r.entered s (state_at r s) T t end (g.servers s k.known) (g.later (Enter f p t b) n.due) e,
        subst (λ (i : Entry). Rattle.run_laws.specs.Allows.MayArrive (server_at S.net s).discipline
            (let z : Card = record { packet = p; flow = i.flow; queue = Rattle.run_laws.specs.Routes.queue_at s (route_of S.net i.flow).hops; bits = i.bits } in z)) (sym c.entry)
            record { known_queue = c.place.known_queue; some_bits = c.is_entry.some_bits },
      );
    }
allowed S ok r T end g (Reach s p t) n k e l =
    let link = g.links record { packet = p; server = s; time = t } (contains_in r.due record { packet = p; server = s; time = t } n.due) in
    let entry = g.entries p link.entered_one in
    let place = place_of S.net s (hops_of S.net r.entered p) entry.hops link.passes in
    record {
      known = n.due;
      known_server = k.known;
      at_server = (
        in_time S.net r.entered s (state_at r s) T t end (g.servers s k.known) (g.later (Reach s p t) n.due) e,
        record { known_queue = place.known_queue; some_bits = entry.some_bits },
      );
    }
allowed S ok r T end g (Work s p a b w) n k e l =
    let due = n.due in
    let σ = state_at r s in
    let z = good_work_of S ok r.entered s σ T p a b w (g.servers s k.known) due.1 in
    let here : IsCardAt S.net r.entered s z.card = z.here in
    let same : z.card.packet ≡ p = ap (λ (c : Card). c.packet) z.card_is in
    record {
      known = record {
        has_entered = subst (λ q. q < length r.entered) same here.entered_one;
        passes = subst (λ q. PassesServer s (hops_of S.net r.entered q)) same here.passes;
      };
      known_server = k.known;
      at_server = (
        in_time S.net r.entered s σ T a end (g.servers s k.known) (g.later (Work s p a b w) n.due) e,
        subst (λ c. MayWork (server_at S.net s) end σ c a b w) z.card_is record {
          no_overlap = z.no_overlap;
          forward = z.forward;
          ends_in_run = l;
          some_work = z.some_work;
          in_pace = z.in_pace;
          is_next = z.next_one;
          within_bits = z.within;
        },
      );
    }
allowed S ok r T end g (Leave s p t) n k e l =
    let due = n.due in
    let y = due.1 in
    let σ = state_at r s in
    let u = y.under in
    let good = (g.servers s k.known).under u y.is_under in
    let card_is : u.card ≡ card_of S.net r.entered p s = good.card.is ∙ ap (λ q. card_of S.net r.entered q s) y.packet_is in
    record {
      known = record {
        has_entered = subst (λ q. q < length r.entered) y.packet_is good.card.entered_one;
        passes = subst (λ q. PassesServer s (hops_of S.net r.entered q)) y.packet_is good.card.passes;
      };
      known_server = k.known;
      at_server = (
        in_time S.net r.entered s σ T t end (g.servers s k.known) (g.later (Leave s p t) n.due) e,
        subst (λ o. MayLeave o (card_of S.net r.entered p s) t) (sym y.is_under)
            record { is_card = card_is; worked_off = y.worked_off ∙ ap size card_is; at_end = y.at_end },
      );
    }
allowed S ok r T end g (Visit s q t) n k e l =
    let due = n.due in
    record {
      known = tt;
      known_server = k.known;
      at_server = (in_time S.net r.entered s (state_at r s) T t end (g.servers s k.known) (g.later (Visit s q t) n.due) e, due.1.may);
    }

-- ---- the whole run
pub record IsDone (S : Setup) (r : RunState) (end : ℚ) (xs : List Step) : Type 0 where
  pub allowed_all : AllAllowedInRun S.net end r xs
  pub none_under_way : (s : ℕ) → s < length S.net.servers → (state_at (after_run S.net r xs) s).under ≡ None
  pub many : length (after_run S.net r xs).servers ≡ length S.net.servers
  pub none_due : (d : Due) → ¬ (In (after_run S.net r xs).due d)

pub done_all : (S : Setup) → IsSetup S → (xs : List Step) (r : RunState) (T : ℚ) → IsGood S r T → Follows S r xs → IsDone S r (last_time T xs) xs
done_all S ok [] r T g none = record {
  allowed_all = tt;
  none_under_way = none_under S ok r T g none;
  many = g.many;
  none_due = λ d i. none (Reach d.server d.packet d.time) (in_contains r.due d i);
}
done_all S ok (x ∷ xs) r T g f =
    let n = f.0 in
    let k = good_next S ok r T g x n in
    let good = good_from_step S r T x g n k in
    let r' = next_run S.net r x in
    let s = server_of S.net x in
    let rest = done_all S ok xs r' (step_time x) good f.1 in
    let far = reaches S ok xs r' (step_time x) good f.1 in
    let own = own_state S.net r x (omega (arith, k.known, g.many)) in
    record {
      allowed_all = (
        allowed S ok r T (last_time (step_time x) xs) g x n k far.time
            (subst (λ (σ : ServerState). σ.busy ≤ℚ last_time (step_time x) xs) own (far.works s k.known)),
        rest.allowed_all,
      );
      none_under_way = rest.none_under_way;
      many = rest.many;
      none_due = rest.none_due;
    }

pub simulated_is_lawful : (S : Setup) (run : SpecRun) → IsSetup S → IsSimulated S run → IsLawful S.net run
simulated_is_lawful S run ok sim =
    let zero_q = int (pos 0) in
    let r = run_start S.net in
    let d = done_all S ok run.steps r zero_q (good_start S ok) sim.follows in
    let final = after_run S.net r run.steps in
    record {
      allowed = subst (λ e. AllAllowedInRun S.net e r run.steps) (sym sim.ends) d.allowed_all;
      none_complete = All-from_get_or (λ (s : ServerState). ¬ IsComplete s.under) final.servers (start Fifo)
          (λ i h. subst (λ o. ¬ IsComplete o) (sym (d.none_under_way i (omega (arith, h, d.many)))) (λ c. c));
      none_overdue = λ i e h. absurd (d.none_due (get_or final.due i e) (at_in final.due i e (get_or final.due i e) h refl));
    }
