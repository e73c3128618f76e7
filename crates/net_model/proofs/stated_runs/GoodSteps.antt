-- Each step of a stated run leaves a good state.
use Rattle.std.proofs.Common.{◌≡◌, ℕ, ◌<◌, ◌≤◌, ◌+◌, ◌^◌, List, [], ◌∷◌, ◌++◌, length, refl, sym, ap, ◌∙◌, subst, arith, inl, inr, ◌⊎◌, Some, None}
use Rattle.std.specs.Prelude.{Option}
use Rattle.std.proofs.lemmas.Bool.{cases_eq}
use Rattle.std.proofs.lemmas.List.{get_or_push, length_push}
use Rattle.rational.specs.Rational.{ℚ, ◌+ℚ◌, ◌≤ℚ◌}
use Rattle.rational.proofs.Linear.{with2}
use Rattle.rational.proofs.Laws.{le_refl, le_of_lt}
use Rattle.run_laws.specs.declared.steps.Step.{Step}
use Rattle.run_laws.specs.declared.steps.Step.TheVariants.{Enter, Reach, Work, Leave, Visit}
use Rattle.run_laws.specs.Cards.{Arrives, Works, Leaves, Visits}
use Rattle.run_laws.specs.Servers.{Under, Span, done_so_far}
use Rattle.run_laws.specs.Next.{next}
use Rattle.run_laws.specs.Routes.{Routes, server_at, link_at, route_of, PassesServer, first_server, server_after}
use Rattle.run_laws.specs.Views.{Entry, entry_of, hops_of, card_of}
use Rattle.run_laws.specs.Lawful.{Due, RunState, sent, state_at, next_run}
use Rattle.net_model.specs.stated_runs.Setups.{Setup, packet_of, IsSetup, AreHopsOf, MayComeIn}
use Rattle.net_model.specs.stated_runs.DueSteps.{IsEntering, step_time}
use Rattle.net_model.specs.stated_runs.Simulated.{IsNext}
use Rattle.net_model.proofs.stated_runs.Lists.{In, in_either, contains_in, in_contains, in_without}
use Rattle.net_model.proofs.stated_runs.Routed.{IsPlace, place_of, first_passes, after_passes}
use Rattle.net_model.proofs.stated_runs.GoodServers.{extends_same, IsGoodAt, good_arrive, good_work, good_leave, good_visit}
use Rattle.net_model.proofs.stated_runs.GoodWork.{good_work_of}
use Rattle.net_model.proofs.stated_runs.Good.{IsEntry, IsOnLink, IsGood, IsGoodStep, later_same, later_under, later_none, extends_push}

-- ---- what is due elsewhere
reach_later : (S : Setup) (r : RunState) (x : Step) → IsNext S r x → (d : Due) → In r.due d → step_time x ≤ℚ d.time
reach_later S r x n d h = (n.first (Reach d.server d.packet d.time) (in_contains r.due d h)).no_later

enter_later : (S : Setup) (r r' : RunState) (x : Step) → IsNext S r x → r'.entered ≡ r.entered
    → (f p : ℕ) (t : ℚ) (b : ℕ) → IsEntering S r' f p t b → step_time x ≤ℚ t
enter_later S r r' x n same f p t b h =
    (n.first (Enter f p t b) record {
      in_turn = h.in_turn ∙ ap (λ (e : List Entry). length e) same;
      in_trace = h.in_trace;
      flow_is = h.flow_is;
      time_is = h.time_is;
      bits_are = h.bits_are;
    }).no_later

-- ---- a packet enters
pub record IsComing (S : Setup) (r : RunState) (f p b : ℕ) : Type 0 where
  pub entry : entry_of (r.entered ++ record { flow = f; bits = b } ∷ []) p ≡ record { flow = f; bits = b }
  pub is_entry : IsEntry S.net record { flow = f; bits = b }
  pub place : IsPlace S.net (first_server (route_of S.net f).hops) (Rattle.run_laws.specs.Routes.queue_at (first_server (route_of S.net f).hops) (route_of S.net f).hops)
  pub passes : PassesServer (first_server (route_of S.net f).hops) (route_of S.net f).hops
  pub may : MayComeIn S.net (packet_of S p)

pub coming : (S : Setup) → IsSetup S → (r : RunState) (f p : ℕ) (t : ℚ) (b : ℕ) → IsEntering S r f p t b → IsComing S r f p b
coming S ok r f p t b h =
    let may = ok.packets p h.in_trace in
    let hops : AreHopsOf S.net (route_of S.net f).hops = subst (λ i. AreHopsOf S.net (route_of S.net i).hops) (sym h.flow_is) may.hops in
    let some : 1 ≤ length (route_of S.net f).hops = subst (λ i. 1 ≤ length (route_of S.net i).hops) (sym h.flow_is) may.some_hop in
    let passes = (first_passes (route_of S.net f).hops some).0 in
    record {
      entry = get_or_push r.entered record { flow = f; bits = b } record { flow = 0; bits = 0 } p (sym h.in_turn);
      is_entry = record { hops = hops; some_bits = subst (λ i. 1 ≤ i) (sym h.bits_are) may.some_bits; few_bits = subst (λ i. i ≤ 2 ^ 32) (sym h.bits_are) may.few_bits };
      place = place_of S.net (first_server (route_of S.net f).hops) (route_of S.net f).hops hops passes;
      passes = passes;
      may = may;
    }

pub step_enter : (S : Setup) → IsSetup S → (r : RunState) (T : ℚ) → IsGood S r T → (f p : ℕ) (t : ℚ) (b : ℕ)
    → IsNext S r (Enter f p t b) → IsGoodStep S r T (Enter f p t b)
step_enter S ok r T g f p t b n =
    let h : IsEntering S r f p t b = n.due in
    let c = coming S ok r f p t b h in
    let s = first_server (route_of S.net f).hops in
    let e : Entry = record { flow = f; bits = b } in
    let entered : List Entry = r.entered ++ e ∷ [] in
    let long : length entered ≡ length r.entered + 1 = length_push r.entered e in
    let σ = state_at r s in
    let known = c.place.known_server in
    let forward : T ≤ℚ t = g.later (Enter f p t b) n.due in
    record {
      known = known;
      own = good_arrive S.net r.entered entered s (server_at S.net s).discipline σ T t (card_of S.net entered p s) (extends_push r.entered e)
          (g.servers s known) forward record {
            is = refl;
            entered_one = omega (arith, long, h.in_turn);
            passes = subst (λ (i : Entry). PassesServer s (route_of S.net i.flow).hops) (sym c.entry) c.passes;
          };
      entries = λ q l. elim (cases_eq q p) [
        | inl i ↦ subst (λ j. IsEntry S.net (entry_of entered j)) (sym i) (subst (λ (j : Entry). IsEntry S.net j) (sym c.entry) c.is_entry)
        | inr i ↦
            let old : q < length r.entered = omega (arith, l, long, h.in_turn, i) in
            subst (λ (j : Entry). IsEntry S.net j) (sym (extends_push r.entered e q old).1) (g.entries q old)
      ];
      links = λ d i. let k = g.links d i in let x = extends_push r.entered e d.packet k.entered_one in
          record { entered_one = x.0; passes = subst (λ (j : Entry). PassesServer d.server (route_of S.net j.flow).hops) (sym x.1) k.passes };
      later_own = later_same S s σ (next (server_at S.net s).discipline σ (Arrives (card_of S.net entered p s) t)) t refl refl
          (λ q u y. (n.first (Leave s q u) (known, y)).no_later) (λ q a v w y. (n.first (Work s q a v w) (known, inl y)).no_later);
      later_enter = λ f2 p2 t2 b2 y.
          let later : p ≤ p2 = omega (arith, y.in_turn, long, h.in_turn) in
          subst (λ u. u ≤ℚ t2) (sym h.time_is) (subst (λ u. (packet_of S p).time ≤ℚ u) (sym y.time_is) (ok.in_order p p2 later y.in_trace));
      later_reach = λ d i. reach_later S r (Enter f p t b) n d i;
    }

-- ---- a packet reaches a server
pub step_reach : (S : Setup) → IsSetup S → (r : RunState) (T : ℚ) → IsGood S r T → (s p : ℕ) (t : ℚ)
    → IsNext S r (Reach s p t) → IsGoodStep S r T (Reach s p t)
step_reach S ok r T g s p t n =
    let d0 : Due = record { packet = p; server = s; time = t } in
    let link = g.links d0 (contains_in r.due d0 n.due) in
    let place = place_of S.net s (hops_of S.net r.entered p) (g.entries p link.entered_one).hops link.passes in
    let σ = state_at r s in
    let forward : T ≤ℚ t = g.later (Reach s p t) n.due in
    record {
      known = place.known_server;
      own = good_arrive S.net r.entered r.entered s (server_at S.net s).discipline σ T t (card_of S.net r.entered p s) (extends_same r.entered)
          (g.servers s place.known_server) forward record { is = refl; entered_one = link.entered_one; passes = link.passes };
      entries = g.entries;
      links = λ d i. g.links d (in_without d0 r.due d i);
      later_own = later_same S s σ (next (server_at S.net s).discipline σ (Arrives (card_of S.net r.entered p s) t)) t refl refl
          (λ q u y. (n.first (Leave s q u) (place.known_server, y)).no_later) (λ q a v w y. (n.first (Work s q a v w) (place.known_server, inl y)).no_later);
      later_enter = enter_later S r (next_run S.net r (Reach s p t)) (Reach s p t) n refl;
      later_reach = λ d i. reach_later S r (Reach s p t) n d (in_without d0 r.due d i);
    }

-- ---- work
pub step_work : (S : Setup) → IsSetup S → (r : RunState) (T : ℚ) → IsGood S r T → (s p : ℕ) (a b w : ℚ)
    → IsNext S r (Work s p a b w) → IsGoodStep S r T (Work s p a b w)
step_work S ok r T g s p a b w n =
    let due = n.due in
    let known = due.0 in
    let σ = state_at r s in
    let d = (server_at S.net s).discipline in
    let k = good_work_of S ok r.entered s σ T p a b w (g.servers s known) due.1 in
    let c0 = card_of S.net r.entered p s in
    let forward : T ≤ℚ a = g.later (Work s p a b w) n.due in
    let last : Span = record { start = a; end = b; bits = w } in
    let now_under : Under = record { card = c0; before = done_so_far σ.under; last = last } in
    record {
      known = known;
      own = subst (λ c. IsGoodAt S.net r.entered s (next d σ (Works c a b w)) a) k.card_is
          (good_work S.net r.entered s d σ T a b w k.card (g.servers s known) forward k.forward k.here k.within);
      entries = g.entries;
      links = g.links;
      later_own = later_under S s (next d σ (Works c0 a b w)) a now_under refl refl (le_of_lt k.forward);
      later_enter = enter_later S r (next_run S.net r (Work s p a b w)) (Work s p a b w) n refl;
      later_reach = λ e i. reach_later S r (Work s p a b w) n e i;
    }

-- ---- a packet leaves
pub sent_in : (o : Option ℕ) (p : ℕ) (t : ℚ) (due : List Due) (d : Due) → In (sent o p t due) d
    → In due d ⊎ ((g : ℕ) × (o ≡ Some g) × ((let e : Due = record { packet = p; server = g; time = t } in e) ≡ d))
sent_in None p t due d h = inl h
sent_in (Some g) p t due d h = elim (in_either due record { packet = p; server = g; time = t } d h) [ inl i ↦ inl i | inr e ↦ inr (g, refl, e) ]

pub step_leave : (S : Setup) → IsSetup S → (r : RunState) (T : ℚ) → IsGood S r T → (s p : ℕ) (t : ℚ)
    → IsNext S r (Leave s p t) → IsGoodStep S r T (Leave s p t)
step_leave S ok r T g s p t n =
    let due = n.due in
    let known = due.0 in
    let y = due.1 in
    let σ = state_at r s in
    let d = (server_at S.net s).discipline in
    let here = g.servers s known in
    let under = here.under y.under y.is_under in
    let forward : T ≤ℚ t = g.later (Leave s p t) n.due in
    let entered_one : p < length r.entered = subst (λ q. q < length r.entered) y.packet_is under.card.entered_one in
    let o = server_after s (hops_of S.net r.entered p) in
    let after_it : t ≤ℚ t +ℚ link_at S.net s = let l = ok.links s in with2 t (link_at S.net s) (λ c. omega (arith, c.le, c.lt, c.same)) in
    record {
      known = known;
      own = good_leave S.net r.entered s d σ T t (card_of S.net r.entered p s) here forward
          (subst (λ u. u ≤ℚ t) (sym (under.at_end ∙ sym y.at_end)) (le_refl t));
      entries = g.entries;
      links = λ e i. elim (sent_in o p (t +ℚ link_at S.net s) r.due e i) [
        | inl k ↦ g.links e k
        | inr k ↦ subst (λ (x : Due). IsOnLink S.net r.entered x) k.2
            record { entered_one = entered_one; passes = after_passes s k.0 (hops_of S.net r.entered p) k.1 }
      ];
      later_own = later_none S s (next d σ (Leaves (card_of S.net r.entered p s) t)) t refl refl;
      later_enter = enter_later S r (next_run S.net r (Leave s p t)) (Leave s p t) n refl;
      later_reach = λ e i. elim (sent_in o p (t +ℚ link_at S.net s) r.due e i) [
        | inl k ↦ reach_later S r (Leave s p t) n e k
        | inr k ↦ subst (λ (x : Due). t ≤ℚ x.time) k.2 after_it
      ];
    }

-- ---- a server turns to a queue
pub step_visit : (S : Setup) → IsSetup S → (r : RunState) (T : ℚ) → IsGood S r T → (s q : ℕ) (t : ℚ)
    → IsNext S r (Visit s q t) → IsGoodStep S r T (Visit s q t)
step_visit S ok r T g s q t n =
    let due = n.due in
    let known = due.0 in
    let σ = state_at r s in
    let d = (server_at S.net s).discipline in
    let forward : T ≤ℚ t = g.later (Visit s q t) n.due in
    record {
      known = known;
      own = good_visit S.net r.entered s d σ T t q (g.servers s known) forward;
      entries = g.entries;
      links = g.links;
      later_own = later_same S s σ (next d σ (Visits q t)) t refl refl
          (λ p u y. (n.first (Leave s p u) (known, y)).no_later) (λ p a v w y. (n.first (Work s p a v w) (known, inl y)).no_later);
      later_enter = enter_later S r (next_run S.net r (Visit s q t)) (Visit s q t) n refl;
      later_reach = λ e i. reach_later S r (Visit s q t) n e i;
    }

pub good_next : (S : Setup) → IsSetup S → (r : RunState) (T : ℚ) → IsGood S r T → (x : Step) → IsNext S r x → IsGoodStep S r T x
good_next S ok r T g (Enter f p t b) n = step_enter S ok r T g f p t b n
good_next S ok r T g (Reach s p t) n = step_reach S ok r T g s p t n
good_next S ok r T g (Work s p a b w) n = step_work S ok r T g s p a b w n
good_next S ok r T g (Leave s p t) n = step_leave S ok r T g s p t n
good_next S ok r T g (Visit s q t) n = step_visit S ok r T g s q t n
