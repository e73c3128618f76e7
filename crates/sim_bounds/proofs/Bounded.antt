-- What holds of the times of a state of a stated run, and how each step keeps it.
use Rattle.std.proofs.Common.{◌≡◌, ℕ, suc, ◌<◌, ◌≤◌, ◌+◌, List, [], ◌∷◌, ◌++◌, length, set, drop, refl, sym, ap, ◌∙◌, subst, arith, inl, inr, ◌⊎◌, Some, None}
use Rattle.std.specs.Prelude.{Option, pos, ◌≢◌}
use Rattle.std.proofs.lemmas.Bool.{cases_eq}
use Rattle.std.proofs.lemmas.List.{get_or-map, length_push, get_or_push}
use Rattle.rational.specs.Rational.{ℚ, int, ◌+ℚ◌, ◌-ℚ◌, ◌*ℚ◌, ◌/ℚ◌, ◌≤ℚ◌}
use Rattle.rational.specs.MinMax.{max_q}
use Rattle.rational.proofs.Linear.{with2, with3, with4, with7}
use Rattle.rational.proofs.Laws.{le_trans}
use Rattle.rational.proofs.Quotients.{div_nonneg}
use Rattle.rational.proofs.MinMax.{max_q_ge_left, max_q_ge_right}
use Rattle.run_laws.specs.declared.steps.Step.{Step}
use Rattle.run_laws.specs.declared.steps.Step.TheVariants.{Enter, Reach, Work, Leave, Visit}
use Rattle.run_laws.specs.Cards.{Card, whole, size, Arrives, Works, Leaves, Visits}
use Rattle.run_laws.specs.Servers.{Discipline, Fifo, Server, Under, ServerState, done, done_so_far, head_of, start}
use Rattle.run_laws.specs.Next.{next}
use Rattle.run_laws.specs.Allows.{next_card}
use Rattle.run_laws.specs.Routes.{Routes, server_at, link_at, route_of, PassesServer, first_server, server_after}
use Rattle.run_laws.specs.Views.{Entry, entry_of, hops_of, card_of, entered_after, server_of, seen}
use Rattle.run_laws.specs.Lawful.{Due, RunState, state_at, next_run, run_start}
use Rattle.run_laws.proofs.Heads.{head_push, pick_is_head, same_some}
use Rattle.run_laws.proofs.Sizes.{whole_le}
use Rattle.net_model.specs.stated_runs.Setups.{Setup, IsSetup, IsFirstOpen, IsStretch, opening_of, packet_of, rate_of}
use Rattle.net_model.specs.stated_runs.DueSteps.{IsLeaving, IsResumed, IsStarted, IsEntering, IsDue}
use Rattle.net_model.proofs.stated_runs.Lists.{In, in_without, contains_in}
use Rattle.net_model.proofs.stated_runs.GoodServers.{IsCardAt}
use Rattle.net_model.proofs.stated_runs.Good.{IsGood, own_state, other_state, extends_push}
use Rattle.net_model.proofs.stated_runs.GoodWork.{good_work_of}
use Rattle.net_model.proofs.stated_runs.GoodSteps.{coming}
use Rattle.sim_bounds.specs.Horizons.{path_bits, bits_through, load, IsRising, IsForward}
use Rattle.sim_bounds.proofs.OpenTime.{open_time}
use Rattle.sim_bounds.proofs.Spans.{come_by, left_by, enters_by, first_nonneg, first_is_first, next_later}
use Rattle.sim_bounds.proofs.Ahead.{bits_from, bits_after, from_first, from_own, after_later, leave_other, leave_own}
use Rattle.sim_bounds.proofs.AheadSums.{card_bits, bits_inside, bits_in_servers, bits_on_links, ahead, inside_push, inside_without, servers_set, servers_at, servers_start, links_without, links_sent, links_extend, through_drop}
use Rattle.sim_bounds.proofs.Levels.{IsLevel, IsLate, clock, clock_of, level_start, level_arrive, level_work, level_leave, level_visit, in_span}
pub use Rattle.run_laws.proofs.Rounds.{visit_idle as idle_of}
pub use Rattle.net_model.proofs.stated_runs.GoodSteps.{sent_in}

pub record IsBounded (S : Setup) (place : ℕ → ℕ) (r : RunState) : Type 0 where
  pub rising : (p : ℕ) → p < length r.entered → IsRising place (hops_of S.net r.entered p)
  pub heads : (s : ℕ) → s < length S.net.servers → (u : Under) → (state_at r s).under ≡ Some u → head_of u.card.queue (state_at r s).inside ≡ Some u.card
  pub levels : (s : ℕ) → s < length S.net.servers → IsLevel S (come_by S place s) s (state_at r s) (ahead S r s)
  pub links : (d : Due) → In r.due d → d.time ≤ℚ come_by S place d.server

pub late_at : (S : Setup) (place : ℕ → ℕ) → IsSetup S → IsForward S place → (s : ℕ) → IsLate S (come_by S place s)
late_at S place ok f s = record { ok = ok; after_first = first_is_first S place ok f s }

-- ---- what is ahead, after a step
inside_at : (net : Routes) (s i : ℕ) (cs : List Card) → bits_inside net s (0 + i) cs ≡ bits_inside net s i cs
inside_at net s i cs = ap (λ k. bits_inside net s k cs) (let e : 0 + i ≡ i = omega arith in e)

servers_next : (S : Setup) (r : RunState) (s i : ℕ) (τ : ServerState) → i < length r.servers
    → bits_in_servers S.net s 0 (set r.servers i τ) + bits_inside S.net s i (state_at r i).inside ≡ bits_in_servers S.net s 0 r.servers + bits_inside S.net s i τ.inside
servers_next S r s i τ h =
    let a = servers_set S.net s 0 r.servers i τ (start Fifo) h in
    let b = inside_at S.net s i (state_at r i).inside in
    let c = inside_at S.net s i τ.inside in
    omega (arith, a, b, c)

-- the bits of a packet that is inside are ahead of its server
pub inside_ahead : (S : Setup) (r : RunState) (s q : ℕ) (c : Card) → s < length r.servers → IsCardAt S.net r.entered s c → head_of q (state_at r s).inside ≡ Some c
    → c.bits ≤ ahead S r s
inside_ahead S r s q c h k e =
    let flow : c.flow ≡ (entry_of r.entered c.packet).flow = ap (λ (x : Card). x.flow) k.is in
    let passes : PassesServer s (route_of S.net c.flow).hops = subst (λ i. PassesServer s (route_of S.net i).hops) (sym flow) k.passes in
    let own : card_bits S.net s s c ≡ c.bits = from_own s (route_of S.net c.flow).hops c.bits passes in
    let one = inside_without S.net s s q (state_at r s).inside c e in
    let all = servers_at S.net s 0 r.servers s (start Fifo) h in
    let at = inside_at S.net s s (state_at r s).inside in
    omega (arith, own, one, all, at)

ahead_enter : (S : Setup) (place : ℕ → ℕ) → IsSetup S → (r : RunState) (T : ℚ) → IsGood S r T → (f p : ℕ) (t : ℚ) (b : ℕ) → IsEntering S r f p t b
    → first_server (route_of S.net f).hops < length r.servers → (s : ℕ) → ahead S (next_run S.net r (Enter f p t b)) s ≡ ahead S r s
ahead_enter S place ok r T g f p t b h known s =
    let net = S.net in
    let hops = (route_of net f).hops in
    let i = first_server hops in
    let e : Entry = record { flow = f; bits = b } in
    let entered : List Entry = r.entered ++ e ∷ [] in
    let c = card_of net entered p i in
    let entry : entry_of entered p ≡ e = get_or_push r.entered e record { flow = 0; bits = 0 } p (sym h.in_turn) in
    let own : card_bits net s i c ≡ path_bits s hops b =
    ap (λ (x : Entry). bits_from s i (route_of net x.flow).hops x.bits) entry ∙ from_first s hops b in
    let long : length entered ≡ suc p = length_push r.entered e ∙ omega (arith, h.in_turn) in
    let first : bits_through net s (drop p S.packets) ≡ path_bits s (route_of net (packet_of S p).flow).hops (packet_of S p).bits + bits_through net s (drop (suc p) S.packets) =
    through_drop net s p S.packets record { flow = 0; bits = 0; time = int (pos 0) } h.in_trace in
    let same : path_bits s (route_of net (packet_of S p).flow).hops (packet_of S p).bits ≡ path_bits s hops b =
    ap (λ k. path_bits s (route_of net k).hops (packet_of S p).bits) (sym h.flow_is) ∙ ap (path_bits s hops) (sym h.bits_are) in
    let before : bits_through net s (drop (length r.entered) S.packets) ≡ bits_through net s (drop p S.packets) = ap (λ k. bits_through net s (drop k S.packets)) (sym h.in_turn) in
    let after : bits_through net s (drop (length entered) S.packets) ≡ bits_through net s (drop (suc p) S.packets) = ap (λ k. bits_through net s (drop k S.packets)) long in
    let servers = servers_next S r s i (next (server_at net i).discipline (state_at r i) (Arrives c t)) known in
    let push = inside_push net s i (state_at r i).inside c in
    let links : bits_on_links net entered s r.due ≡ bits_on_links net r.entered s r.due =
    links_extend net r.entered entered s r.due (λ d k. (extends_push r.entered e d.packet (g.links d k).entered_one).1) in
    omega (arith, own, first, same, before, after, servers, push, links)

ahead_reach : (S : Setup) (r : RunState) (j p : ℕ) (t : ℚ) → In r.due record { packet = p; server = j; time = t } → j < length r.servers → (s : ℕ)
    → ahead S (next_run S.net r (Reach j p t)) s ≡ ahead S r s
ahead_reach S r j p t h known s =
    let net = S.net in
    let c = card_of net r.entered p j in
    let servers = servers_next S r s j (next (server_at net j).discipline (state_at r j) (Arrives c t)) known in
    let push = inside_push net s j (state_at r j).inside c in
    let links = links_without net r.entered s record { packet = p; server = j; time = t } r.due h in
    omega (arith, servers, push, links)

ahead_work : (S : Setup) (r : RunState) (j p : ℕ) (a b w : ℚ) → j < length r.servers → (s : ℕ) → ahead S (next_run S.net r (Work j p a b w)) s ≡ ahead S r s
ahead_work S r j p a b w known s =
    let servers = servers_next S r s j (next (server_at S.net j).discipline (state_at r j) (Works (card_of S.net r.entered p j) a b w)) known in
    omega (arith, servers)

ahead_visit : (S : Setup) (r : RunState) (j q : ℕ) (t : ℚ) → j < length r.servers → (s : ℕ) → ahead S (next_run S.net r (Visit j q t)) s ≡ ahead S r s
ahead_visit S r j q t known s =
    let servers = servers_next S r s j (next (server_at S.net j).discipline (state_at r j) (Visits q t)) known in
    omega (arith, servers)

-- a packet that leaves
pub record IsGone (S : Setup) (r : RunState) (j p : ℕ) (t : ℚ) : Type 0 where
  pub under : Under
  pub is_under : (state_at r j).under ≡ Some under
  pub card_is : under.card ≡ card_of S.net r.entered p j
  pub worked_off : done under ≡ size under.card
  pub at_end : t ≡ under.last.end
  pub is_head : head_of (card_of S.net r.entered p j).queue (state_at r j).inside ≡ Some (card_of S.net r.entered p j)
  pub passes : PassesServer j (hops_of S.net r.entered p)
  pub has_entered : p < length r.entered

gone_of : (S : Setup) (place : ℕ → ℕ) (r : RunState) (T : ℚ) → IsGood S r T → IsBounded S place r → (j p : ℕ) (t : ℚ) → j < length S.net.servers → IsLeaving (state_at r j) p t
    → IsGone S r j p t
gone_of S place r T g b j p t known y =
    let u = y.under in
    let good = (g.servers j known).under u y.is_under in
    let card_is : u.card ≡ card_of S.net r.entered p j = good.card.is ∙ ap (λ q. card_of S.net r.entered q j) y.packet_is in
    record {
      under = u;
      is_under = y.is_under;
      card_is = card_is;
      worked_off = y.worked_off;
      at_end = y.at_end;
      is_head = subst (λ (c : Card). head_of c.queue (state_at r j).inside ≡ Some c) card_is (b.heads j known u y.is_under);
      passes = subst (λ q. PassesServer j (hops_of S.net r.entered q)) y.packet_is good.card.passes;
      has_entered = subst (λ q. q < length r.entered) y.packet_is good.card.entered_one;
    }

leave_sum : (S : Setup) (r : RunState) (j p : ℕ) (t : ℚ) → IsGone S r j p t → j < length r.servers → (s : ℕ)
    → ahead S (next_run S.net r (Leave j p t)) s + card_bits S.net s j (card_of S.net r.entered p j)
    ≡ ahead S r s + bits_after s (server_after j (hops_of S.net r.entered p)) (hops_of S.net r.entered p) (entry_of r.entered p).bits
leave_sum S r j p t y known s =
    let net = S.net in
    let c = card_of net r.entered p j in
    let servers = servers_next S r s j (next (server_at net j).discipline (state_at r j) (Leaves c t)) known in
    let gone = inside_without net s j c.queue (state_at r j).inside c y.is_head in
    let links = links_sent net r.entered s (server_after j (hops_of net r.entered p)) p (t +ℚ link_at net j) r.due in
    omega (arith, servers, gone, links)

ahead_leave : (S : Setup) (place : ℕ → ℕ) (r : RunState) (j p : ℕ) (t : ℚ) → IsBounded S place r → IsGone S r j p t → j < length r.servers → (s : ℕ) → j ≢ s
    → ahead S (next_run S.net r (Leave j p t)) s ≡ ahead S r s
ahead_leave S place r j p t b y known s n =
    let sum = leave_sum S r j p t y known s in
    let same = leave_other place s j (hops_of S.net r.entered p) (entry_of r.entered p).bits (b.rising p y.has_entered) n in
    omega (arith, sum, same)

own_leave : (S : Setup) (place : ℕ → ℕ) (r : RunState) (j p : ℕ) (t : ℚ) → IsBounded S place r → (y : IsGone S r j p t) → j < length r.servers
    → ahead S (next_run S.net r (Leave j p t)) j + y.under.card.bits ≡ ahead S r j
own_leave S place r j p t b y known =
    let hops = hops_of S.net r.entered p in
    let bits = (entry_of r.entered p).bits in
    let sum = leave_sum S r j p t y known j in
    let none : bits_after j (server_after j hops) hops bits ≡ 0 = leave_own place j hops bits (b.rising p y.has_entered) in
    let own : card_bits S.net j j (card_of S.net r.entered p j) ≡ bits = from_own j hops bits y.passes in
    let card : y.under.card.bits ≡ bits = ap (λ (c : Card). c.bits) y.card_is in
    omega (arith, sum, none, own, card)

-- ---- what is done is not more than what is ahead
pub left_over : (S : Setup) (place : ℕ → ℕ) (r : RunState) (T : ℚ) → IsGood S r T → IsBounded S place r → (s : ℕ) → s < length S.net.servers → (u : Under)
    → (state_at r s).under ≡ Some u → size u.card -ℚ done u ≤ℚ whole (ahead S r s) -ℚ done_so_far (state_at r s).under
left_over S place r T g b s known u e =
    let good = (g.servers s known).under u e in
    let few = inside_ahead S r s u.card.queue u.card (omega (arith, known, g.many)) good.card (b.heads s known u e) in
    let most = whole_le u.card.bits (ahead S r s) few in
    let so_far : done_so_far (state_at r s).under ≡ done u = ap done_so_far e in
    with4 (size u.card) (done u) (whole (ahead S r s)) (done_so_far (state_at r s).under) (λ c. omega (arith, c.le, c.lt, c.same))

-- the end of the last work, and what is left to work on the packet after it, are in the server's span
record UnderInSpan (S : Setup) (place : ℕ → ℕ) (s : ℕ) (u : Under) (m : ℚ) : Type 0 where
  from_zero : int (pos 0) ≤ℚ m
  late : u.last.end ≤ℚ m
  some_left : int (pos 0) ≤ℚ (size u.card -ℚ done u) /ℚ rate_of S s
  in_span : m +ℚ (size u.card -ℚ done u) /ℚ rate_of S s ≤ℚ left_by S place s

under_in_span : (S : Setup) (place : ℕ → ℕ) → IsSetup S → IsForward S place → (r : RunState) (T : ℚ) → IsGood S r T → IsBounded S place r
    → (s : ℕ) → s < length S.net.servers → (u : Under) → (state_at r s).under ≡ Some u → UnderInSpan S place s u (max_q (come_by S place s) (clock (state_at r s)))
under_in_span S place ok f r T g b s known u e =
    let A = come_by S place s in
    let l = late_at S place ok f s in
    let σ = state_at r s in
    let level = (b.levels s known).level in
    let good = (g.servers s known).under u e in
    let over = left_over S place r T g b s known u e in
    let within = good.within in
    let time = open_time (opening_of S s).gate in
    let m = max_q A (clock σ) in
    let left = size u.card -ℚ done u in
    let zero_m : int (pos 0) ≤ℚ m = le_trans (le_trans (first_nonneg S) l.after_first) (max_q_ge_left A (clock σ)) in
    let some : int (pos 0) ≤ℚ left = with2 (size u.card) (done u) (λ c. omega (arith, c.le, c.lt, c.same)) in
    let rest : rate_of S s *ℚ time m +ℚ left ≤ℚ rate_of S s *ℚ time A +ℚ whole (load S s) =
    with7 (rate_of S s *ℚ time m) (rate_of S s *ℚ time A) (whole (load S s)) (whole (ahead S r s)) (done_so_far σ.under) (size u.card) (done u) (λ c. omega (arith, c.le, c.lt, c.same)) in
    let is : clock σ ≡ u.last.end = ap (λ o. clock_of o σ.now) e in
    record {
      from_zero = zero_m;
      late = subst (λ x. x ≤ℚ m) is (max_q_ge_right A (clock σ));
      some_left = div_nonneg left (rate_of S s) (ok.rates s) some;
      in_span = in_span S A s m left l zero_m some rest;
    }

pub clock_in_time : (S : Setup) (place : ℕ → ℕ) → IsSetup S → IsForward S place → (r : RunState) (T : ℚ) → IsGood S r T → IsBounded S place r
    → (s : ℕ) → s < length S.net.servers → (u : Under) → (state_at r s).under ≡ Some u → u.last.end ≤ℚ left_by S place s
clock_in_time S place ok f r T g b s known u e =
    let k = under_in_span S place ok f r T g b s known u e in
    let late = k.late in
    let some = k.some_left in
    let all = k.in_span in
    with4 (max_q (come_by S place s) (clock (state_at r s))) u.last.end ((size u.card -ℚ done u) /ℚ rate_of S s) (left_by S place s) (λ c. omega (arith, c.le, c.lt, c.same))

pub left_in_time : (S : Setup) (place : ℕ → ℕ) → IsSetup S → IsForward S place → (r : RunState) (T : ℚ) → IsGood S r T → IsBounded S place r
    → (s : ℕ) → s < length S.net.servers → (u : Under) → (state_at r s).under ≡ Some u
    → (int (pos 0) ≤ℚ (size u.card -ℚ done u) /ℚ rate_of S s) × ((size u.card -ℚ done u) /ℚ rate_of S s ≤ℚ left_by S place s)
left_in_time S place ok f r T g b s known u e =
    let k = under_in_span S place ok f r T g b s known u e in
    let zero = k.from_zero in
    let all = k.in_span in
    (k.some_left, with3 (max_q (come_by S place s) (clock (state_at r s))) ((size u.card -ℚ done u) /ℚ rate_of S s) (left_by S place s) (λ c. omega (arith, c.le, c.lt, c.same)))

-- ---- at first
pub bounded_start : (S : Setup) (place : ℕ → ℕ) → IsSetup S → IsForward S place → IsBounded S place (run_start S.net)
bounded_start S place ok f =
    let r = run_start S.net in
    let at : (s : ℕ) → s < length S.net.servers → state_at r s ≡ start (server_at S.net s).discipline =
    λ s h. get_or-map (λ (t : Server). start t.discipline) S.net.servers s record { discipline = Fifo; pace = None } (start Fifo) h in
    record {
      rising = λ p h. absurd (omega (arith, h));
      heads = λ s h u e. absurd (let f : None ≡ Some u = sym (ap (λ (σ : ServerState). σ.under) (at s h)) ∙ e in cc);
      levels = λ s h.
          let l = late_at S place ok f s in
          let none = servers_start S.net s 0 S.net.servers in
          level_start S (come_by S place s) s (state_at r s) (ahead S r s) l (ap (λ (σ : ServerState). σ.under) (at s h))
          (subst (λ x. x ≤ℚ come_by S place s) (sym (ap (λ (σ : ServerState). σ.now) (at s h))) (le_trans (first_nonneg S) l.after_first))
          (omega (arith, none));
      links = λ d i. absurd i;
    }

-- ---- what each kind of step has to show
record KeepsBounds (S : Setup) (place : ℕ → ℕ) (r : RunState) (x : Step) : Type 0 where
  rising : (p : ℕ) → p < length (entered_after r.entered x) → IsRising place (hops_of S.net (entered_after r.entered x) p)
  own_head : (u : Under) → (next (server_at S.net (server_of S.net x)).discipline (state_at r (server_of S.net x)) (seen S.net r.entered x)).under ≡ Some u
      → head_of u.card.queue (next (server_at S.net (server_of S.net x)).discipline (state_at r (server_of S.net x)) (seen S.net r.entered x)).inside ≡ Some u.card
  own_level : IsLevel S (come_by S place (server_of S.net x)) (server_of S.net x)
      (next (server_at S.net (server_of S.net x)).discipline (state_at r (server_of S.net x)) (seen S.net r.entered x)) (ahead S (next_run S.net r x) (server_of S.net x))
  others : (s : ℕ) → server_of S.net x ≢ s → ahead S (next_run S.net r x) s ≡ ahead S r s
  links : (d : Due) → In (next_run S.net r x).due d → d.time ≤ℚ come_by S place d.server

bounded_from : (S : Setup) (place : ℕ → ℕ) (r : RunState) (x : Step) → server_of S.net x < length r.servers → IsBounded S place r → KeepsBounds S place r x
    → IsBounded S place (next_run S.net r x)
bounded_from S place r x known b k =
    let i = server_of S.net x in
    let r' = next_run S.net r x in
    let own = own_state S.net r x known in
    record {
      rising = k.rising;
      heads = λ s h u e. elim (cases_eq s i) [
        | inl j ↦
            let same : state_at r' s ≡ next (server_at S.net i).discipline (state_at r i) (seen S.net r.entered x) = ap (state_at r') j ∙ own in
            subst (λ (σ : ServerState). head_of u.card.queue σ.inside ≡ Some u.card) (sym same) (k.own_head u (sym (ap (λ (σ : ServerState). σ.under) same) ∙ e))
        | inr n ↦
            let same = other_state S.net r x s n in
            subst (λ (σ : ServerState). head_of u.card.queue σ.inside ≡ Some u.card) (sym same) (b.heads s h u (sym (ap (λ (σ : ServerState). σ.under) same) ∙ e))
      ];
      levels = λ s h. elim (cases_eq s i) [
        | inl j ↦ subst (λ m. IsLevel S (come_by S place m) m (state_at r' m) (ahead S r' m)) (sym j)
            (subst (λ σ. IsLevel S (come_by S place i) i σ (ahead S r' i)) (sym own) k.own_level)
        | inr n ↦ subst (λ σ. IsLevel S (come_by S place s) s σ (ahead S r' s)) (sym (other_state S.net r x s n))
            (subst (λ m. IsLevel S (come_by S place s) s (state_at r s) m) (sym (k.others s (λ e. n (sym e)))) (b.levels s h))
      ];
      links = k.links;
    }

-- ---- a packet enters
bounds_enter : (S : Setup) (place : ℕ → ℕ) → IsSetup S → IsForward S place → (r : RunState) (T : ℚ) → IsGood S r T → IsBounded S place r
    → (f p : ℕ) (t : ℚ) (b : ℕ) → IsEntering S r f p t b → KeepsBounds S place r (Enter f p t b)
bounds_enter S place ok fw r T g h f p t b y =
    let c = coming S ok r f p t b y in
    let i = first_server (route_of S.net f).hops in
    let e : Entry = record { flow = f; bits = b } in
    let entered : List Entry = r.entered ++ e ∷ [] in
    let known = c.place.known_server in
    let long : length entered ≡ length r.entered + 1 = length_push r.entered e in
    let same = ahead_enter S place ok r T g f p t b y (omega (arith, known, g.many)) in
    let early : t ≤ℚ come_by S place i =
    subst (λ u. u ≤ℚ come_by S place i) (sym y.time_is) (le_trans (enters_by S p y.in_trace) (first_is_first S place ok fw i)) in
    record {
      rising = λ q l. elim (cases_eq q p) [
        | inl j ↦
            let own : IsRising place (route_of S.net f).hops = subst (λ k. IsRising place (route_of S.net k).hops) (sym y.flow_is) (fw.rising p y.in_trace) in
            subst (λ k. IsRising place (hops_of S.net entered k)) (sym j) (subst (λ (k : Entry). IsRising place (route_of S.net k.flow).hops) (sym c.entry) own)
        | inr n ↦
            let old : q < length r.entered = omega (arith, l, long, y.in_turn, n) in
            subst (λ (k : Entry). IsRising place (route_of S.net k.flow).hops) (sym (extends_push r.entered e q old).1) (h.rising q old)
      ];
      own_head = λ u k. head_push u.card.queue u.card (card_of S.net entered p i) (state_at r i).inside (h.heads i known u k);
      own_level = level_arrive S (come_by S place i) i (server_at S.net i).discipline (state_at r i) (ahead S (next_run S.net r (Enter f p t b)) i) (card_of S.net entered p i) t (late_at S place ok fw i) early
          (subst (λ m. IsLevel S (come_by S place i) i (state_at r i) m) (sym (same i)) (h.levels i known));
      others = λ s n. same s;
      links = h.links;
    }

-- ---- a packet reaches a server
bounds_reach : (S : Setup) (place : ℕ → ℕ) → IsSetup S → IsForward S place → (r : RunState) (T : ℚ) → IsGood S r T → IsBounded S place r
    → (i p : ℕ) (t : ℚ) → In r.due record { packet = p; server = i; time = t } → i < length S.net.servers → KeepsBounds S place r (Reach i p t)
bounds_reach S place ok fw r T g h i p t y known =
    let d0 : Due = record { packet = p; server = i; time = t } in
    let same = ahead_reach S r i p t y (omega (arith, known, g.many)) in
    record {
      rising = h.rising;
      own_head = λ u k. head_push u.card.queue u.card (card_of S.net r.entered p i) (state_at r i).inside (h.heads i known u k);
      own_level = level_arrive S (come_by S place i) i (server_at S.net i).discipline (state_at r i) (ahead S (next_run S.net r (Reach i p t)) i) (card_of S.net r.entered p i) t (late_at S place ok fw i) (h.links d0 y)
          (subst (λ m. IsLevel S (come_by S place i) i (state_at r i) m) (sym (same i)) (h.levels i known));
      others = λ s n. same s;
      links = λ d k. h.links d (in_without d0 r.due d k);
    }

-- ---- work
-- work goes on from the time up to which the server's state is known
pub record IsStretchOf (S : Setup) (s : ℕ) (σ : ServerState) (a b w : ℚ) : Type 0 where
  pub left : ℚ
  pub stretch : IsStretch S s (clock σ) left a b w

pub stretch_from : (S : Setup) (s : ℕ) (σ : ServerState) (p : ℕ) (a b w : ℚ) → (IsResumed S s σ p a b w) ⊎ (IsStarted S s σ p a b w) → IsStretchOf S s σ a b w
stretch_from S s σ p a b w (inl y) = record {
  left = size y.under.card -ℚ done y.under;
  stretch = subst (λ x. IsStretch S s x (size y.under.card -ℚ done y.under) a b w) (sym (ap (λ o. clock_of o σ.now) y.is_under)) y.stretch;
}
stretch_from S s σ p a b w (inr y) = record {
  left = size y.card;
  stretch = subst (λ x. IsStretch S s x (size y.card) a b w) (sym (ap (λ o. clock_of o σ.now) y.idle)) y.stretch;
}

pub next_head : (d : Discipline) (σ : ServerState) (c : Card) → ((u : Under) → σ.under ≡ Some u → head_of u.card.queue σ.inside ≡ Some u.card)
    → (o : Option Under) → σ.under ≡ o → next_card o d σ.inside σ.round ≡ Some c → head_of c.queue σ.inside ≡ Some c
next_head d σ c h None e n = pick_is_head d σ.inside σ.round c n
next_head d σ c h (Some u) e n = subst (λ (x : Card). head_of x.queue σ.inside ≡ Some x) (same_some u.card c n) (h u e)

bounds_work : (S : Setup) (place : ℕ → ℕ) → IsSetup S → IsForward S place → (r : RunState) (T : ℚ) → IsGood S r T → IsBounded S place r
    → (i p : ℕ) (a b w : ℚ) → IsDue S r (Work i p a b w) → KeepsBounds S place r (Work i p a b w)
bounds_work S place ok fw r T g h i p a b w due =
    let known = due.0 in
    let σ = state_at r i in
    let d = (server_at S.net i).discipline in
    let z = good_work_of S ok r.entered i σ T p a b w (g.servers i known) due.1 in
    let c = card_of S.net r.entered p i in
    let first : head_of c.queue σ.inside ≡ Some c = subst (λ (x : Card). head_of x.queue σ.inside ≡ Some x) z.card_is (next_head d σ z.card (h.heads i known) σ.under refl z.next_one) in
    let k = stretch_from S i σ p a b w due.1 in
    let same = ahead_work S r i p a b w (omega (arith, known, g.many)) in
    record {
      rising = h.rising;
      own_head = λ u e.
          let now : Under = record { card = c; before = done_so_far σ.under; last = record { start = a; end = b; bits = w } } in
          let f : now ≡ u = same_some now u e in
          subst (λ (v : Under). head_of v.card.queue σ.inside ≡ Some v.card) f first;
      own_level = level_work S (come_by S place i) i d σ (ahead S (next_run S.net r (Work i p a b w)) i) c k.left a b w (late_at S place ok fw i) k.stretch
          (subst (λ m. IsLevel S (come_by S place i) i σ m) (sym (same i)) (h.levels i known));
      others = λ s n. same s;
      links = h.links;
    }

-- ---- a packet leaves
bounds_leave : (S : Setup) (place : ℕ → ℕ) → IsSetup S → IsForward S place → (r : RunState) (T : ℚ) → IsGood S r T → IsBounded S place r
    → (i p : ℕ) (t : ℚ) → IsDue S r (Leave i p t) → KeepsBounds S place r (Leave i p t)
bounds_leave S place ok fw r T g h i p t due =
    let known = due.0 in
    let σ = state_at r i in
    let d = (server_at S.net i).discipline in
    let y = gone_of S place r T g h i p t known due.1 in
    let c = card_of S.net r.entered p i in
    let hops = hops_of S.net r.entered p in
    let fewer = own_leave S place r i p t h y (omega (arith, known, g.many)) in
    let in_time : t ≤ℚ left_by S place i = subst (λ x. x ≤ℚ left_by S place i) (sym y.at_end) (clock_in_time S place ok fw r T g h i known y.under y.is_under) in
    record {
      rising = h.rising;
      own_head = λ u e. absurd (let f : None ≡ Some u = e in cc);
      own_level = level_leave S (come_by S place i) i d σ (ahead S (next_run S.net r (Leave i p t)) i) (ahead S r i) c y.under t y.is_under y.worked_off y.at_end fewer (h.levels i known);
      others = λ s n. ahead_leave S place r i p t h y (omega (arith, known, g.many)) s n;
      links = λ e k. elim (sent_in (server_after i hops) p (t +ℚ link_at S.net i) r.due e k) [
        | inl j ↦ h.links e j
        | inr j ↦
            let later = after_later place i j.0 hops (h.rising p y.has_entered) j.1 in
            let far = next_later S place ok fw i j.0 later known in
            subst (λ (x : Due). x.time ≤ℚ come_by S place x.server) j.2 (with4 t (left_by S place i) (link_at S.net i) (come_by S place j.0) (λ c. omega (arith, c.le, c.lt, c.same)))
      ];
    }

-- ---- a server turns to a queue
bounds_visit : (S : Setup) (place : ℕ → ℕ) → IsSetup S → IsForward S place → (r : RunState) (T : ℚ) → IsGood S r T → IsBounded S place r
    → (i q : ℕ) (t : ℚ) → IsDue S r (Visit i q t) → KeepsBounds S place r (Visit i q t)
bounds_visit S place ok fw r T g h i q t due =
    let known = due.0 in
    let σ = state_at r i in
    let d = (server_at S.net i).discipline in
    let idle = idle_of d σ q due.1.may in
    let from : σ.now ≡ clock σ = sym (ap (λ o. clock_of o σ.now) idle) in
    let same = ahead_visit S r i q t (omega (arith, known, g.many)) in
    record {
      rising = h.rising;
      own_head = h.heads i known;
      own_level = level_visit S (come_by S place i) i d σ (ahead S (next_run S.net r (Visit i q t)) i) q t (late_at S place ok fw i) idle
          (subst (λ x. IsFirstOpen S i x t) from due.1.opens) (subst (λ m. IsLevel S (come_by S place i) i σ m) (sym (same i)) (h.levels i known));
      others = λ s n. same s;
      links = h.links;
    }

pub bounded_next : (S : Setup) (place : ℕ → ℕ) → IsSetup S → IsForward S place → (r : RunState) (T : ℚ) → IsGood S r T → IsBounded S place r
    → (x : Step) → IsDue S r x → server_of S.net x < length S.net.servers → IsBounded S place (next_run S.net r x)
bounded_next S place ok fw r T g h x due known = bounded_from S place r x (omega (arith, known, g.many)) h (keeps x due known)
  where
    keeps : (x : Step) → IsDue S r x → server_of S.net x < length S.net.servers → KeepsBounds S place r x
    keeps (Enter f p t b) due known = bounds_enter S place ok fw r T g h f p t b due
    keeps (Reach i p t) due known = bounds_reach S place ok fw r T g h i p t (contains_in r.due record { packet = p; server = i; time = t } due) known
    keeps (Work i p a b w) due known = bounds_work S place ok fw r T g h i p a b w due
    keeps (Leave i p t) due known = bounds_leave S place ok fw r T g h i p t due
    keeps (Visit i q t) due known = bounds_visit S place ok fw r T g h i q t due
