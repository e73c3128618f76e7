-- The first of what the simulator takes for due is the next step.
use Rattle.std.specs.Prelude.{Some, None, ◌≡◌, ◌≢◌, ◌⊎◌, ℕ, zero, suc, pos, ◌<◌, List, [], ◌∷◌, length, get_or, slice_get}
use Rattle.std.proofs.Common.{arith, refl, sym, ap, ◌∙◌, subst, inl, inr}
use Rattle.std.proofs.lemmas.Bool.{cases_lt}
use Rattle.std.proofs.lemmas.List.{get_or_past}
use Rattle.rational.specs.Rational.{ℚ, int, ◌≤ℚ◌, ◌<ℚ◌}
use Rattle.rational.proofs.Laws.{le_refl, le_of_lt, lt_irrefl}
use Rattle.run_laws.specs.declared.steps.Step.{Step}
use Rattle.run_laws.specs.declared.steps.Step.TheVariants as steps
use Rattle.run_laws.specs.Cards.{size}
use Rattle.run_laws.specs.Servers.{Under, done}
use Rattle.run_laws.specs.Routes.{server_at}
use Rattle.run_laws.proofs.Heads.{pick_is_head}
use Rattle.run_laws.specs.Lawful as lawful
use Rattle.run_laws.specs.Lawful.{RunState, state_at}
use Rattle.queue_sched.specs.index_links.Chains.{Chains, list_at, Has, first_of}
use Rattle.net_model.specs.stated_runs.Setups.{Entering, Setup, packet_of, IsFirstOpen}
use Rattle.net_model.specs.stated_runs.DueSteps.{IsLeaving, IsResumed, IsStarted, IsVisited, IsDue, Rank, RankAtMost, rank_of, step_time, work_kind}
use Rattle.net_model.specs.stated_runs.Laws.{state_after}
use Rattle.net_model.proofs.stated_runs.Lists.{In, contains_in, head_in}
use Rattle.net_model.proofs.stated_runs.Unique.{open_once}
use Rattle.sim_servers.specs.declared.due.Due.{Due}
use Rattle.sim_servers.specs.declared.due.DueKind.TheVariants as kinds
use Rattle.sim_servers.specs.declared.station.Next.{Next}
use Rattle.sim_servers.specs.declared.station.Next.TheVariants.{Nothing, Start, Resume, Leave}
use Rattle.sim_servers.specs.declared.opening.Opening.{Opening}
use Rattle.sim_servers.specs.declared.station.Station.{Station}
use Rattle.sim_servers.specs.Stations.{IsNextOf, due_for}
use Rattle.sim_servers.proofs.Firsts.{rank_refl}
use Rattle.sim_servers.specs.declared.sim_states.arrival.Arrival.{Arrival}
use Rattle.sim_servers.specs.sim_states.Running.{arrival_at, AreRising, IsRunning, enter_first, reach_first, station_due, IsCandidate, IsNotAfter}
use Rattle.run_laws.proofs.Rounds.{visit_idle}

-- ---- members
pub some_at : {X : Type 0} (xs : List X) (i : ℕ) → i < length xs → (x : X) × (slice_get xs i ≡ Some x)
some_at [] i h = absurd (omega (arith, h))
some_at (x ∷ xs) zero h = (x, refl)
some_at (x ∷ xs) (suc i) h = some_at xs i (omega (arith, h))

pub packet_at : (xs : List Entering) (i : ℕ) (x d : Entering) → slice_get xs i ≡ Some x → get_or xs i d ≡ x
packet_at [] i x d e = absurd (cc)
packet_at (y ∷ ys) zero x d e = let g : y ≡ x = cc in g
packet_at (y ∷ ys) (suc i) x d e = packet_at ys i x d e

-- ---- the head of a link comes first
record IsHead (arrivals : List Arrival) (ps : List ℕ) (p : ℕ) : Type 0 where
  head : ℕ
  is : first_of ps ≡ Some head
  first : (head ≡ p) ⊎ ((arrival_at arrivals head).time <ℚ (arrival_at arrivals p).time)

head_of_link : (arrivals : List Arrival) (ps : List ℕ) (p : ℕ) → AreRising arrivals ps → Has ps p → IsHead arrivals ps p
head_of_link arrivals [] p r h = absurd h
head_of_link arrivals (q ∷ qs) p r (inl e) = record { head = q; is = refl; first = inl e }
head_of_link arrivals (q ∷ qs) p r (inr h) = record { head = q; is = refl; first = inr (r.0 p h) }

-- ---- what is due at a server by its state is due by its station
record IsDueBy (r : RunState) (n : Next) (s : ℕ) (y : Step) : Type 0 where
  found : Due
  is : due_for n s ≡ Some found
  fits : IsNotAfter r found y

leave_by : (S : Setup) (r : RunState) (s : ℕ) (o : Opening) (n : Next) → IsNextOf S s (state_at r s) o n → (p : ℕ) (t : ℚ) → IsLeaving (state_at r s) p t
    → IsDueBy r n s (steps.Leave s p t)
leave_by S r s o Nothing h p t y = absurd (let f : None ≡ Some y.under = sym h.idle ∙ y.is_under in cc)
leave_by S r s o (Start u) h p t y = absurd (let f : None ≡ Some y.under = sym h.idle ∙ y.is_under in cc)
leave_by S r s o (Resume q u left) h p t y =
    let f : Some h.under ≡ Some y.under = sym h.is_under ∙ y.is_under in
    let same : h.under ≡ y.under = cc in
    absurd (lt_irrefl (size y.under.card) (subst (λ x. x <ℚ size y.under.card) y.worked_off
    (subst (λ (v : Under). done v <ℚ size v.card) same h.not_done)))
leave_by S r s o (Leave q u) h p t y =
    let f : Some h.under ≡ Some y.under = sym h.is_under ∙ y.is_under in
    let same : h.under ≡ y.under = cc in
    let e : u ≡ t = h.at_end ∙ ap (λ (v : Under). v.last.end) same ∙ sym y.at_end in
    record {
      found = record { time = u; kind = kinds.Leave; server = s; packet = 0 };
      is = refl;
      fits = record { time = subst (λ x. u ≤ℚ x) e (le_refl u); in_turn = λ _. rank_refl record { kind = 1; server = s; packet = 0 } };
    }

resume_by : (S : Setup) (r : RunState) (s : ℕ) (o : Opening) (n : Next) → IsNextOf S s (state_at r s) o n → (p : ℕ) (a b w : ℚ) → IsResumed S s (state_at r s) p a b w
    → IsDueBy r n s (steps.Work s p a b w)
resume_by S r s o Nothing h p a b w y = absurd (let f : None ≡ Some y.under = sym h.idle ∙ y.is_under in cc)
resume_by S r s o (Start u) h p a b w y = absurd (let f : None ≡ Some y.under = sym h.idle ∙ y.is_under in cc)
resume_by S r s o (Resume q u left) h p a b w y =
    let f : Some h.under ≡ Some y.under = sym h.is_under ∙ y.is_under in
    let same : h.under ≡ y.under = cc in
    let e : u ≡ a = open_once S s y.under.last.end u a (subst (λ (v : Under). IsFirstOpen S s v.last.end u) same h.opens) y.stretch.begins in
    let k : work_kind (state_at r s).under ≡ 0 = ap work_kind y.is_under in
    record {
      found = record { time = u; kind = kinds.Resume; server = s; packet = 0 };
      is = refl;
      fits = record {
        time = subst (λ x. u ≤ℚ x) e (le_refl u);
        in_turn = λ _. subst (λ j. RankAtMost record { kind = 0; server = s; packet = 0 } record { kind = j; server = s; packet = 0 }) (sym k)
            (rank_refl record { kind = 0; server = s; packet = 0 });
      };
    }
resume_by S r s o (Leave q u) h p a b w y =
    let f : Some h.under ≡ Some y.under = sym h.is_under ∙ y.is_under in
    let same : h.under ≡ y.under = cc in
    absurd (lt_irrefl (size h.under.card) (subst (λ x. x <ℚ size h.under.card) h.worked_off
    (subst (λ (v : Under). done v <ℚ size v.card) (sym same) y.not_done)))

-- a start of any kind
record IsStartAt (S : Setup) (r : RunState) (s : ℕ) (t : ℚ) : Type 0 where
  idle : (state_at r s).under ≡ None
  some : (state_at r s).inside ≢ []
  opens : IsFirstOpen S s (state_at r s).now t

record IsStartBy (n : Next) (s : ℕ) (t : ℚ) : Type 0 where
  is : due_for n s ≡ Some record { time = t; kind = kinds.Start; server = s; packet = 0 }

start_by : (S : Setup) (r : RunState) (s : ℕ) (o : Opening) (n : Next) → IsNextOf S s (state_at r s) o n → (t : ℚ) → IsStartAt S r s t → IsStartBy n s t
start_by S r s o Nothing h t y = absurd (y.some h.none)
start_by S r s o (Start u) h t y =
    let e : u ≡ t = open_once S s (state_at r s).now u t h.opens y.opens in
    record { is = ap (λ x. let d : Due = record { time = x; kind = kinds.Start; server = s; packet = 0 } in Some d) e }
start_by S r s o (Resume q u left) h t y = absurd (let f : None ≡ Some h.under = sym y.idle ∙ h.is_under in cc)
start_by S r s o (Leave q u) h t y = absurd (let f : None ≡ Some h.under = sym y.idle ∙ h.is_under in cc)

-- ---- each step that is due is covered by a candidate
-- only lists of the network's servers have packets
listed : (S : Setup) (links : Chains) (s p : ℕ) → length links.lists ≡ length S.net.servers → Has (list_at links s) p → s < length S.net.servers
listed S links s p e h = elim (cases_lt s (length links.lists)) [
  | inl l ↦ omega (arith, l, e)
  | inr l ↦ absurd (subst (λ xs. Has xs p) (get_or_past links.lists s [] (omega (arith, l))) h)
]

pub record IsCovered (S : Setup) (r : RunState) (stations : List Station) (links : Chains) (arrivals : List Arrival) (entered : ℕ) (y : Step) : Type 0 where
  pub found : Due
  pub candidate : IsCandidate S stations links arrivals entered (length S.net.servers) found
  pub fits : IsNotAfter r found y

by_station : (S : Setup) (r : RunState) (stations : List Station) (links : Chains) (arrivals : List Arrival) (entered : ℕ) → (s : ℕ) → s < length S.net.servers
    → (x : Station) → slice_get stations s ≡ Some x → (y : Step) → IsDueBy r x.next s y → IsCovered S r stations links arrivals entered y
by_station S r stations links arrivals entered s h x e y d = record {
  found = d.found;
  candidate = inr (s, h, inl (ap (λ o. station_due o s) e ∙ d.is));
  fits = d.fits;
}

start_covers : (S : Setup) (r : RunState) (n : Next) (s : ℕ) (t : ℚ) (y : Step) → step_time y ≡ t → rank_of r y ≡ record { kind = 4; server = s; packet = 0 }
    → IsStartBy n s t → IsDueBy r n s y
start_covers S r n s t y e k h = record {
  found = record { time = t; kind = kinds.Start; server = s; packet = 0 };
  is = h.is;
  fits = record {
    time = subst (λ x. t ≤ℚ x) (sym e) (le_refl t);
    in_turn = λ _. subst (λ z. RankAtMost record { kind = 4; server = s; packet = 0 } z) (sym k) (rank_refl record { kind = 4; server = s; packet = 0 });
  };
}

picked_some : (S : Setup) (r : RunState) (s : ℕ) (p : ℕ) (a b w : ℚ) → IsStarted S s (state_at r s) p a b w → (state_at r s).inside ≢ []
picked_some S r s p a b w y e =
    let h = head_in y.card.queue (state_at r s).inside y.card (pick_is_head (server_at S.net s).discipline (state_at r s).inside (state_at r s).round y.card y.picked) in
    subst (λ cs. In cs y.card) e h

pub covered : (S : Setup) (stations : List Station) (links : Chains) (arrivals : List Arrival) (entered : ℕ) (xs : List Step)
    → IsRunning S stations links arrivals entered xs → (y : Step) → IsDue S (state_after S xs) y
    → ((s q : ℕ) (t : ℚ) → IsVisited S s (state_at (state_after S xs) s) q t → (state_at (state_after S xs) s).inside ≢ [])
    → IsCovered S (state_after S xs) stations links arrivals entered y
covered S stations links arrivals entered xs h (steps.Enter f p t b) y v =
    let at = some_at S.packets p y.in_trace in
    let same : entered ≡ p = h.entered_is ∙ sym y.in_turn in
    let is : packet_of S p ≡ at.0 = packet_at S.packets p at.0 record { flow = 0; bits = 0; time = int (pos 0) } at.1 in
    let e : at.0.time ≡ t = ap (λ (z : Entering). z.time) (sym is) ∙ sym y.time_is in
    record {
      found = record { time = at.0.time; kind = kinds.Enter; server = 0; packet = p };
      candidate = inl (ap (λ n. enter_first (slice_get S.packets n) n) same ∙ ap (λ o. enter_first o p) at.1);
      fits = record { time = subst (λ x. at.0.time ≤ℚ x) e (le_refl at.0.time); in_turn = λ _. rank_refl record { kind = 3; server = 0; packet = p } };
    }
covered S stations links arrivals entered xs h (steps.Reach s p t) y v =
    let d : lawful.Due = record { packet = p; server = s; time = t } in
    let r = state_after S xs in
    let l = h.on_links.linked d (contains_in r.due d y) in
    let hd = head_of_link arrivals (list_at links l.0) p (h.on_links.rising l.0) l.1 in
    let here : (arrival_at arrivals p).time ≡ t = ap (λ (z : lawful.Due). z.time) l.2 in
    let there : (arrival_at arrivals p).server ≡ s = ap (λ (z : lawful.Due). z.server) l.2 in
    let q = hd.head in
    let found : Due = record { time = (arrival_at arrivals q).time; kind = kinds.Reach; server = (arrival_at arrivals q).server; packet = q } in
    record {
      found = found;
      candidate = inr (l.0, listed S links l.0 p h.on_links.lists l.1, inr (ap (reach_first arrivals) hd.is));
      fits = elim hd.first [
        | inl e ↦ record {
          time = subst (λ x. (arrival_at arrivals q).time ≤ℚ x) (ap (λ j. (arrival_at arrivals j).time) e ∙ here) (le_refl (arrival_at arrivals q).time);
          in_turn = λ _.
              let k : (arrival_at arrivals q).server ≡ s = ap (λ j. (arrival_at arrivals j).server) e ∙ there in
              inr (refl, inr (k, omega (arith, e)));
        }
        | inr l ↦ record {
          time = subst (λ x. (arrival_at arrivals q).time ≤ℚ x) here (le_of_lt l);
          in_turn = λ e. absurd (lt_irrefl t (subst (λ x. x <ℚ t) e (subst (λ x. (arrival_at arrivals q).time <ℚ x) here l)));
        }
      ];
    }
covered S stations links arrivals entered xs h (steps.Work s p a b w) (known, inl y) v =
    let x = some_at stations s (omega (arith, known, h.servers.many)) in
    let k = h.servers.kept s x.0 x.1 in
    by_station S (state_after S xs) stations links arrivals entered s known x.0 x.1 (steps.Work s p a b w)
    (resume_by S (state_after S xs) s x.0.opening x.0.next k.next p a b w y)
covered S stations links arrivals entered xs h (steps.Work s p a b w) (known, inr y) v =
    let r = state_after S xs in
    let x = some_at stations s (omega (arith, known, h.servers.many)) in
    let k = h.servers.kept s x.0 x.1 in
    by_station S r stations links arrivals entered s known x.0 x.1 (steps.Work s p a b w)
    (start_covers S r x.0.next s a (steps.Work s p a b w) refl (ap (λ o. let z : Rank = record { kind = work_kind o; server = s; packet = 0 } in z) y.idle)
    (start_by S r s x.0.opening x.0.next k.next a record { idle = y.idle; some = picked_some S r s p a b w y; opens = y.stretch.begins }))
covered S stations links arrivals entered xs h (steps.Leave s p t) (known, y) v =
    let x = some_at stations s (omega (arith, known, h.servers.many)) in
    let k = h.servers.kept s x.0 x.1 in
    by_station S (state_after S xs) stations links arrivals entered s known x.0 x.1 (steps.Leave s p t)
    (leave_by S (state_after S xs) s x.0.opening x.0.next k.next p t y)
covered S stations links arrivals entered xs h (steps.Visit s q t) (known, y) v =
    let r = state_after S xs in
    let x = some_at stations s (omega (arith, known, h.servers.many)) in
    let k = h.servers.kept s x.0 x.1 in
    by_station S r stations links arrivals entered s known x.0 x.1 (steps.Visit s q t)
    (start_covers S r x.0.next s t (steps.Visit s q t) refl refl
    (start_by S r s x.0.opening x.0.next k.next t record { idle = visit_idle (server_at S.net s).discipline (state_at r s) q y.may; some = v s q t y; opens = y.opens }))
