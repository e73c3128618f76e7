-- Each step that is next keeps the simulator's state.
use Rattle.std.specs.Prelude.{Some, None, ◌≡◌, ℕ, ◌+◌, ◌<◌, ◌≤◌, List, [], ◌∷◌, ◌++◌, length, set}
use Rattle.std.proofs.Common.{arith, refl, sym, ap, ◌∙◌, subst}
use Rattle.rational.specs.Rational.{ℚ, ◌+ℚ◌, ◌≤ℚ◌, ◌<ℚ◌}
use Rattle.run_laws.specs.declared.steps.Step.{Step}
use Rattle.run_laws.specs.declared.steps.Step.TheVariants.{Enter, Reach, Work, Leave, Visit}
use Rattle.run_laws.specs.Cards.{Card}
use Rattle.run_laws.specs.Servers.{Under, head_of}
use Rattle.run_laws.specs.Routes.{server_at, link_at, server_after}
use Rattle.run_laws.specs.Views.{hops_of, card_of, server_of}
use Rattle.run_laws.specs.Lawful as lawful
use Rattle.run_laws.specs.Lawful.{RunState, sent, state_at, next_run}
use Rattle.queue_sched.specs.index_links.Chains.{Chains, list_at, Has, unlinked, with_list}
use Rattle.net_model.specs.stated_runs.Setups.{Setup, packet_of, IsSetup}
use Rattle.net_model.specs.stated_runs.DueSteps.{IsEntering, IsLeaving}
use Rattle.net_model.specs.stated_runs.Simulated.{IsNext}
use Rattle.net_model.specs.stated_runs.Laws.{state_after}
use Rattle.net_model.proofs.stated_runs.Lists.{contains_in, head_in}
use Rattle.net_model.proofs.stated_runs.Good.{own_state, other_state}
use Rattle.net_model.proofs.stated_runs.GoodSteps.{good_next}
use Rattle.net_model.proofs.stated_runs.GoodWork.{good_work_of}
use Rattle.sim_servers.specs.declared.station.Station.{Station}
use Rattle.sim_servers.specs.Stations.{IsStation}
use Rattle.sim_servers.specs.declared.sim_states.arrival.Arrival.{Arrival}
use Rattle.sim_servers.specs.sim_states.Laws.{IsAfter}
use Rattle.sim_servers.specs.sim_states.Running.{arrival_at, due_at, IsAheadOf, AreStations, IsRunning}
use Rattle.sim_servers.specs.sim_states.Places.{dues_of}
use Rattle.sim_servers.proofs.sim_states.Places.{at_most, card_counts, no_due, places_reach, places_work, places_visit, places_leave, placed_next, placed_enter}
use Rattle.sim_servers.proofs.sim_states.SoFar.{IsSound, sound_so_far}
use Rattle.sim_servers.proofs.sim_states.Kept.{stations_kept, links_kept, links_reach, links_leave}
use Rattle.sim_servers.proofs.sim_states.Running.{ahead_arrive, ahead_work, ahead_leave, ahead_visit, ahead_next, running_by, entries_push}

-- ---- what holds at each step
pub record IsStepAt (S : Setup) (r : RunState) (x : Step) : Type 0 where
  pub known : server_of S.net x < length S.net.servers
  pub many : server_of S.net x < length r.servers

pub step_at : (S : Setup) → IsSetup S → (r : RunState) (x : Step) → IsSound S r → IsNext S r x → IsStepAt S r x
step_at S ok r x sound n =
    let k = good_next S ok r sound.time sound.good x n in
    record { known = k.known; many = omega (arith, k.known, sound.good.many) }

stations_after : (S : Setup) (xs : List Step) (x : Step) (stations : List Station) (new : Station) → AreStations S (state_after S xs) stations
    → IsStepAt S (state_after S xs) x → IsAfter S xs x new → AreStations S (next_run S.net (state_after S xs) x) (set stations (server_of S.net x) new)
stations_after S xs x stations new h k own =
    let r = state_after S xs in
    stations_kept S r (next_run S.net r x) stations (server_of S.net x) new h k.known (λ j n. other_state S.net r x j n)
    (subst (λ σ. IsStation S (server_of S.net x) σ new) (sym (own_state S.net r x k.many)) own.0) own.1

-- ---- a packet enters
pub enter_keeps : (S : Setup) → IsSetup S → (stations : List Station) (links : Chains) (arrivals : List Arrival) (n : ℕ) (xs : List Step)
    → IsRunning S stations links arrivals n xs → (f p : ℕ) (t : ℚ) (b : ℕ) → IsNext S (state_after S xs) (Enter f p t b) → (new : Station)
    → IsAfter S xs (Enter f p t b) new
    → IsRunning S (set stations (server_of S.net (Enter f p t b)) new) links arrivals (n + 1) (xs ++ Enter f p t b ∷ [])
enter_keeps S ok stations links arrivals n xs h f p t b next_one new own =
    let x = Enter f p t b in
    let r = state_after S xs in
    let sound = sound_so_far S ok xs h.followed in
    let k = step_at S ok r x sound next_one in
    let due : IsEntering S r f p t b = next_one.due in
    let same : p ≡ n = due.in_turn ∙ sym h.entered_is in
    let in_trace : n < length S.packets = subst (λ j. j < length S.packets) same due.in_trace in
    running_by S xs x (set stations (server_of S.net x) new) links arrivals (n + 1) h.followed next_one
    (stations_after S xs x stations new h.servers k own)
    (links_kept S r (next_run S.net r x) links arrivals h.on_links refl
    (ahead_next S r x k.many (λ u a. ahead_arrive S (server_of S.net x) (server_at S.net (server_of S.net x)).discipline (state_at r (server_of S.net x))
    (card_of S.net (Rattle.run_laws.specs.Views.entered_after r.entered x) p (server_of S.net x)) t u a)))
    (let z = Rattle.std.proofs.lemmas.List.length_push r.entered record { flow = f; bits = b } in omega (arith, z, h.entered_is))
    (omega (arith, in_trace))
    (entries_push S r.entered n f b h.entered_is (due.flow_is ∙ ap (λ j. (packet_of S j).flow) same) (due.bits_are ∙ ap (λ j. (packet_of S j).bits) same) h.entries)
    (placed_enter S.net r f p t b k.many due.in_turn h.placed)

-- ---- a packet reaches a server
pub reach_keeps : (S : Setup) → IsSetup S → (stations : List Station) (links : Chains) (arrivals : List Arrival) (n : ℕ) (xs : List Step)
    → IsRunning S stations links arrivals n xs → (s p : ℕ) (t : ℚ) → IsNext S (state_after S xs) (Reach s p t) → (new : Station)
    → IsAfter S xs (Reach s p t) new → IsRunning S (set stations s new) (unlinked links p) arrivals n (xs ++ Reach s p t ∷ [])
reach_keeps S ok stations links arrivals n xs h s p t next_one new own =
    let x = Reach s p t in
    let r = state_after S xs in
    let d : lawful.Due = record { packet = p; server = s; time = t } in
    let sound = sound_so_far S ok xs h.followed in
    let k = step_at S ok r x sound next_one in
    let there = contains_in r.due d next_one.due in
    let few : dues_of p r.due ≤ 1 = let a = at_most r p s k.many in let b = h.placed.few p in omega (arith, a, b) in
    running_by S xs x (set stations s new) (unlinked links p) arrivals n h.followed next_one
    (stations_after S xs x stations new h.servers k own)
    (links_reach S r (next_run S.net r x) links arrivals d h.on_links there few refl
    (ahead_next S r x k.many (λ u a. ahead_arrive S s (server_at S.net s).discipline (state_at r s) (card_of S.net r.entered p s) t u a)))
    h.entered_is h.few h.entries
    (placed_next r (next_run S.net r x) refl (places_reach S.net r s p t k.many there) h.placed)

-- ---- work
pub work_keeps : (S : Setup) → IsSetup S → (stations : List Station) (links : Chains) (arrivals : List Arrival) (n : ℕ) (xs : List Step)
    → IsRunning S stations links arrivals n xs → (s p : ℕ) (a b w : ℚ) → IsNext S (state_after S xs) (Work s p a b w) → (new : Station)
    → IsAfter S xs (Work s p a b w) new → IsRunning S (set stations s new) links arrivals n (xs ++ Work s p a b w ∷ [])
work_keeps S ok stations links arrivals n xs h s p a b w next_one new own =
    let x = Work s p a b w in
    let r = state_after S xs in
    let sound = sound_so_far S ok xs h.followed in
    let k = step_at S ok r x sound next_one in
    let g = good_work_of S ok r.entered s (state_at r s) sound.time p a b w (sound.good.servers s k.known) next_one.due.1 in
    running_by S xs x (set stations s new) links arrivals n h.followed next_one
    (stations_after S xs x stations new h.servers k own)
    (links_kept S r (next_run S.net r x) links arrivals h.on_links refl
    (ahead_next S r x k.many (λ u z. ahead_work S s (server_at S.net s).discipline (state_at r s) (card_of S.net r.entered p s) a b w u g.no_overlap g.forward z)))
    h.entered_is h.few h.entries
    (placed_next r (next_run S.net r x) refl (places_work S.net r s p a b w k.many) h.placed)

-- ---- a visit
pub visit_keeps : (S : Setup) → IsSetup S → (stations : List Station) (links : Chains) (arrivals : List Arrival) (n : ℕ) (xs : List Step)
    → IsRunning S stations links arrivals n xs → (s q : ℕ) (t : ℚ) → IsNext S (state_after S xs) (Visit s q t) → (new : Station)
    → IsAfter S xs (Visit s q t) new → IsRunning S (set stations s new) links arrivals n (xs ++ Visit s q t ∷ [])
visit_keeps S ok stations links arrivals n xs h s q t next_one new own =
    let x = Visit s q t in
    let r = state_after S xs in
    let sound = sound_so_far S ok xs h.followed in
    let k = step_at S ok r x sound next_one in
    running_by S xs x (set stations s new) links arrivals n h.followed next_one
    (stations_after S xs x stations new h.servers k own)
    (links_kept S r (next_run S.net r x) links arrivals h.on_links refl
    (ahead_next S r x k.many (λ u a. ahead_visit S s (server_at S.net s).discipline (state_at r s) q t u a)))
    h.entered_is h.few h.entries
    (placed_next r (next_run S.net r x) refl (places_visit S.net r s q t k.many) h.placed)

-- ---- a packet leaves
-- it is the first of its queue, and on no link
pub record IsGoing (S : Setup) (r : RunState) (links : Chains) (s p : ℕ) (t : ℚ) : Type 0 where
  pub card : Card
  pub packet_is : card.packet ≡ p
  pub head : head_of (card_of S.net r.entered p s).queue (state_at r s).inside ≡ Some card
  pub entered_one : p < length r.entered
  pub free : (j : ℕ) → ¬ (Has (list_at links j) p)
  pub under : Under
  pub is_under : (state_at r s).under ≡ Some under
  pub busy : (state_at r s).busy ≡ t

pub going : (S : Setup) (stations : List Station) (links : Chains) (arrivals : List Arrival) (n : ℕ) (xs : List Step) → IsRunning S stations links arrivals n xs
    → IsSound S (state_after S xs) → (s p : ℕ) (t : ℚ) → IsStepAt S (state_after S xs) (Leave s p t) → IsLeaving (state_at (state_after S xs) s) p t
    → IsGoing S (state_after S xs) links s p t
going S stations links arrivals n xs h sound s p t k y =
    let r = state_after S xs in
    let u = y.under in
    let good = sound.good.servers s k.known in
    let under = good.under u y.is_under in
    let head = (sound.turns s k.known).head u y.is_under in
    let card_is : u.card ≡ card_of S.net r.entered p s = under.card.is ∙ ap (λ q. card_of S.net r.entered q s) y.packet_is in
    let inside = head_in u.card.queue (state_at r s).inside u.card head in
    let one = card_counts (state_at r s).inside u.card inside in
    let all = at_most r u.card.packet s k.many in
    let few = h.placed.few u.card.packet in
    let none : dues_of u.card.packet r.due ≡ 0 = omega (arith, one, all, few) in
    let no_p : dues_of p r.due ≡ 0 = subst (λ q. dues_of q r.due ≡ 0) y.packet_is none in
    record {
      card = u.card;
      packet_is = y.packet_is;
      head = subst (λ (c : Card). head_of c.queue (state_at r s).inside ≡ Some u.card) card_is head;
      entered_one = subst (λ q. q < length r.entered) y.packet_is under.card.entered_one;
      free = λ j i. no_due r.due p no_p (due_at arrivals p) (h.on_links.on_way j p i) refl;
      under = u;
      is_under = y.is_under;
      busy = under.at_end ∙ sym y.at_end;
    }

-- to another server
pub leave_keeps : (S : Setup) → IsSetup S → (stations : List Station) (links : Chains) (arrivals : List Arrival) (n : ℕ) (xs : List Step)
    → IsRunning S stations links arrivals n xs → (s p : ℕ) (t : ℚ) → IsNext S (state_after S xs) (Leave s p t) → (new : Station)
    → IsAfter S xs (Leave s p t) new → (a : Arrival) → server_after s (hops_of S.net (state_after S xs).entered p) ≡ Some a.server
    → a.time ≡ t +ℚ link_at S.net s
    → IsRunning S (set stations s new) (with_list links s (list_at links s ++ p ∷ [])) (set arrivals p a) n (xs ++ Leave s p t ∷ [])
leave_keeps S ok stations links arrivals n xs h s p t next_one new own a goes time =
    let x = Leave s p t in
    let r = state_after S xs in
    let sound = sound_so_far S ok xs h.followed in
    let k = step_at S ok r x sound next_one in
    let g = going S stations links arrivals n xs h sound s p t k next_one.due.1 in
    let in_trace : p < length S.packets = omega (arith, g.entered_one, h.entered_is, h.few) in
    let moved : (next_run S.net r x).due ≡ r.due ++ record { packet = p; server = a.server; time = a.time } ∷ [] =
    ap (λ o. sent o p (t +ℚ link_at S.net s) r.due) goes ∙ ap (λ u. r.due ++ (let z : lawful.Due = record { packet = p; server = a.server; time = u } in z) ∷ []) (sym time) in
    let own_after = own_state S.net r x k.many in
    running_by S xs x (set stations s new) (with_list links s (list_at links s ++ p ∷ [])) (set arrivals p a) n h.followed next_one
    (stations_after S xs x stations new h.servers k own)
    (links_leave S r (next_run S.net r x) links arrivals s p a h.on_links k.known in_trace g.free moved
    (λ q i. subst (λ u. (arrival_at arrivals q).time <ℚ u) (ap (λ u. u +ℚ link_at S.net s) g.busy ∙ sym time)
    ((h.on_links.ahead s q i).before g.under g.is_under))
    (ahead_next S r x k.many (λ u z. ahead_leave S s (server_at S.net s).discipline (state_at r s) (card_of S.net r.entered p s) t u z))
    (subst (λ σ. IsAheadOf S s σ a.time) (sym own_after) record {
      by = subst (λ u. a.time ≤ℚ u) (time ∙ ap (λ u. u +ℚ link_at S.net s) (sym g.busy)) (Rattle.rational.proofs.Laws.le_refl a.time);
      before = λ u e. absurd (let z : None ≡ Some u = e in cc);
    }))
    h.entered_is h.few h.entries
    (placed_next r (next_run S.net r x) refl (places_leave S.net r s p t k.many g.card g.packet_is g.head) h.placed)

-- or for good
pub last_leave_keeps : (S : Setup) → IsSetup S → (stations : List Station) (links : Chains) (arrivals : List Arrival) (n : ℕ) (xs : List Step)
    → IsRunning S stations links arrivals n xs → (s p : ℕ) (t : ℚ) → IsNext S (state_after S xs) (Leave s p t) → (new : Station)
    → IsAfter S xs (Leave s p t) new → server_after s (hops_of S.net (state_after S xs).entered p) ≡ None
    → IsRunning S (set stations s new) links arrivals n (xs ++ Leave s p t ∷ [])
last_leave_keeps S ok stations links arrivals n xs h s p t next_one new own goes =
    let x = Leave s p t in
    let r = state_after S xs in
    let sound = sound_so_far S ok xs h.followed in
    let k = step_at S ok r x sound next_one in
    let g = going S stations links arrivals n xs h sound s p t k next_one.due.1 in
    running_by S xs x (set stations s new) links arrivals n h.followed next_one
    (stations_after S xs x stations new h.servers k own)
    (links_kept S r (next_run S.net r x) links arrivals h.on_links (ap (λ o. sent o p (t +ℚ link_at S.net s) r.due) goes)
    (ahead_next S r x k.many (λ u z. ahead_leave S s (server_at S.net s).discipline (state_at r s) (card_of S.net r.entered p s) t u z)))
    h.entered_is h.few h.entries
    (placed_next r (next_run S.net r x) refl (places_leave S.net r s p t k.many g.card g.packet_is g.head) h.placed)
