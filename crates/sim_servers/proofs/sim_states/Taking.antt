-- A packet that arrives may be taken by the station of its server.
use Rattle.std.specs.Prelude.{Some, ◌≡◌, ℕ, zero, suc, ◌+◌, ◌<◌, ◌≤◌, ◌^◌, List, [], ◌∷◌, length, slice_get}
use Rattle.std.proofs.Common.{arith, refl, sym, ap, ◌∙◌, subst, inl, inr}
use Rattle.std.proofs.lemmas.Bool.{cases_eq}
use Rattle.rational.specs.Rational.{ℚ, ◌≤ℚ◌}
use Rattle.rational.proofs.Laws.{le_trans}
use Rattle.run_laws.specs.declared.steps.Step.{Step}
use Rattle.run_laws.specs.declared.steps.Step.TheVariants.{Enter, Reach}
use Rattle.run_laws.specs.Cards.{Card}
use Rattle.run_laws.specs.Servers.{queue_count}
use Rattle.run_laws.specs.Routes.{server_at, route_of, queue_at, first_server}
use Rattle.run_laws.specs.Views.{hops_of}
use Rattle.run_laws.specs.Lawful as lawful
use Rattle.run_laws.specs.Lawful.{state_at}
use Rattle.queue_sched.specs.Waiting.{HasPacket}
use Rattle.queue_sched.specs.index_links.Chains.{Chains}
use Rattle.net_model.specs.stated_runs.Setups.{Setup, IsSetup}
use Rattle.net_model.specs.stated_runs.DueSteps.{IsEntering}
use Rattle.net_model.specs.stated_runs.Simulated.{IsNext}
use Rattle.net_model.specs.stated_runs.Laws.{state_after}
use Rattle.net_model.proofs.stated_runs.Lists.{In, contains_in}
use Rattle.net_model.proofs.stated_runs.Routed.{place_of}
use Rattle.net_model.proofs.stated_runs.GoodSteps.{coming}
use Rattle.sim_servers.specs.declared.station.Station.{Station}
use Rattle.sim_servers.specs.Stations.{MayTake}
use Rattle.sim_servers.specs.declared.sim_states.arrival.Arrival.{Arrival}
use Rattle.sim_servers.specs.sim_states.Places.{one, cards_of, at_server}
use Rattle.sim_servers.specs.sim_states.Running.{IsRunning}
use Rattle.sim_servers.proofs.sim_states.Places.{one_same, one_other, due_counts, at_most}
use Rattle.sim_servers.proofs.sim_states.SoFar.{IsSound, sound_so_far}

-- ---- there are no more cards than packets
sum_to : (ℕ → ℕ) → ℕ → ℕ
sum_to f zero = 0
sum_to f (suc n) = sum_to f n + f n

sum_added : (f g : ℕ → ℕ) (n : ℕ) → sum_to (λ p. f p + g p) n ≡ sum_to f n + sum_to g n
unfolding sum_to
sum_added f g zero = omega arith
sum_added f g (suc n) = let h = sum_added f g n in omega arith

sum_none : (a n : ℕ) → n ≤ a → sum_to (one a) n ≡ 0
unfolding sum_to
sum_none a zero h = refl
sum_none a (suc n) h =
    let k = sum_none a n (omega (arith, h)) in
    let d : (a ≡ n) → ⊥ = omega (arith, h) in
    let z = one_other a n d in
    omega (arith, k, z)

sum_one : (a n : ℕ) → a < n → sum_to (one a) n ≡ 1
unfolding sum_to
sum_one a zero h = absurd (omega (arith, h))
sum_one a (suc n) h = elim (cases_eq a n) [
  | inl e ↦ let k = sum_none a n (omega (arith, e)) in let z : one a n ≡ 1 = ap (one a) (sym e) ∙ one_same a in omega (arith, k, z)
  | inr d ↦ let k = sum_one a n (omega (arith, h, d)) in let z = one_other a n d in omega (arith, k, z)
]

sum_few : (f : ℕ → ℕ) (n : ℕ) → ((p : ℕ) → f p ≤ 1) → sum_to f n ≤ n
unfolding sum_to
sum_few f zero h = omega arith
sum_few f (suc n) h = let k = sum_few f n h in let z = h n in omega (arith, k, z)

cards_sum : (n : ℕ) (cs : List Card) → ((c : Card) → In cs c → c.packet < n) → length cs ≤ sum_to (λ p. cards_of p cs) n
cards_sum n [] h = omega arith
cards_sum n (c ∷ cs) h =
    let k = cards_sum n cs (λ x i. h x (inr i)) in
    let a = sum_added (one c.packet) (λ p. cards_of p cs) n in
    let b = sum_one c.packet n (h c (inl refl)) in
    omega (arith, k, a, b)

pub few_cards : (n : ℕ) (cs : List Card) → ((c : Card) → In cs c → c.packet < n) → ((p : ℕ) → cards_of p cs ≤ 1) → length cs ≤ n
few_cards n cs h k = let a = cards_sum n cs h in let b = sum_few (λ p. cards_of p cs) n k in omega (arith, a, b)

-- ---- a packet that has no card is not there
no_packet : (cs : List Card) (p : ℕ) → cards_of p cs ≡ 0 → ¬ (HasPacket cs p)
no_packet [] p e h = h
no_packet (c ∷ cs) p e (inl i) = let k : one c.packet p ≡ 1 = ap (λ x. one x p) i ∙ one_same p in omega (arith, e, k)
no_packet (c ∷ cs) p e (inr h) = no_packet cs p (omega (arith, e)) h

-- ---- what is common to both kinds of arrivals
may_take : (S : Setup) (stations : List Station) (links : Chains) (arrivals : List Arrival) (n : ℕ) (xs : List Step)
    → IsRunning S stations links arrivals n xs → length S.packets < 2 ^ 31 → (sound : IsSound S (state_after S xs)) → (s : ℕ) → s < length S.net.servers
    → (x : Station) → slice_get stations s ≡ Some x → (p q : ℕ) (t : ℚ) → sound.time ≤ℚ t → p < length S.packets
    → q < queue_count (server_at S.net s).discipline → at_server p (state_at (state_after S xs) s) ≡ 0 → MayTake x p q t
may_take S stations links arrivals n xs h few sound s known x is p q t later in_trace queue none =
    let r = state_after S xs in
    let g = sound.good.servers s known in
    let k = h.servers.kept s x is in
    let room = h.servers.rooms s x is in
    let many : s < length r.servers = omega (arith, known, sound.good.many) in
    let cards = few_cards n (state_at r s).inside (λ c i. let e = (g.cards c i).entered_one in omega (arith, e, h.entered_is))
    (λ j. let a = at_most r j s many in let b = h.placed.few j in omega (arith, a, b)) in
    record {
      setup = S;
      server = s;
      state = state_at r s;
      keeps = k;
      not_there = no_packet (state_at r s).inside p none;
      known_queue = subst (λ d. q < queue_count d) (sym k.discipline) queue;
      known_packet = omega (arith, in_trace, room);
      in_time = le_trans g.by_now later;
      from_zero = le_trans sound.good.from_zero later;
      few = let l = h.few in omega (arith, cards, few, l);
    }

pub may_take_reach : (S : Setup) → IsSetup S → (stations : List Station) (links : Chains) (arrivals : List Arrival) (n : ℕ) (xs : List Step)
    → IsRunning S stations links arrivals n xs → length S.packets < 2 ^ 31 → (s p : ℕ) (t : ℚ) → IsNext S (state_after S xs) (Reach s p t)
    → (x : Station) → slice_get stations s ≡ Some x → MayTake x p (queue_at s (hops_of S.net (state_after S xs).entered p)) t
may_take_reach S ok stations links arrivals n xs h few s p t next_one x is =
    let r = state_after S xs in
    let sound = sound_so_far S ok xs h.followed in
    let d : lawful.Due = record { packet = p; server = s; time = t } in
    let there = contains_in r.due d next_one.due in
    let link = sound.good.links d there in
    let place = place_of S.net s (hops_of S.net r.entered p) (sound.good.entries p link.entered_one).hops link.passes in
    let one_due = due_counts r.due d there in
    let all = at_most r p s (let k = place.known_server in omega (arith, k, sound.good.many)) in
    let most = h.placed.few p in
    may_take S stations links arrivals n xs h few sound s place.known_server x is p (queue_at s (hops_of S.net r.entered p)) t
    (sound.good.later (Reach s p t) next_one.due) (let e = link.entered_one in omega (arith, e, h.entered_is, h.few)) place.known_queue (omega (arith, one_due, all, most))

pub may_take_enter : (S : Setup) → IsSetup S → (stations : List Station) (links : Chains) (arrivals : List Arrival) (n : ℕ) (xs : List Step)
    → IsRunning S stations links arrivals n xs → length S.packets < 2 ^ 31 → (f p : ℕ) (t : ℚ) (b : ℕ) → IsNext S (state_after S xs) (Enter f p t b)
    → (x : Station) → slice_get stations (first_server (route_of S.net f).hops) ≡ Some x
    → MayTake x p (queue_at (first_server (route_of S.net f).hops) (route_of S.net f).hops) t
may_take_enter S ok stations links arrivals n xs h few f p t b next_one x is =
    let r = state_after S xs in
    let s = first_server (route_of S.net f).hops in
    let sound = sound_so_far S ok xs h.followed in
    let due : IsEntering S r f p t b = next_one.due in
    let c = coming S ok r f p t b due in
    let all = at_most r p s (let k = c.place.known_server in omega (arith, k, sound.good.many)) in
    let none = h.placed.none p (omega (arith, due.in_turn)) in
    may_take S stations links arrivals n xs h few sound s c.place.known_server x is p (queue_at s (route_of S.net f).hops) t
    (sound.good.later (Enter f p t b) next_one.due) due.in_trace c.place.known_queue (omega (arith, all, none))
