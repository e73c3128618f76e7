-- What each step keeps of stations and links.
use Rattle.std.specs.Prelude.{Some, ◌≡◌, ◌≢◌, ◌⊎◌, ℕ, zero, suc, pos, ◌<◌, ◌≤◌, List, [], ◌∷◌, ◌++◌, length, get_or, set, map, slice_get}
use Rattle.std.proofs.Common.{arith, refl, sym, ap, ◌∙◌, subst, inl, inr}
use Rattle.std.proofs.lemmas.Bool.{cases_eq, eq-eqb, ne_eqb}
use Rattle.std.proofs.lemmas.List.{get_or-set_same, get_or-set_other, length-map}
use Rattle.std.proofs.Math.ListN.{length-set}
use Rattle.rational.specs.Rational.{ℚ, int, ◌<ℚ◌}
use Rattle.run_laws.specs.Lawful as lawful
use Rattle.run_laws.specs.Lawful.{RunState, without, state_at}
use Rattle.queue_sched.specs.index_links.Chains as chains
use Rattle.queue_sched.specs.index_links.Chains.{Chains, list_at, Has, unlinked, with_list}
use Rattle.queue_sched.proofs.index_links.Members.{has_left, has_right, has_either, has_without, without_has}
use Rattle.net_model.specs.stated_runs.Setups.{Setup}
use Rattle.net_model.proofs.stated_runs.Lists.{In, in_left, in_either, in_without, in_without_other}
use Rattle.sim_servers.specs.declared.station.Station.{Station}
use Rattle.sim_servers.specs.Queues.{room_of}
use Rattle.sim_servers.specs.Stations.{IsStation}
use Rattle.sim_servers.specs.declared.sim_states.arrival.Arrival.{Arrival}
use Rattle.sim_servers.specs.sim_states.Running.{arrival_at, due_at, AreRising, IsAheadOf, AreLinks, AreStations}
use Rattle.sim_servers.specs.sim_states.Places.{dues_of}
use Rattle.sim_servers.proofs.sim_states.Places.{dues_less, no_due, one_same}

-- ---- stations
pub set_same : {X : Type 0} (xs : List X) (s : ℕ) (y : X) → s < length xs → slice_get (set xs s y) s ≡ Some y
set_same [] s y h = absurd (omega (arith, h))
set_same (x ∷ xs) zero y h = refl
set_same (x ∷ xs) (suc s) y h = set_same xs s y (omega (arith, h))

pub set_other : {X : Type 0} (xs : List X) (s k : ℕ) (y : X) → k ≢ s → slice_get (set xs s y) k ≡ slice_get xs k
set_other [] s k y h = refl
set_other (x ∷ xs) zero zero y h = absurd (h refl)
set_other (x ∷ xs) zero (suc k) y h = refl
set_other (x ∷ xs) (suc s) zero y h = refl
set_other (x ∷ xs) (suc s) (suc k) y h = set_other xs s k y (λ e. h (ap suc e))

pub stations_kept : (S : Setup) (r r' : RunState) (stations : List Station) (s : ℕ) (new : Station) → AreStations S r stations → s < length S.net.servers
    → ((k : ℕ) → k ≢ s → state_at r' k ≡ state_at r k) → IsStation S s (state_at r' s) new → room_of new.queues ≡ length S.packets
    → AreStations S r' (set stations s new)
stations_kept S r r' stations s new h known others own room = record {
  many = length-set stations s new ∙ h.many;
  kept = λ k x e. elim (cases_eq k s) [
    | inl i ↦
        let f : Some new ≡ Some x = sym (set_same stations s new (omega (arith, known, h.many))) ∙ ap (slice_get (set stations s new)) (sym i) ∙ e in
        let g : new ≡ x = cc in
        subst (λ j. IsStation S j (state_at r' j) x) (sym i) (subst (λ z. IsStation S s (state_at r' s) z) g own)
    | inr n ↦ subst (λ σ. IsStation S k σ x) (sym (others k n)) (h.kept k x (sym (set_other stations s k new n) ∙ e))
  ];
  rooms = λ k x e. elim (cases_eq k s) [
    | inl i ↦
        let f : Some new ≡ Some x = sym (set_same stations s new (omega (arith, known, h.many))) ∙ ap (slice_get (set stations s new)) (sym i) ∙ e in
        let g : new ≡ x = cc in
        subst (λ (z : Station). room_of z.queues ≡ length S.packets) g room
    | inr n ↦ h.rooms k x (sym (set_other stations s k new n) ∙ e)
  ];
}

-- ---- links: a step that moves no packet on one
pub links_kept : (S : Setup) (r r' : RunState) (links : Chains) (arrivals : List Arrival) → AreLinks S r links arrivals → r'.due ≡ r.due
    → ((s : ℕ) (t : ℚ) → IsAheadOf S s (state_at r s) t → IsAheadOf S s (state_at r' s) t) → AreLinks S r' links arrivals
links_kept S r r' links arrivals h e f = record {
  lists = h.lists;
  nodes = h.nodes;
  long = h.long;
  on_way = λ s p k. subst (λ ds. In ds (due_at arrivals p)) (sym e) (h.on_way s p k);
  linked = λ d i. h.linked d (subst (λ ds. In ds d) e i);
  rising = h.rising;
  ahead = λ s p k. f s (arrival_at arrivals p).time (h.ahead s p k);
}

-- ---- a packet reaches a server
list_without : (links : Chains) (p s : ℕ) → list_at (unlinked links p) s ≡ chains.without p (list_at links s)
list_without links p s = in_map links.lists s
  where
    in_map : (xs : List (List ℕ)) (s : ℕ) → get_or (map (chains.without p) xs) s [] ≡ chains.without p (get_or xs s [])
    in_map [] s = refl
    in_map (x ∷ xs) zero = refl
    in_map (x ∷ xs) (suc s) = in_map xs s

rising_without : (arrivals : List Arrival) (p : ℕ) (ps : List ℕ) → AreRising arrivals ps → AreRising arrivals (chains.without p ps)
rising_without arrivals p [] h = tt
rising_without arrivals p (q ∷ qs) h = elim (cases_eq q p) [
  | inl e ↦
      let a : chains.without p (q ∷ qs) ≡ chains.without p qs = rw (eq-eqb q p e) refl in
      subst (AreRising arrivals) (sym a) (rising_without arrivals p qs h.1)
  | inr n ↦
      let a : chains.without p (q ∷ qs) ≡ q ∷ chains.without p qs = rw (ne_eqb q p n) refl in
      subst (AreRising arrivals) (sym a) ((λ j i. h.0 j (has_without p j qs i).0), rising_without arrivals p qs h.1)
]

pub links_reach : (S : Setup) (r r' : RunState) (links : Chains) (arrivals : List Arrival) (d : lawful.Due) → AreLinks S r links arrivals → In r.due d
    → dues_of d.packet r.due ≤ 1 → r'.due ≡ without d r.due
    → ((s : ℕ) (t : ℚ) → IsAheadOf S s (state_at r s) t → IsAheadOf S s (state_at r' s) t) → AreLinks S r' (unlinked links d.packet) arrivals
links_reach S r r' links arrivals d h i few e f =
    let p = d.packet in
    let one = dues_less p r.due d i in
    let own = one_same p in
    let none : dues_of p (without d r.due) ≡ 0 = omega (arith, one, own, few) in
    record {
      lists = length-map links.lists (chains.without p) ∙ h.lists;
      nodes = h.nodes;
      long = h.long;
      on_way = λ s q k.
          let w = has_without p q (list_at links s) (subst (λ xs. Has xs q) (list_without links p s) k) in
          subst (λ ds. In ds (due_at arrivals q)) (sym e) (in_without_other d r.due (due_at arrivals q) (h.on_way s q w.0) w.1);
      linked = λ c j.
          let there : In (without d r.due) c = subst (λ ds. In ds c) e j in
          let l = h.linked c (in_without d r.due c there) in
          (l.0, subst (λ xs. Has xs c.packet) (sym (list_without links p l.0)) (without_has p c.packet (list_at links l.0) l.1 (no_due (without d r.due) p none c there)), l.2);
      rising = λ s. subst (AreRising arrivals) (sym (list_without links p s)) (rising_without arrivals p (list_at links s) (h.rising s));
      ahead = λ s q k.
          let w = has_without p q (list_at links s) (subst (λ xs. Has xs q) (list_without links p s) k) in
          f s (arrival_at arrivals q).time (h.ahead s q w.0);
    }

-- ---- a packet leaves for another server
in_last : {X : Type 0} (xs : List X) (x : X) → In (xs ++ x ∷ []) x
in_last [] x = inl refl
in_last (y ∷ ys) x = inr (in_last ys x)

others_same : (arrivals : List Arrival) (p q : ℕ) (a : Arrival) → q ≢ p → arrival_at (set arrivals p a) q ≡ arrival_at arrivals q
others_same arrivals p q a n = get_or-set_other arrivals p q a record { server = 0; time = int (pos 0) } n

rising_same : (arrivals : List Arrival) (p : ℕ) (a : Arrival) (ps : List ℕ) → ¬ (Has ps p) → AreRising arrivals ps → AreRising (set arrivals p a) ps
rising_same arrivals p a [] n h = tt
rising_same arrivals p a (q ∷ qs) n h = (
  (λ j i. subst (λ x. x <ℚ (arrival_at (set arrivals p a) j).time) (ap (λ (z : Arrival). z.time) (sym (others_same arrivals p q a (λ e. n (inl e)))))
      (subst (λ x. (arrival_at arrivals q).time <ℚ x) (ap (λ (z : Arrival). z.time) (sym (others_same arrivals p j a (λ e. n (inr (subst (Has qs) e i)))))) (h.0 j i))),
  rising_same arrivals p a qs (λ i. n (inr i)) h.1,
)

rising_push : (arrivals : List Arrival) (p : ℕ) (ps : List ℕ) → AreRising arrivals ps → ((q : ℕ) → Has ps q → (arrival_at arrivals q).time <ℚ (arrival_at arrivals p).time)
    → AreRising arrivals (ps ++ p ∷ [])
rising_push arrivals p [] h l = ((λ q i. absurd i), tt)
rising_push arrivals p (q ∷ qs) h l = (
  (λ j i. elim (has_either qs (p ∷ []) j i) [
    | inl k ↦ h.0 j k
    | inr k ↦ elim k [ inl e ↦ subst (λ z. (arrival_at arrivals q).time <ℚ (arrival_at arrivals z).time) e (l q (inl refl)) | inr z ↦ absurd z ]
  ]),
  rising_push arrivals p qs h.1 (λ j i. l j (inr i)),
)

pub links_leave : (S : Setup) (r r' : RunState) (links : Chains) (arrivals : List Arrival) (s p : ℕ) (a : Arrival) → AreLinks S r links arrivals
    → s < length S.net.servers → p < length S.packets → ((k : ℕ) → ¬ (Has (list_at links k) p))
    → r'.due ≡ r.due ++ record { packet = p; server = a.server; time = a.time } ∷ []
    → ((q : ℕ) → Has (list_at links s) q → (arrival_at arrivals q).time <ℚ a.time)
    → ((k : ℕ) (t : ℚ) → IsAheadOf S k (state_at r k) t → IsAheadOf S k (state_at r' k) t) → IsAheadOf S s (state_at r' s) a.time
    → AreLinks S r' (with_list links s (list_at links s ++ p ∷ [])) (set arrivals p a)
links_leave S r r' links arrivals s p a h known in_trace free e later f own =
    let d : lawful.Due = record { packet = p; server = a.server; time = a.time } in
    let here : arrival_at (set arrivals p a) p ≡ a = get_or-set_same arrivals p a record { server = 0; time = int (pos 0) } (omega (arith, in_trace, h.long)) in
    let mine : due_at (set arrivals p a) p ≡ d = ap (λ (z : Arrival). let x : lawful.Due = record { packet = p; server = z.server; time = z.time } in x) here in
    let at_s : list_at (with_list links s (list_at links s ++ p ∷ [])) s ≡ list_at links s ++ p ∷ [] =
    get_or-set_same links.lists s (list_at links s ++ p ∷ []) [] (omega (arith, known, h.lists)) in
    let at_k : (k : ℕ) → k ≢ s → list_at (with_list links s (list_at links s ++ p ∷ [])) k ≡ list_at links k =
    λ k n. get_or-set_other links.lists s k (list_at links s ++ p ∷ []) [] n in
    let old_due : (k q : ℕ) → Has (list_at links k) q → due_at (set arrivals p a) q ≡ due_at arrivals q = λ k q i.
    ap (λ (z : Arrival). let x : lawful.Due = record { packet = q; server = z.server; time = z.time } in x) (others_same arrivals p q a (λ g. free k (subst (Has (list_at links k)) g i))) in
    let where_is : (k q : ℕ) → Has (list_at (with_list links s (list_at links s ++ p ∷ [])) k) q → Has (list_at links k) q ⊎ ((p ≡ q) × (k ≡ s)) = λ k q i.
    elim (cases_eq k s) [
      | inl g ↦
          let j : Has (list_at links s ++ p ∷ []) q = subst (λ xs. Has xs q) (ap (λ z. list_at (with_list links s (list_at links s ++ p ∷ [])) z) g ∙ at_s) i in
          elim (has_either (list_at links s) (p ∷ []) q j) [
            | inl m ↦ inl (subst (λ z. Has (list_at links z) q) (sym g) m)
            | inr m ↦ elim m [ inl z ↦ inr (z, g) | inr z ↦ absurd z ]
          ]
      | inr n ↦ inl (subst (λ xs. Has xs q) (at_k k n) i)
    ] in
    record {
      lists = length-set links.lists s (list_at links s ++ p ∷ []) ∙ h.lists;
      nodes = h.nodes;
      long = length-set arrivals p a ∙ h.long;
      on_way = λ k q i. subst (λ ds. In ds (due_at (set arrivals p a) q)) (sym e) (elim (where_is k q i) [
        | inl m ↦ in_left r.due (d ∷ []) (due_at (set arrivals p a) q) (subst (In r.due) (sym (old_due k q m)) (h.on_way k q m))
        | inr m ↦ subst (λ z. In (r.due ++ d ∷ []) (due_at (set arrivals p a) z)) m.0 (subst (In (r.due ++ d ∷ [])) (sym mine) (in_last r.due d))
      ]);
      linked = λ c i. elim (in_either r.due d c (subst (λ ds. In ds c) e i)) [
        | inl m ↦
            let l = h.linked c m in
            (l.0, still l.0 c.packet l.1, old_due l.0 c.packet l.1 ∙ l.2)
        | inr g ↦ (
          s,
          subst (λ z. Has (list_at (with_list links s (list_at links s ++ p ∷ [])) s) z) (ap (λ (z : lawful.Due). z.packet) g)
              (subst (λ xs. Has xs p) (sym at_s) (has_right (list_at links s) (p ∷ []) p (inl refl))),
          ap (due_at (set arrivals p a)) (ap (λ (z : lawful.Due). z.packet) (sym g)) ∙ mine ∙ g,
        )
      ];
      rising = λ k. elim (cases_eq k s) [
        | inl g ↦ subst (λ z. AreRising (set arrivals p a) (list_at (with_list links s (list_at links s ++ p ∷ [])) z)) (sym g)
            (subst (AreRising (set arrivals p a)) (sym at_s) (rising_push (set arrivals p a) p (list_at links s)
            (rising_same arrivals p a (list_at links s) (free s) (h.rising s))
            (λ q i. subst (λ x. (arrival_at (set arrivals p a) q).time <ℚ x) (ap (λ (z : Arrival). z.time) (sym here))
            (subst (λ x. x <ℚ a.time) (ap (λ (z : lawful.Due). z.time) (sym (old_due s q i))) (later q i)))))
        | inr n ↦ subst (AreRising (set arrivals p a)) (sym (at_k k n)) (rising_same arrivals p a (list_at links k) (free k) (h.rising k))
      ];
      ahead = λ k q i. elim (where_is k q i) [
        | inl m ↦ subst (IsAheadOf S k (state_at r' k)) (ap (λ (z : lawful.Due). z.time) (sym (old_due k q m))) (f k (arrival_at arrivals q).time (h.ahead k q m))
        | inr m ↦ subst (λ z. IsAheadOf S z (state_at r' z) (arrival_at (set arrivals p a) q).time) (sym m.1)
            (subst (IsAheadOf S s (state_at r' s)) (ap (λ (z : Arrival). z.time) (sym here) ∙ ap (λ j. (arrival_at (set arrivals p a) j).time) m.0) own)
      ];
    }
  where
    still : (k q : ℕ) → Has (list_at links k) q → Has (list_at (with_list links s (list_at links s ++ p ∷ [])) k) q
    still k q i = elim (cases_eq k s) [
      | inl g ↦ subst (λ z. Has (list_at (with_list links s (list_at links s ++ p ∷ [])) z) q) (sym g)
          (subst (λ xs. Has xs q) (sym (get_or-set_same links.lists s (list_at links s ++ p ∷ []) [] (omega (arith, known, h.lists))))
          (has_left (list_at links s) (p ∷ []) q (subst (λ z. Has (list_at links z) q) g i)))
      | inr n ↦ subst (λ xs. Has xs q) (sym (get_or-set_other links.lists s k (list_at links s ++ p ∷ []) [] n)) i
    ]
