-- Deficit round robin: what holds of the list of queues, the visit and the deficits is kept by every step.
use Rattle.std.specs.Prelude.{Option, Some, None, ◌≡◌, ◌≢◌, ◌≤◌, ◌+◌, ◌-◌, ℕ, zero, suc, ◌==◌, nat_le, List, [], ◌∷◌, ◌++◌, get_or, set, drop}
use Rattle.std.proofs.Common.{arith, sym, ap, ◌∙◌, refl, inl, inr, subst}
use Rattle.std.proofs.lemmas.Bool.{cases_Bool, cases_eq, eqb-true, eq-eqb, ne_eqb, leb-true, leb-false}
use Rattle.std.proofs.lemmas.List.{get_or-set_other}
use Rattle.rational.specs.Rational.{ℚ}
use Rattle.run_laws.specs.Cards.{Card, ServerStep, Arrives, Works, Leaves, Visits, of_queue}
use Rattle.run_laws.specs.Servers.{Discipline, Drr, Server, Round, Under, ServerState, head_of, without_head, Fifo, Priority}
use Rattle.run_laws.specs.Next.{next_inside, next_under, next_visits, fits, to_tail, left_round, arrived_round, worked_round, visited_round}
use Rattle.run_laws.specs.Allows.{Allows, MayLeave, IsFirst, IsVisit, MayVisit, visited_head, next_card}
use Rattle.run_laws.specs.Rounds.{presence, same_queue, count_of, VisitIsFirst, IsRound}
use Rattle.run_laws.proofs.Heads.{same_some, head_push, head_queue}
use Rattle.run_laws.proofs.States.{IsSoundFor, leaving}
use Rattle.run_laws.proofs.Orders.{AllSmall, small_head}

-- ---- lists of queues
pub count-append : (j : ℕ) (ks ms : List ℕ) → count_of j (ks ++ ms) ≡ count_of j ks + count_of j ms
count-append j [] ms = omega arith
count-append j (k ∷ ks) ms = let h = count-append j ks ms in omega arith

pub count_tail : (j : ℕ) (ks : List ℕ) → count_of j (to_tail ks) ≡ count_of j ks
count_tail j [] = refl
count_tail j (k ∷ ks) = let h = count-append j ks (k ∷ []) in omega arith

pub own_count : (j : ℕ) → same_queue j j ≡ 1
own_count j = rw (eq-eqb j j refl)

pub other_count : (k j : ℕ) → k ≢ j → same_queue k j ≡ 0
other_count k j h = rw (ne_eqb k j h)

-- a visit begins only where no packet is under way
pub visit_idle : (d : Discipline) (σ : ServerState) (q : ℕ) → MayVisit d σ q → σ.under ≡ None
visit_idle Fifo σ q m = absurd m
visit_idle (Priority n) σ q m = absurd m
visit_idle (Drr quanta) σ q m = m.idle

first_push : (j k : ℕ) (ks : List ℕ) → IsFirst j ks → IsFirst j (ks ++ k ∷ [])
first_push j k [] h = absurd h
first_push j k (m ∷ ks) h = h

visit_push : (v : Option ℕ) (k : ℕ) (ks : List ℕ) → VisitIsFirst v ks → VisitIsFirst v (ks ++ k ∷ [])
visit_push None k ks h = tt
visit_push (Some j) k ks h = first_push j k ks h

pub first_counts : (j : ℕ) (ks : List ℕ) → IsFirst j ks → 1 ≤ count_of j ks
first_counts j [] h = absurd h
first_counts j (k ∷ ks) h = let e : same_queue k j ≡ 1 = rw h (own_count j) in omega arith

-- without its head
pub count_rest : (j q : ℕ) (ks : List ℕ) → IsFirst q ks → count_of j ks ≡ same_queue q j + count_of j (drop 1 ks)
count_rest j q [] h = absurd h
count_rest j q (k ∷ ks) h = rw h refl

-- ---- the heads of other queues
pub head_push_none : (j : ℕ) (d : Card) (cs : List Card) → d.queue ≢ j → head_of j (cs ++ d ∷ []) ≡ head_of j cs
head_push_none j d [] h = rw (ne_eqb d.queue j h) refl
head_push_none j d (c ∷ cs) h = elim (cases_Bool (c.queue == j)) [
  | inl e ↦ rw e refl
  | inr e ↦ rw e (head_push_none j d cs h)
]

pub head_push_own : (d : Card) (cs : List Card) → presence (head_of d.queue (cs ++ d ∷ [])) ≡ 1
head_push_own d [] = rw (eq-eqb d.queue d.queue refl) refl
head_push_own d (c ∷ cs) = elim (cases_Bool (c.queue == d.queue)) [
  | inl e ↦ rw e refl
  | inr e ↦ rw e (head_push_own d cs)
]

pub head_without : (j q : ℕ) (cs : List Card) → q ≢ j → head_of j (without_head q cs) ≡ head_of j cs
head_without j q [] h = refl
head_without j q (c ∷ cs) h = elim (cases_Bool (c.queue == q)) [
  | inl e ↦
      let f = eqb-true c.queue q e in
      rw (e, ne_eqb c.queue j (λ g. h (sym f ∙ g))) refl
  | inr e ↦ elim (cases_Bool (c.queue == j)) [
    | inl k ↦ rw (e, k) refl
    | inr k ↦ rw (e, k) (head_without j q cs h)
  ]
]

-- ---- deficits
pub set_most : (xs : List ℕ) (i v : ℕ) → get_or (set xs i v) i 0 ≤ v
set_most [] i v = omega arith
set_most (x ∷ xs) zero v = omega arith
set_most (x ∷ xs) (suc i) v = set_most xs i v

pub set_none : (xs : List ℕ) (i : ℕ) → get_or (set xs i 0) i 0 ≡ 0
set_none xs i = let h = set_most xs i 0 in omega arith

pub set_other : (xs : List ℕ) (i j v : ℕ) → j ≢ i → get_or (set xs i v) j 0 ≡ get_or xs j 0
set_other xs i j v h = get_or-set_other xs i j v 0 h

-- ---- each step keeps it
pub round_arrives : (Q l : ℕ → ℕ) (cards : List Card) (under : Option Under) (r : Round) (c : Card) (x : Option Card)
    → head_of c.queue cards ≡ x → IsRound Q l cards under r → IsRound Q l (cards ++ c ∷ []) under (arrived_round x c.queue r)
round_arrives Q l cards under r c None e h = record {
  lists = λ j. elim (cases_eq c.queue j) [
    | inl f ↦
        let k = h.lists c.queue in
        let m = count-append c.queue r.active (c.queue ∷ []) in
        let o = own_count c.queue in
        let p = head_push_own c cards in
        let z : presence (head_of c.queue cards) ≡ 0 = ap presence e in
        subst (λ (i : ℕ). count_of i (r.active ++ c.queue ∷ []) ≡ presence (head_of i (cards ++ c ∷ []))) f (omega arith)
    | inr f ↦
        let k = h.lists j in
        let m = count-append j r.active (c.queue ∷ []) in
        let o = other_count c.queue j f in
        rw (head_push_none j c cards f) (omega arith)
  ];
  is_first = visit_push r.visited c.queue r.active h.is_first;
  of_visit = h.of_visit;
  empty = λ j k. h.empty j (none_before j c cards k);
  closed = h.closed;
  opened = h.opened;
}
  where
    none_before : (j : ℕ) (c : Card) (cards : List Card) → head_of j (cards ++ c ∷ []) ≡ None → head_of j cards ≡ None
    none_before j c cards k = by_head j c cards (head_of j cards) refl k
      where
        by_head : (j : ℕ) (c : Card) (cards : List Card) (x : Option Card) → head_of j cards ≡ x → head_of j (cards ++ c ∷ []) ≡ None
            → head_of j cards ≡ None
        by_head j c cards None m k = m
        by_head j c cards (Some d) m k = let p = head_push j d c cards m in absurd (cc)
round_arrives Q l cards under r c (Some d) e h = record {
  lists = λ j. elim (cases_eq c.queue j) [
    | inl f ↦
        let k = h.lists c.queue in
        let p = head_push_own c cards in
        let z : presence (head_of c.queue cards) ≡ 1 = ap presence e in
        subst (λ (i : ℕ). count_of i r.active ≡ presence (head_of i (cards ++ c ∷ []))) f (omega arith)
    | inr f ↦ rw (head_push_none j c cards f) (h.lists j)
  ];
  is_first = h.is_first;
  of_visit = h.of_visit;
  empty = λ j k. elim (cases_eq c.queue j) [
    | inl f ↦
        let p = head_push_own c cards in
        let q : presence (head_of c.queue (cards ++ c ∷ [])) ≡ 0 = ap presence (subst (λ (i : ℕ). head_of i (cards ++ c ∷ []) ≡ None) (sym f) k) in
        absurd (omega arith)
    | inr f ↦ h.empty j (sym (head_push_none j c cards f) ∙ k)
  ];
  closed = h.closed;
  opened = h.opened;
}

-- what a packet that may be started says of the visit
pub record IsStarted (r : Round) (cards : List Card) (c : Card) : Type 0 where
  pub visited : r.visited ≡ Some c.queue
  pub is_head : head_of c.queue cards ≡ Some c
  pub fitting : c.bits ≤ get_or r.deficits c.queue 0

fitting_head : (x : Option Card) (deficit : ℕ) (c : Card) → fits x deficit ≡ Some c → (x ≡ Some c) × (c.bits ≤ deficit)
fitting_head None deficit c h = absurd (cc)
fitting_head (Some d) deficit c h = elim (cases_Bool (nat_le d.bits deficit)) [
  | inl e ↦
      let k : Some d ≡ Some c = rw e at h in
      let same : d ≡ c = same_some d c k in
      (k, subst (λ (y : Card). y.bits ≤ deficit) same (leb-true d.bits deficit e))
  | inr e ↦ let k = rw e at h in absurd (cc)
]

pub is_started : (r : Round) (v : Option ℕ) (cards : List Card) (c : Card) → r.visited ≡ v → visited_head v r.deficits cards ≡ Some c
    → IsStarted r cards c
is_started r None cards c e h = absurd (cc)
is_started r (Some q) cards c e h =
    let k = fitting_head (head_of q cards) (get_or r.deficits q 0) c h in
    let own : c.queue ≡ q = head_queue q c cards k.0 in
    record {
      visited = e ∙ ap (λ (i : ℕ). Some i) (sym own);
      is_head = subst (λ (i : ℕ). head_of i cards ≡ Some c) (sym own) k.0;
      fitting = subst (λ (i : ℕ). c.bits ≤ get_or r.deficits i 0) (sym own) k.1;
    }

pub round_works : (Q l : ℕ → ℕ) (quanta : List ℕ) (cards : List Card) (under after : Option Under) (r : Round) (c : Card) (u : Under)
    → after ≡ Some u → u.card ≡ c → next_card under (Drr quanta) cards r ≡ Some c → IsRound Q l cards under r
    → IsRound Q l cards (Some u) (worked_round under c r)
round_works Q l quanta cards None after r c u e f n h =
    let s = is_started r r.visited cards c refl n in
    let fit = s.fitting in
    record {
      lists = h.lists;
      is_first = h.is_first;
      of_visit = s.visited ∙ ap (λ (y : Card). Some y.queue) (sym f);
      empty = λ j k. elim (cases_eq j c.queue) [
        | inl g ↦
            let m : head_of j cards ≡ Some c = subst (λ (i : ℕ). head_of i cards ≡ Some c) (sym g) s.is_head in
            absurd (cc)
        | inr g ↦ set_other r.deficits c.queue j _ g ∙ h.empty j k
      ];
      closed = λ j k. elim (cases_eq j c.queue) [
        | inl g ↦ absurd (k (s.visited ∙ ap (λ (i : ℕ). Some i) (sym g)))
        | inr g ↦ let m = set_other r.deficits c.queue j (get_or r.deficits c.queue 0 - c.bits) g in let o = h.closed j k in omega arith
      ];
      opened = λ j k.
          let g : c.queue ≡ j = same_some c.queue j (sym s.visited ∙ k) in
          let m = set_most r.deficits c.queue (get_or r.deficits c.queue 0 - c.bits) in
          let o = h.opened c.queue s.visited in
          let b : u.card.bits ≡ c.bits = ap (λ (y : Card). y.bits) f in
          subst (λ (i : ℕ). get_or (set r.deficits c.queue (get_or r.deficits c.queue 0 - c.bits)) i 0 + u.card.bits ≤ l i + Q i) g (omega arith);
    }
round_works Q l quanta cards (Some v) after r c u e f n h =
    let same : v.card ≡ c = same_some v.card c n in
    let equal : v.card ≡ u.card = same ∙ sym f in
    record {
      lists = h.lists;
      is_first = h.is_first;
      of_visit = h.of_visit ∙ ap (λ (y : Card). Some y.queue) equal;
      empty = h.empty;
      closed = h.closed;
      opened = λ j k. let o = h.opened j k in let b : v.card.bits ≡ u.card.bits = ap (λ (y : Card). y.bits) equal in omega arith;
    }

-- a packet of queue q left
pub record HasLeft (Q l : ℕ → ℕ) (cards : List Card) (r : Round) (q : ℕ) : Type 0 where
  pub lists : (j : ℕ) → j ≢ q → count_of j r.active ≡ presence (head_of j cards)
  pub once : count_of q r.active ≡ 1
  pub is_first : IsFirst q r.active
  pub visited : r.visited ≡ Some q
  pub empty : (j : ℕ) → j ≢ q → head_of j cards ≡ None → get_or r.deficits j 0 ≡ 0
  pub closed : (j : ℕ) → j ≢ q → get_or r.deficits j 0 ≤ l j
  pub opened : get_or r.deficits q 0 ≤ l q + Q q

present : (Q l : ℕ → ℕ) (cards : List Card) (r : Round) (q : ℕ) (c : Card) → head_of q cards ≡ Some c → HasLeft Q l cards r q → (j : ℕ)
    → count_of j r.active ≡ presence (head_of j cards)
present Q l cards r q c e h j = elim (cases_eq j q) [
  | inl f ↦
      let o = h.once in
      let z : presence (head_of q cards) ≡ 1 = ap presence e in
      subst (λ (i : ℕ). count_of i r.active ≡ presence (head_of i cards)) (sym f) (omega arith)
  | inr f ↦ h.lists j f
]

none : (Q l : ℕ → ℕ) (cards : List Card) (r : Round) (q : ℕ) (c : Card) → head_of q cards ≡ Some c → HasLeft Q l cards r q → (j : ℕ)
    → head_of j cards ≡ None → get_or r.deficits j 0 ≡ 0
none Q l cards r q c e h j k = elim (cases_eq j q) [
  | inl f ↦
      let m : head_of q cards ≡ None = subst (λ (i : ℕ). head_of i cards ≡ None) f k in
      absurd (cc)
  | inr f ↦ h.empty j f k
]

pub round_left : (Q l : ℕ → ℕ) (cards : List Card) (r : Round) (q : ℕ) (x : Option Card) → head_of q cards ≡ x
    → ((c : Card) → head_of q cards ≡ Some c → c.bits ≤ l q) → HasLeft Q l cards r q → IsRound Q l cards None (left_round x q r)
round_left Q l cards r q None e small h = record {
  lists = λ j. elim (cases_eq j q) [
    | inl f ↦
        let k = count_rest q q r.active h.is_first in
        let o = own_count q in
        let w = h.once in
        let z : presence (head_of q cards) ≡ 0 = ap presence e in
        subst (λ (i : ℕ). count_of i (drop 1 r.active) ≡ presence (head_of i cards)) (sym f) (omega arith)
    | inr f ↦
        let k = count_rest j q r.active h.is_first in
        let o = other_count q j (λ g. f (sym g)) in
        let m = h.lists j f in
        omega arith
  ];
  is_first = tt;
  of_visit = tt;
  empty = λ j k. elim (cases_eq j q) [
    | inl f ↦ subst (λ (i : ℕ). get_or (set r.deficits q 0) i 0 ≡ 0) (sym f) (set_none r.deficits q)
    | inr f ↦ set_other r.deficits q j 0 f ∙ h.empty j f k
  ];
  closed = λ j k. elim (cases_eq j q) [
    | inl f ↦ let m = set_none r.deficits q in subst (λ (i : ℕ). get_or (set r.deficits q 0) i 0 ≤ l i) (sym f) (omega arith)
    | inr f ↦ let m = set_other r.deficits q j 0 f in let o = h.closed j f in omega arith
  ];
  opened = λ j k. absurd (cc);
}
round_left Q l cards r q (Some c) e small h = elim (cases_Bool (nat_le c.bits (get_or r.deficits q 0))) [
  | inl f ↦ rw f record {
    lists = present Q l cards r q c e h;
    is_first = h.is_first;
    of_visit = tt;
    empty = none Q l cards r q c e h;
    closed = λ j k. h.closed j (λ g. k (ap (λ (i : ℕ). Some i) (sym g)));
    opened = λ j k.
        let g : q ≡ j = same_some q j k in
        let o = h.opened in
        subst (λ (i : ℕ). get_or r.deficits i 0 + 0 ≤ l i + Q i) g (omega arith);
  }
  | inr f ↦ rw f record {
    lists = λ j. count_tail j r.active ∙ present Q l cards r q c e h j;
    is_first = tt;
    of_visit = tt;
    empty = none Q l cards r q c e h;
    closed = λ j k. elim (cases_eq j q) [
      | inl g ↦
          let o = leb-false c.bits (get_or r.deficits q 0) f in
          let s = small c e in
          subst (λ (i : ℕ). get_or r.deficits i 0 ≤ l i) (sym g) (omega arith)
      | inr g ↦ h.closed j g
    ];
    opened = λ j k. absurd (cc);
  }
]

-- a packet under way leaves
pub has_left : (Q l : ℕ → ℕ) (cards : List Card) (busy : ℚ) (under : Option Under) (r : Round) (c : Card) (t : ℚ)
    → IsSoundFor cards busy under → MayLeave under c t → IsRound Q l cards under r → HasLeft Q l (without_head c.queue cards) r c.queue
has_left Q l cards busy None r c t s m h = absurd m
has_left Q l cards busy (Some u) r c t s m h =
    let v : r.visited ≡ Some c.queue = h.of_visit ∙ ap (λ (y : Card). Some y.queue) m.is_card in
    let head = leaving cards busy (Some u) c t s m in
    let o = h.opened c.queue v in
    record {
      lists = λ j k. rw (head_without j c.queue cards (λ g. k (sym g))) (h.lists j);
      once = h.lists c.queue ∙ ap presence head;
      is_first = subst (λ (x : Option ℕ). VisitIsFirst x r.active) v h.is_first;
      visited = v;
      empty = λ j k n. h.empty j (sym (head_without j c.queue cards (λ g. k (sym g))) ∙ n);
      closed = λ j k. h.closed j (λ g. k (same_some j c.queue (sym g ∙ v)));
      opened = omega arith;
    }

-- a visit
pub round_visits : (Q l : ℕ → ℕ) (cards : List Card) (r : Round) (q : ℕ) (x : Option Card) → head_of q cards ≡ x
    → ((c : Card) → head_of q cards ≡ Some c → c.bits ≤ l q) → r.visited ≡ None → IsFirst q r.active → IsRound Q l cards None r
    → IsRound Q l cards None (visited_round (Q q) x q r)
round_visits Q l cards r q None e small v f h =
    let k = h.lists q in
    let m = first_counts q r.active f in
    let z : presence (head_of q cards) ≡ 0 = ap presence e in
    absurd (omega arith)
round_visits Q l cards r q (Some c) e small v f h =
    let d = get_or r.deficits q 0 + Q q in
    let before = h.closed q (λ g. let k : None ≡ Some q = sym v ∙ g in (cc)) in
    let most = set_most r.deficits q d in
    let empty : (j : ℕ) → head_of j cards ≡ None → get_or (set r.deficits q d) j 0 ≡ 0 =
    λ j k. elim (cases_eq j q) [
      | inl g ↦
          let m : head_of q cards ≡ None = subst (λ (i : ℕ). head_of i cards ≡ None) g k in
          absurd (cc)
      | inr g ↦ set_other r.deficits q j d g ∙ h.empty j k
    ] in
    let others : (j : ℕ) → j ≢ q → get_or (set r.deficits q d) j 0 ≤ l j =
    λ j g.
    let m = set_other r.deficits q j d g in
    let o = h.closed j (λ i. let k : None ≡ Some j = sym v ∙ i in (cc)) in
    omega arith in
    elim (cases_Bool (nat_le c.bits d)) [
      | inl i ↦ rw i record {
        lists = h.lists;
        is_first = f;
        of_visit = tt;
        empty = empty;
        closed = λ j k. others j (λ g. k (ap (λ (n : ℕ). Some n) (sym g)));
        opened = λ j k.
            let g : q ≡ j = same_some q j k in
            subst (λ (n : ℕ). get_or (set r.deficits q d) n 0 + 0 ≤ l n + Q n) g (omega arith);
      }
      | inr i ↦ rw i record {
        lists = λ j. count_tail j r.active ∙ h.lists j;
        is_first = tt;
        of_visit = tt;
        empty = empty;
        closed = λ j k. elim (cases_eq j q) [
          | inl g ↦
              let o = leb-false c.bits d i in
              let s = small c e in
              subst (λ (n : ℕ). get_or (set r.deficits q d) n 0 ≤ l n) (sym g) (omega arith)
          | inr g ↦ others j g
        ];
        opened = λ j k. absurd (cc);
      }
    ]

-- ---- so each step keeps it
pub round_next : (server : Server) (end : ℚ) (quanta : List ℕ) (l : ℕ → ℕ) (σ : ServerState) (x : ServerStep)
    → server.discipline ≡ Drr quanta → Allows server end σ x → IsSoundFor σ.inside σ.busy σ.under
    → ((q : ℕ) → AllSmall (of_queue q) (l q) (next_inside σ.inside x)) → ((q : ℕ) → AllSmall (of_queue q) (l q) σ.inside)
    → IsRound (λ q. get_or quanta q 0) l σ.inside σ.under σ.round
    → IsRound (λ q. get_or quanta q 0) l (next_inside σ.inside x) (next_under σ.under x) (next_visits quanta σ x)
round_next server end quanta l σ (Arrives c t) e a s small small_now h = round_arrives (λ q. get_or quanta q 0) l σ.inside σ.under σ.round c (head_of c.queue σ.inside) refl h
round_next server end quanta l σ (Works c b f w) e a s small small_now h =
    let n : next_card σ.under (Drr quanta) σ.inside σ.round ≡ Some c = subst (λ (d : Discipline). next_card σ.under d σ.inside σ.round ≡ Some c) e a.1.is_next in
    round_works (λ q. get_or quanta q 0) l quanta σ.inside σ.under (next_under σ.under (Works c b f w)) σ.round c _ refl refl n h
round_next server end quanta l σ (Leaves c t) e a s small small_now h =
    let left = has_left (λ q. get_or quanta q 0) l σ.inside σ.busy σ.under σ.round c t s a.1 h in
    round_left (λ q. get_or quanta q 0) l (without_head c.queue σ.inside) σ.round c.queue (head_of c.queue (without_head c.queue σ.inside)) refl
    (λ d k. head_small c.queue (without_head c.queue σ.inside) l d (small c.queue) k) left
  where
    head_small : (q : ℕ) (cards : List Card) (l : ℕ → ℕ) (d : Card) → AllSmall (of_queue q) (l q) cards → head_of q cards ≡ Some d
        → d.bits ≤ l q
    head_small q cards l d small k = small_head (of_queue q) (l q) q d cards small k (eq-eqb d.queue q (head_queue q d cards k))
round_next server end quanta l σ (Visits q t) e a s small small_now h =
    let v : IsVisit σ q = subst (λ (d : Discipline). MayVisit d σ q) e a.1 in
    let idle : IsRound (λ q. get_or quanta q 0) l σ.inside None σ.round = subst (λ (u : Option Under). IsRound (λ q. get_or quanta q 0) l σ.inside u σ.round) v.idle h in
    let k = round_visits (λ q. get_or quanta q 0) l σ.inside σ.round q (head_of q σ.inside) refl
    (λ d k. small_head (of_queue q) (l q) q d σ.inside (small_now q) k (eq-eqb d.queue q (head_queue q d σ.inside k))) v.no_visit v.is_first idle in
    subst (λ (u : Option Under). IsRound (λ q. get_or quanta q 0) l σ.inside u (visited_round (get_or quanta q 0) (head_of q σ.inside) q σ.round)) (sym v.idle) k
