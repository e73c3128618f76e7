-- Deficit round robin: while a queue is not empty, each other queue has at most one turn more than it.
use Rattle.std.specs.Prelude.{Option, Some, None, ◌≡◌, ◌≢◌, ◌⊎◌, ◌≤◌, ◌+◌, ◌-◌, ◌*◌, ℕ, zero, suc, ◌==◌, nat_le, Bool, true, false, List, [], ◌∷◌, ◌++◌, get_or, set, drop, if◌then◌else◌}
use Rattle.std.proofs.Common.{arith, sym, ap, ◌∙◌, refl, inl, inr, subst}
use Rattle.std.proofs.lemmas.Bool.{cases_Bool, cases_eq, cases_lt, eqb-true, eq-eqb, ne_eqb, both_ways}
use Rattle.run_laws.specs.Cards.{Card}
use Rattle.run_laws.specs.Servers.{Drr, Round, Under, head_of}
use Rattle.run_laws.specs.Next.{fits, to_tail, rotated, visit_on, left_round, arrived_round, worked_round, visited_round}
use Rattle.run_laws.specs.Allows.{IsFirst, next_card}
use Rattle.run_laws.proofs.Heads.{same_some}
use Rattle.run_laws.specs.Rounds.{presence, same_queue, count_of, IsRound}
use Rattle.run_laws.proofs.Rounds.{is_started, own_count, other_count, first_counts, head_push_none, set_most, set_none, set_other}
use Rattle.std.proofs.lemmas.Option.{none-some}

-- queue i stands in the list before any j
abbrev pub ahead : ℕ → ℕ → List ℕ → Bool
ahead i j [] = false
ahead i j (k ∷ ks) = if k == i then true else if k == j then false else ahead i j ks

ahead_push : (i j k : ℕ) (ks : List ℕ) → 1 ≤ count_of i ks → count_of j ks ≡ 0 → ahead i j (ks ++ k ∷ []) ≡ true
ahead_push i j k [] h e = absurd (omega arith)
ahead_push i j k (m ∷ ks) h e = elim (cases_Bool (m == i)) [
  | inl f ↦ rw f refl
  | inr f ↦
      let not_j : (m == j) ≡ false = by_count m j (omega arith) in
      let rest : 1 ≤ count_of i ks = by_other m i (count_of i ks) f h in
      rw (f, not_j) (ahead_push i j k ks rest (omega arith))
]
  where
    by_count : (m j : ℕ) → same_queue m j ≡ 0 → (m == j) ≡ false
    by_count m j h = elim (cases_Bool (m == j)) [
      | inl e ↦ let k : same_queue m j ≡ suc zero = rw e refl in absurd (omega arith)
      | inr e ↦ e
    ]

    by_other : (m i n : ℕ) → (m == i) ≡ false → 1 ≤ same_queue m i + n → 1 ≤ n
    by_other m i n f h = let k : same_queue m i ≡ 0 = rw f refl in omega arith

ahead_other : (i j k : ℕ) (ks : List ℕ) → k ≢ i → k ≢ j → ahead i j (ks ++ k ∷ []) ≡ ahead i j ks
ahead_other i j k [] a b = rw (ne_eqb k i a, ne_eqb k j b) refl
ahead_other i j k (m ∷ ks) a b = elim (cases_Bool (m == i)) [
  | inl f ↦ rw f refl
  | inr f ↦ elim (cases_Bool (m == j)) [
    | inl g ↦ rw (f, g) refl
    | inr g ↦ rw (f, g) (ahead_other i j k ks a b)
  ]
]

ahead_rest : (i j k : ℕ) (ks : List ℕ) → IsFirst k ks → k ≢ i → k ≢ j → ahead i j ks ≡ ahead i j (drop 1 ks)
ahead_rest i j k [] h a b = absurd h
ahead_rest i j k (m ∷ ks) h a b = rw (h, ne_eqb k i a, ne_eqb k j b) refl

ahead_tail : (i j k : ℕ) (ks : List ℕ) → IsFirst k ks → k ≢ i → k ≢ j → ahead i j (to_tail ks) ≡ ahead i j ks
ahead_tail i j k [] h a b = refl
ahead_tail i j k (m ∷ ks) h a b = rw h (ahead_other i j k ks a b ∙ sym (ahead_rest i j k (k ∷ ks) refl a b))

-- j goes from the head to the tail
ahead_moved : (i j : ℕ) (ks : List ℕ) → IsFirst j ks → j ≢ i → count_of i ks ≡ 1 → count_of j ks ≡ 1 → ahead i j (to_tail ks) ≡ true
ahead_moved i j [] h n a b = absurd h
ahead_moved i j (m ∷ ks) h n a b =
    let o : same_queue m i ≡ 0 = rw h (other_count j i n) in
    let p : same_queue m j ≡ 1 = rw h (own_count j) in
    ahead_push i j m ks (omega arith) (omega arith)

ahead_first : (i j : ℕ) (ks : List ℕ) → IsFirst j ks → j ≢ i → ahead i j ks ≡ false
ahead_first i j [] h n = absurd h
ahead_first i j (m ∷ ks) h n = rw (h, ne_eqb j i n, eq-eqb j j refl) refl

-- ---- after m turns of i and n of j: what j was given and has left
abbrev pub IsLate : ℕ → ℕ → List Card → Round → Type 0
IsLate i j cards r = (r.visited ≡ Some j) ⊎ ((head_of j cards ≡ None) ⊎ (ahead i j r.active ≡ true))

pub record HasHadTurns (Q l : ℕ → ℕ) (i j : ℕ) (cards : List Card) (r : Round) (m n G : ℕ) : Type 0 where
  pub most : n ≤ m + 1
  pub in_own : r.visited ≡ Some i → n ≤ m
  pub late : n ≡ m + 1 → IsLate i j cards r
  pub bits : G + get_or r.deficits j 0 ≤ l j + n * Q j

pub turn_arrives : (Q l : ℕ → ℕ) (i j : ℕ) (cards : List Card) (under : Option Under) (r : Round) (m n G : ℕ) (c e : Card) (x : Option Card) → j ≢ i → head_of c.queue cards ≡ x → head_of i cards ≡ Some e → IsRound Q l cards under r → HasHadTurns Q l i j cards r m n G
    → HasHadTurns Q l i j (cards ++ c ∷ []) (arrived_round x c.queue r) m n G
turn_arrives Q l i j cards under r m n G c e None d f here h t = record {
  most = t.most;
  in_own = t.in_own;
  bits = t.bits;
  late = λ k. elim (cases_eq c.queue j) [
    | inl g ↦
        let a = h.lists i in
        let b = h.lists j in
        let one : presence (head_of i cards) ≡ 1 = ap presence here in
        let none : presence (head_of j cards) ≡ 0 = ap presence (subst (λ (q : ℕ). head_of q cards ≡ None) g f) in
        inr (inr (ahead_push i j c.queue r.active (omega arith) (omega arith)))
    | inr g ↦
        let not_i : c.queue ≢ i = λ o. let w : head_of i cards ≡ None = subst (λ (q : ℕ). head_of q cards ≡ None) o f in none-some e (sym w ∙ here) in
        elim (t.late k) [
          | inl v ↦ inl v
          | inr w ↦ elim w [
            | inl v ↦ inr (inl (head_push_none j c cards g ∙ v))
            | inr v ↦ inr (inr (ahead_other i j c.queue r.active not_i g ∙ v))
          ]
        ]
  ];
}
turn_arrives Q l i j cards under r m n G c e (Some x) d f here h t = record {
  most = t.most;
  in_own = t.in_own;
  bits = t.bits;
  late = λ k. elim (t.late k) [
    | inl v ↦ inl v
    | inr w ↦ elim w [
      | inr v ↦ inr (inr v)
      | inl v ↦ elim (cases_eq c.queue j) [
        | inl g ↦
            let s : head_of j cards ≡ Some x = subst (λ (q : ℕ). head_of q cards ≡ Some x) g f in
            absurd (none-some x (sym v ∙ s))
        | inr g ↦ inr (inl (head_push_none j c cards g ∙ v))
      ]
    ]
  ];
}

-- the bits of a packet of queue j that is started
abbrev pub started_of : ℕ → Option Under → Card → ℕ
started_of j None c = if c.queue == j then c.bits else 0
started_of j (Some u) c = 0

pub turn_works : (Q l : ℕ → ℕ) (quanta : List ℕ) (i j : ℕ) (cards : List Card) (under : Option Under) (r : Round) (m n G : ℕ) (c : Card)
    → next_card under (Drr quanta) cards r ≡ Some c → HasHadTurns Q l i j cards r m n G
    → HasHadTurns Q l i j cards (worked_round under c r) m n (G + started_of j under c)
turn_works Q l quanta i j cards (Some u) r m n G c k t = record { most = t.most; in_own = t.in_own; late = t.late; bits = let b = t.bits in omega arith }
turn_works Q l quanta i j cards None r m n G c k t =
    let s = is_started r r.visited cards c refl k in
    let fit = s.fitting in
    let b = t.bits in
    record {
      most = t.most;
      in_own = t.in_own;
      late = t.late;
      bits = elim (cases_Bool (c.queue == j)) [
        | inl e ↦
            let f = eqb-true c.queue j e in
            let less = set_most r.deficits c.queue (get_or r.deficits c.queue 0 - c.bits) in
            let b2 : G + get_or r.deficits c.queue 0 ≤ l j + n * Q j = subst (λ (q : ℕ). G + get_or r.deficits q 0 ≤ l j + n * Q j) (sym f) b in
            let d2 : get_or (set r.deficits c.queue (get_or r.deficits c.queue 0 - c.bits)) j 0 ≤ get_or r.deficits c.queue 0 - c.bits = subst (λ (q : ℕ). get_or (set r.deficits c.queue (get_or r.deficits c.queue 0 - c.bits)) q 0 ≤ get_or r.deficits c.queue 0 - c.bits) f less in
            rw e (omega arith)
        | inr e ↦
            let same = set_other r.deficits c.queue j (get_or r.deficits c.queue 0 - c.bits) (λ g. both_ways (c.queue == j) e (eq-eqb c.queue j (sym g))) in
            rw e (omega arith)
      ];
    }

-- a packet of q left; the list and the cards are those after it, but for q's turn
late_other : (i j q : ℕ) (cards rest : List Card) (r s : Round) → q ≢ j → head_of j rest ≡ head_of j cards → r.visited ≢ Some j
    → ahead i j s.active ≡ ahead i j r.active → IsLate i j cards r → IsLate i j rest s
late_other i j q cards rest r s d same v a h = elim h [
  | inl w ↦ absurd (v w)
  | inr w ↦ elim w [
    | inl k ↦ inr (inl (same ∙ k))
    | inr k ↦ inr (inr (a ∙ k))
  ]
]

pub turn_left : (Q l : ℕ → ℕ) (i j : ℕ) (cards rest : List Card) (r : Round) (m n G q : ℕ) (x : Option Card) → j ≢ i → head_of q rest ≡ x
    → (q ≢ j → head_of j rest ≡ head_of j cards) → r.visited ≡ Some q → IsFirst q r.active → count_of i r.active ≡ 1
    → (q ≡ j → count_of j r.active ≡ 1)
    → HasHadTurns Q l i j cards r m n G → HasHadTurns Q l i j rest (left_round x q r) m n G
turn_left Q l i j cards rest r m n G q None d e same v f here once t =
    let b = t.bits in
    record {
      most = t.most;
      in_own = λ k. absurd (none-some i k);
      late = λ k. elim (cases_eq q j) [
        | inl g ↦ inr (inl (subst (λ (p : ℕ). head_of p rest ≡ None) g e))
        | inr g ↦ elim (cases_eq q i) [
          | inl o ↦ let w = t.in_own (v ∙ ap (λ (p : ℕ). Some p) o) in absurd (omega arith)
          | inr o ↦ late_other i j q cards rest r record { active = drop 1 r.active; deficits = set r.deficits q 0; visited = None } g (same g) (λ w. g (same_some q j (sym v ∙ w))) (sym (ahead_rest i j q r.active f o g)) (t.late k)
        ]
      ];
      bits = elim (cases_eq j q) [
        | inl g ↦
            let z : get_or (set r.deficits q 0) j 0 ≡ 0 = subst (λ (p : ℕ). get_or (set r.deficits q 0) p 0 ≡ 0) (sym g) (set_none r.deficits q) in
            omega arith
        | inr g ↦ let z = set_other r.deficits q j 0 g in omega arith
      ];
    }
turn_left Q l i j cards rest r m n G q (Some c) d e same v f here once t = elim (cases_Bool (nat_le c.bits (get_or r.deficits q 0))) [
  | inl fit ↦ rw fit record {
    most = t.most;
    in_own = λ k. t.in_own (v ∙ k);
    late = λ k. elim (cases_eq q j) [
      | inl g ↦ inl (ap (λ (p : ℕ). Some p) g)
      | inr g ↦ late_other i j q cards rest r record { active = r.active; deficits = r.deficits; visited = Some q } g (same g) (λ w. g (same_some q j (sym v ∙ w))) refl (t.late k)
    ];
    bits = t.bits;
  }
  | inr fit ↦ rw fit record {
    most = t.most;
    in_own = λ k. absurd (none-some i k);
    late = λ k. elim (cases_eq q j) [
      | inl g ↦ inr (inr (ahead_moved i j r.active (subst (λ (p : ℕ). IsFirst p r.active) g f) d here (once g)))
      | inr g ↦ elim (cases_eq q i) [
        | inl o ↦ let w = t.in_own (v ∙ ap (λ (p : ℕ). Some p) o) in absurd (omega arith)
        | inr o ↦ late_other i j q cards rest r (rotated r) g (same g) (λ w. g (same_some q j (sym v ∙ w))) (ahead_tail i j q r.active f o g) (t.late k)
      ]
    ];
    bits = t.bits;
  }
]

-- a visit of q
not_late : (Q l : ℕ → ℕ) (i j : ℕ) (cards : List Card) (under : Option Under) (r : Round) → j ≢ i → r.visited ≡ None → IsFirst j r.active
    → IsRound Q l cards under r → IsLate i j cards r → ⊥
not_late Q l i j cards under r d v f h k = elim k [
  | inl w ↦ none-some j (sym v ∙ w)
  | inr w ↦ elim w [
    | inl e ↦
        let a = h.lists j in
        let b = first_counts j r.active f in
        let z : presence (head_of j cards) ≡ 0 = ap presence e in
        omega arith
    | inr e ↦ both_ways (ahead i j r.active) (ahead_first i j r.active f d) e
  ]
]

bits_same : (K L n G x y z : ℕ) → G + y ≤ L + n * K → x ≡ y → z ≡ 0 → G + x ≤ L + (n + z) * K
bits_same K L n G x y z k h e = rw e (omega arith)

bits_more : (K L n G x y z : ℕ) → G + y ≤ L + n * K → x ≤ y + K → z ≡ 1 → G + x ≤ L + (n + z) * K
bits_more K L n G x y z k h e = rw e (omega arith)

pub turn_visits : (Q l : ℕ → ℕ) (i j : ℕ) (cards : List Card) (under : Option Under) (r : Round) (m n G q : ℕ) (c e : Card) → j ≢ i
    → head_of q cards ≡ Some c → head_of i cards ≡ Some e → r.visited ≡ None → IsFirst q r.active → IsRound Q l cards under r
    → HasHadTurns Q l i j cards r m n G
    → HasHadTurns Q l i j cards (visited_round (Q q) (Some c) q r) (m + same_queue q i) (n + same_queue q j) G
turn_visits Q l i j cards under r m n G q c e d f here v first h t =
    let D = get_or r.deficits q 0 + Q q in
    let on : Round = record { active = r.active; deficits = set r.deficits q D; visited = Some q } in
    let off : Round = record { active = to_tail r.active; deficits = set r.deficits q D; visited = None } in
    let ones : (k : ℕ) (x : Card) → head_of k cards ≡ Some x → count_of k r.active ≡ 1 = λ k x w. h.lists k ∙ ap presence w in
    let most = t.most in
    let bits = t.bits in
    elim (cases_eq q i) [
      | inl g ↦
          let a : same_queue q i ≡ 1 = rw g (own_count i) in
          let b : same_queue q j ≡ 0 = other_count q j (λ o. d (sym o ∙ g)) in
          let other = set_other r.deficits q j D (λ o. d (o ∙ g)) in
          both c D (λ s s_is. record {
            most = omega arith;
            in_own = λ _. omega arith;
            late = λ k. absurd (omega arith);
            bits = bits_same (Q j) (l j) n G (get_or s.deficits j 0) (get_or r.deficits j 0) (same_queue q j) bits (ap (λ (xs : List ℕ). get_or xs j 0) s_is ∙ other) b;
          })
      | inr g ↦ elim (cases_eq q j) [
        | inl o ↦
            let a : same_queue q i ≡ 0 = other_count q i g in
            let b : same_queue q j ≡ 1 = rw o (own_count j) in
            let first_j : IsFirst j r.active = subst (λ (p : ℕ). IsFirst p r.active) o first in
            let few : n ≤ m = elim (cases_lt m n) [
              | inr w ↦ w
              | inl w ↦ absurd (not_late Q l i j cards under r d v first_j h (t.late (omega arith)))
            ] in
            let gain : get_or (set r.deficits q D) j 0 ≤ get_or r.deficits j 0 + Q j =
            subst (λ (p : ℕ). get_or (set r.deficits q D) p 0 ≤ get_or r.deficits p 0 + Q p) o (set_most r.deficits q D) in
            elim (cases_Bool (nat_le c.bits D)) [
              | inl w ↦ rw w record {
                most = omega arith;
                in_own = λ k. absurd (g (same_some q i k));
                late = λ _. inl (ap (λ (p : ℕ). Some p) o);
                bits = bits_more (Q j) (l j) n G (get_or (set r.deficits q D) j 0) (get_or r.deficits j 0) (same_queue q j) bits gain b;
              }
              | inr w ↦ rw w record {
                most = omega arith;
                in_own = λ k. absurd (none-some i k);
                late = λ _. inr (inr (ahead_moved i j r.active first_j d (ones i e here) (ones j c (subst (λ (p : ℕ). head_of p cards ≡ Some c) o f))));
                bits = bits_more (Q j) (l j) n G (get_or (set r.deficits q D) j 0) (get_or r.deficits j 0) (same_queue q j) bits gain b;
              }
            ]
        | inr o ↦
            let a : same_queue q i ≡ 0 = other_count q i g in
            let b : same_queue q j ≡ 0 = other_count q j o in
            let other = set_other r.deficits q j D (λ w. o (sym w)) in
            let none : r.visited ≢ Some j = λ w. none-some j (sym v ∙ w) in
            elim (cases_Bool (nat_le c.bits D)) [
              | inl w ↦ rw w record {
                most = omega arith;
                in_own = λ k. absurd (g (same_some q i k));
                late = λ k. late_other i j q cards cards r on o refl none refl (t.late (omega arith));
                bits = bits_same (Q j) (l j) n G (get_or (set r.deficits q D) j 0) (get_or r.deficits j 0) (same_queue q j) bits other b;
              }
              | inr w ↦ rw w record {
                most = omega arith;
                in_own = λ k. absurd (none-some i k);
                late = λ k. late_other i j q cards cards r off o refl none (ahead_tail i j q r.active first g o) (t.late (omega arith));
                bits = bits_same (Q j) (l j) n G (get_or (set r.deficits q D) j 0) (get_or r.deficits j 0) (same_queue q j) bits other b;
              }
            ]
      ]
    ]
  where
    both : (c : Card) (D : ℕ)
        → ((s : Round) → s.deficits ≡ set r.deficits q D → HasHadTurns Q l i j cards s (m + same_queue q i) (n + same_queue q j) G)
        → HasHadTurns Q l i j cards (visit_on (fits (Some c) D) q record { active = r.active; deficits = set r.deficits q D; visited = None }) (m + same_queue q i) (n + same_queue q j) G
    both c D f = elim (cases_Bool (nat_le c.bits D)) [
      | inl w ↦ rw w (f record { active = r.active; deficits = set r.deficits q D; visited = Some q } refl)
      | inr w ↦ rw w (f record { active = to_tail r.active; deficits = set r.deficits q D; visited = None } refl)
    ]
