-- The first of some candidates, and of those of one server more.
use Rattle.std.specs.Prelude.{Option, Some, None, ◌≡◌, ◌⊎◌, ℕ, zero, suc, ◌+◌, ◌<◌, List, [], ◌∷◌, length, get_or, slice_get}
use Rattle.std.proofs.Common.{arith, refl, sym, ap, ◌∙◌, subst, inl, inr}
use Rattle.std.proofs.lemmas.Bool.{cases_lt}
use Rattle.queue_sched.specs.index_links.Chains.{Chains, list_at, first_of}
use Rattle.net_model.specs.stated_runs.Setups.{Setup}
use Rattle.sim_servers.specs.declared.due.Due.{Due}
use Rattle.sim_servers.specs.declared.station.Station.{Station}
use Rattle.sim_servers.specs.Firsts.{IsNoLater, IsEither, IsFirstOf}
use Rattle.sim_servers.specs.Stations.{due_for}
use Rattle.sim_servers.proofs.Firsts.{no_later_refl, no_later_trans, over_both, one_of_three}
use Rattle.sim_servers.specs.declared.sim_states.arrival.Arrival.{Arrival}
use Rattle.sim_servers.specs.sim_states.Running.{enter_first, reach_first, station_due, IsCandidate, IsFirstCandidate}
pub use Rattle.queue_sched.proofs.index_links.Popped.{first_has}

-- with no server there is the packet that enters
pub first_entry : (S : Setup) (stations : List Station) (links : Chains) (arrivals : List Arrival) (n : ℕ) (o : Option Due)
    → o ≡ enter_first (slice_get S.packets n) n → IsFirstCandidate S stations links arrivals n 0 o
first_entry S stations links arrivals n None e = λ d c. elim c [
  | inl i ↦ absurd (let f : None ≡ Some d = e ∙ i in cc)
  | inr i ↦ absurd (omega (arith, i.1))
]
first_entry S stations links arrivals n (Some d) e = (
  inl (sym e),
  λ c i. elim i [
    | inl j ↦ let f : Some d ≡ Some c = e ∙ j in let g : d ≡ c = cc in subst (λ x. IsNoLater d x) g (no_later_refl d)
    | inr j ↦ absurd (omega (arith, j.1))
  ],
)

-- one server more: what is due there, and what comes over its link
more : (S : Setup) (stations : List Station) (links : Chains) (arrivals : List Arrival) (n k : ℕ) (c : Due)
    → IsCandidate S stations links arrivals n k c → IsCandidate S stations links arrivals n (k + 1) c
more S stations links arrivals n k c h = elim h [ inl i ↦ inl i | inr i ↦ inr (i.0, (let l = i.1 in omega (arith, l)), i.2) ]

split : (S : Setup) (stations : List Station) (links : Chains) (arrivals : List Arrival) (n k : ℕ) (x : Station) (c : Due) → slice_get stations k ≡ Some x
    → IsCandidate S stations links arrivals n (k + 1) c
    → IsCandidate S stations links arrivals n k c ⊎ IsEither (due_for x.next k) (reach_first arrivals (first_of (list_at links k))) c
split S stations links arrivals n k x c at h = elim h [
  | inl i ↦ inl (inl i)
  | inr i ↦ elim (cases_lt i.0 k) [
    | inl l ↦ inl (inr (i.0, l, i.2))
    | inr l ↦
        let e : i.0 ≡ k = (let m = i.1 in omega (arith, l, m)) in
        inr (elim i.2 [
          | inl j ↦ inl (ap (λ o. station_due o k) (sym at) ∙ ap (λ s. station_due (slice_get stations s) s) (sym e) ∙ j)
          | inr j ↦ inr (ap (λ s. reach_first arrivals (first_of (list_at links s))) (sym e) ∙ j)
        ])
  ]
]

joined : (S : Setup) (stations : List Station) (links : Chains) (arrivals : List Arrival) (n k : ℕ) (x : Station) (c : Due) → slice_get stations k ≡ Some x
    → IsEither (due_for x.next k) (reach_first arrivals (first_of (list_at links k))) c → IsCandidate S stations links arrivals n (k + 1) c
joined S stations links arrivals n k x c at h = inr (
  k,
  omega arith,
  elim h [
    | inl j ↦ inl (ap (λ o. station_due o k) at ∙ j)
    | inr j ↦ inr j
  ],
)

-- the first of those before is no later than each of them
before_all : (S : Setup) (stations : List Station) (links : Chains) (arrivals : List Arrival) (n k : ℕ) (before : Option Due) (d : Due)
    → IsFirstCandidate S stations links arrivals n k before → ((b : Due) → before ≡ Some b → IsNoLater d b)
    → (c : Due) → IsCandidate S stations links arrivals n k c → IsNoLater d c
before_all S stations links arrivals n k None d h f c i = absurd (h c i)
before_all S stations links arrivals n k (Some b) d h f c i = no_later_trans d b c (f b refl) (h.1 c i)

-- the first of those before, of what is due at the server, and of what comes over its link
pub merged : (S : Setup) (stations : List Station) (links : Chains) (arrivals : List Arrival) (n k : ℕ) (x : Station) (before here after : Option Due)
    → slice_get stations k ≡ Some x → IsFirstCandidate S stations links arrivals n k before
    → IsFirstOf before (due_for x.next k) here → IsFirstOf here (reach_first arrivals (first_of (list_at links k))) after
    → IsFirstCandidate S stations links arrivals n (k + 1) after
merged S stations links arrivals n k x before here None at h f g =
    let none : IsFirstOf before (due_for x.next k) None = subst (λ o. IsFirstOf before (due_for x.next k) o) g.0 f in
    λ c i. elim (split S stations links arrivals n k x c at i) [
      | inl j ↦ (subst (λ o. IsFirstCandidate S stations links arrivals n k o) none.0 h) c j
      | inr j ↦ elim j [
        | inl e ↦ let q : None ≡ Some c = sym none.1 ∙ e in cc
        | inr e ↦ let q : None ≡ Some c = sym g.1 ∙ e in cc
      ]
    ]
merged S stations links arrivals n k x before here (Some d) at h f g =
    let over = over_both before (due_for x.next k) here (reach_first arrivals (first_of (list_at links k))) d f g in (
      elim (one_of_three before (due_for x.next k) here (reach_first arrivals (first_of (list_at links k))) d f g) [
        | inl e ↦ elim e [
          | inl b ↦ more S stations links arrivals n k d (subst (λ o. IsFirstCandidate S stations links arrivals n k o) b h).0
          | inr own ↦ joined S stations links arrivals n k x d at (inl own)
        ]
        | inr e ↦ joined S stations links arrivals n k x d at (inr e)
      ],
      λ c i. elim (split S stations links arrivals n k x c at i) [
        | inl j ↦ before_all S stations links arrivals n k before d h (λ b e. over b (inl e)) c j
        | inr j ↦ elim j [ inl e ↦ over c (inr e) | inr e ↦ g.1 c (inr e) ]
      ],
    )

-- ---- members of lists
pub found_at : {X : Type 0} (xs : List X) (i : ℕ) (d : X) → i < length xs → slice_get xs i ≡ Some (get_or xs i d)
found_at [] i d h = absurd (omega (arith, h))
found_at (x ∷ xs) zero d h = refl
found_at (x ∷ xs) (suc i) d h = found_at xs i d (omega (arith, h))
