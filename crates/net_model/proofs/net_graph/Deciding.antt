-- Tests of numbers and lists, and whether a server is right before another.
use Rattle.std.proofs.Common.{◌≡◌, ℕ, zero, suc, ◌<◌, List, [], ◌∷◌, ◌++◌, length, get_or, refl, sym, ◌∙◌, subst, arith, inl, inr, ◌⊎◌, Some, None}
use Rattle.std.specs.Prelude.{Option, Contains}
use Rattle.std.proofs.lemmas.Bool.{cases_eq, cases_lt}
use Rattle.std.proofs.lemmas.List.{length_push, get_or_at, get_or_append_left}
use Rattle.upp_limits.specs.Windows.{IsLeast}
use Rattle.run_laws.specs.Members.{Has}
use Rattle.run_laws.proofs.Members.{contains_has, has_contains}
use Rattle.net_model.specs.Networks.{NetFlow}
use Rattle.net_model.specs.Walks.{IsStep, IsNextOn}
use Rattle.net_model.proofs.net_graph.Members.{kept_left, kept_last, pushed}

-- ---- numbers below n
abbrev pub IsTested : (ℕ → Type 0) → Type 0
IsTested P = (i : ℕ) → P i ⊎ ¬ (P i)

pub least_below : (P : ℕ → Type 0) → IsTested P → (n : ℕ) → ((i : ℕ) × (i < n) × IsLeast P i) ⊎ ((i : ℕ) → i < n → ¬ (P i))
least_below P t zero = inr (λ i l p. omega (arith, l))
least_below P t (suc n) = elim (least_below P t n) [
  | inl f ↦ let l = f.1 in inl (f.0, omega (arith, l), f.2)
  | inr none ↦ elim (t n) [
    | inl p ↦ inl (n, omega arith, record { meets = p; least = none })
    | inr off ↦ inr (λ i l. elim (cases_eq i n) [ inl e ↦ let Q : ℕ → Type 0 = λ k. ¬ (P k) in subst Q (sym e) off | inr d ↦ none i (omega (arith, l, d)) ])
  ]
]

-- those below n that pass a test
pub collected : (P : ℕ → Type 0) → IsTested P → ℕ → List ℕ
collected P t zero = []
collected P t (suc n) = elim (t n) [ inl p ↦ collected P t n ++ n ∷ [] | inr off ↦ collected P t n ]

pub collected_in : (P : ℕ → Type 0) (t : IsTested P) (n i : ℕ) → i < n → P i → Contains (collected P t n) i
unfolding collected
collected_in P t zero i l p = absurd (omega (arith, l))
collected_in P t (suc n) i l p = elim (t n) as (λ r. Contains (elim r [ inl q ↦ collected P t n ++ n ∷ [] | inr off ↦ collected P t n ]) i) [
  | inl q ↦ elim (cases_eq i n) [
    | inl e ↦ let Q : ℕ → Type 0 = λ k. Contains (collected P t n ++ n ∷ []) k in subst Q (sym e) (kept_last (collected P t n) n)
    | inr d ↦ kept_left (collected P t n) (n ∷ []) i (collected_in P t n i (omega (arith, l, d)) p)
  ]
  | inr off ↦ elim (cases_eq i n) [
    | inl e ↦ absurd (off (subst P e p))
    | inr d ↦ collected_in P t n i (omega (arith, l, d)) p
  ]
]

pub collected_out : (P : ℕ → Type 0) (t : IsTested P) (n i : ℕ) → Contains (collected P t n) i → P i
unfolding collected
collected_out P t zero i = λ c. absurd (omega (arith, c.1))
collected_out P t (suc n) i = elim (t n) as (λ r. Contains (elim r [ inl q ↦ collected P t n ++ n ∷ [] | inr off ↦ collected P t n ]) i → P i) [
  | inl q ↦ λ c. elim (pushed (collected P t n) n i c) [ inl m ↦ collected_out P t n i m | inr e ↦ subst P (sym e) q ]
  | inr off ↦ λ c. collected_out P t n i c
]

-- ---- lists by their places
pub table : {X : Type 0} → (ℕ → X) → ℕ → List X
table f zero = []
table f (suc n) = table f n ++ f n ∷ []

pub table_length : {X : Type 0} (f : ℕ → X) (n : ℕ) → length (table f n) ≡ n
unfolding table
table_length f zero = refl
table_length f (suc n) = let e = table_length f n in let p = length_push (table f n) (f n) in omega (arith, e, p)

pub table_at : {X : Type 0} (f : ℕ → X) (n k : ℕ) (d : X) → k < n → get_or (table f n) k d ≡ f k
unfolding table
table_at f zero k d l = absurd (omega (arith, l))
table_at f (suc n) k d l =
    let long = table_length f n in
    elim (cases_lt k n) [
      | inl m ↦ get_or_append_left (table f n) (f n ∷ []) d k (omega (arith, m, long)) ∙ table_at f n k d m
      | inr m ↦
          let e : n ≡ k = omega (arith, l, m) in
          get_or_at (table f n) (f n) [] d k (long ∙ e) ∙ subst (λ j. f n ≡ f j) e refl
    ]

-- ---- which server is right before which
step_later : (x y : ℕ) (ys : List ℕ) (a b : ℕ) → ¬ ((x ≡ a) × (y ≡ b)) → IsStep (y ∷ ys) a b ⊎ ¬ (IsStep (y ∷ ys) a b)
    → IsStep (x ∷ y ∷ ys) a b ⊎ ¬ (IsStep (x ∷ y ∷ ys) a b)
step_later x y ys a b off (inl r) = let l = r.on_path in inl record { hop = suc r.hop; on_path = omega (arith, l); from = r.from; to = r.to }
step_later x y ys a b off (inr none) = inr (λ s. by_hop s.hop s.on_path s.from s.to)
  where
    by_hop : (h : ℕ) → suc h < length (x ∷ y ∷ ys) → get_or (x ∷ y ∷ ys) h 0 ≡ a → get_or (x ∷ y ∷ ys) (suc h) 0 ≡ b → ⊥
    by_hop zero l e f = off (e, f)
    by_hop (suc h) l e f = none record { hop = h; on_path = omega (arith, l); from = e; to = f }

step_or_not : (path : List ℕ) (a b : ℕ) → IsStep path a b ⊎ ¬ (IsStep path a b)
step_or_not [] a b = inr (λ s. let l = s.on_path in omega (arith, l))
step_or_not (x ∷ []) a b = inr (λ s. let l = s.on_path in omega (arith, l))
step_or_not (x ∷ y ∷ ys) a b = elim (cases_eq x a) [
  | inl e ↦ elim (cases_eq y b) [
    | inl f ↦ inl record { hop = 0; on_path = omega arith; from = e; to = f }
    | inr d ↦ step_later x y ys a b (λ h. d h.1) (step_or_not (y ∷ ys) a b)
  ]
  | inr d ↦ step_later x y ys a b (λ h. d h.0) (step_or_not (y ∷ ys) a b)
]

next_later : (o : Option NetFlow) (fs : List (Option NetFlow)) (a b : ℕ) → ((g : NetFlow) → o ≡ Some g → ¬ (IsStep g.path a b))
    → IsNextOn fs a b ⊎ ¬ (IsNextOn fs a b) → IsNextOn (o ∷ fs) a b ⊎ ¬ (IsNextOn (o ∷ fs) a b)
next_later o fs a b off (inl r) =
    inl record { flow = r.flow; live = has_contains (o ∷ fs) (Some r.flow) (inr (contains_has fs (Some r.flow) r.live)); step = r.step }
next_later o fs a b off (inr none) = inr (λ n. by_place n.flow n.step (contains_has (o ∷ fs) (Some n.flow) n.live))
  where
    by_place : (g : NetFlow) → IsStep g.path a b → Has (o ∷ fs) (Some g) → ⊥
    by_place g s (inl e) = off g e s
    by_place g s (inr h) = none record { flow = g; live = has_contains fs (Some g) h; step = s }

pub next_or_not : (fs : List (Option NetFlow)) (a b : ℕ) → IsNextOn fs a b ⊎ ¬ (IsNextOn fs a b)
next_or_not [] a b = inr (λ n. let c = contains_has [] (Some n.flow) n.live in c)
next_or_not (None ∷ fs) a b = next_later None fs a b (λ g e s. let f : None ≡ Some g = e in cc) (next_or_not fs a b)
next_or_not (Some f ∷ fs) a b = elim (step_or_not f.path a b) [
  | inl s ↦ inl record { flow = f; live = has_contains (Some f ∷ fs) (Some f) (inl refl); step = s }
  | inr off ↦ next_later (Some f) fs a b (other f a b off) (next_or_not fs a b)
]
  where
    other : (f : NetFlow) (a b : ℕ) → ¬ (IsStep f.path a b) → (g : NetFlow) → Some f ≡ Some g → ¬ (IsStep g.path a b)
    other f a b off g e s = let same : f ≡ g = cc in off (subst (λ (x : NetFlow). IsStep x.path a b) (sym same) s)
