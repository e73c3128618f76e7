-- Rings.
use Rattle.std.proofs.Common.{◌≡◌, ℕ, zero, suc, ◌+◌, ◌-◌, ◌<◌, ◌≤◌, List, [], ◌∷◌, ◌++◌, length, get_or, refl, sym, ap, ◌∙◌, subst, arith, inl, inr, ◌⊎◌, true, false}
use Rattle.std.specs.Prelude.{◌≢◌, nat_lt}
use Rattle.std.proofs.lemmas.Bool.{lt-ltb, le-ltb}
use Rattle.queue_sched.specs.index_links.Chains.{Has, Apart}
use Rattle.queue_sched.specs.index_links.Rings.{walk, Chain}

-- cell i is a, or a node of xs
abbrev pub IsCell : ℕ → ℕ → List ℕ → ℕ → Type 0
IsCell m a xs i = (i ≡ a) ⊎ ((k : ℕ) × Has xs k × (i ≡ m + k))

-- ---- taken apart and joined
pub chain_split : (nx pv : ℕ → ℕ) (m a : ℕ) (xs : List ℕ) (k : ℕ) (ys : List ℕ) (b : ℕ)
    → Chain nx pv m a (xs ++ k ∷ ys) b → Chain nx pv m a xs (m + k) × Chain nx pv m (m + k) ys b
chain_split nx pv m a [] k ys b c = ((c.0, c.1), c.2)
chain_split nx pv m a (x ∷ xs) k ys b c =
    let r = chain_split nx pv m (m + x) xs k ys b c.2 in ((c.0, c.1, r.0), r.1)

pub chain_join : (nx pv : ℕ → ℕ) (m a : ℕ) (xs : List ℕ) (k : ℕ) (ys : List ℕ) (b : ℕ)
    → Chain nx pv m a xs (m + k) → Chain nx pv m (m + k) ys b → Chain nx pv m a (xs ++ k ∷ ys) b
chain_join nx pv m a [] k ys b c d = (c.0, c.1, d)
chain_join nx pv m a (x ∷ xs) k ys b c d = (c.0, c.1, chain_join nx pv m (m + x) xs k ys b c.2 d)

-- ---- its cells
-- the cell before the end, which the end knows
pub last_cell : (nx pv : ℕ → ℕ) (m a : ℕ) (xs : List ℕ) (b : ℕ) → Chain nx pv m a xs b → IsCell m a xs (pv b) × (nx (pv b) ≡ b)
last_cell nx pv m a [] b c = (inl c.1, ap nx c.1 ∙ c.0)
last_cell nx pv m a (x ∷ xs) b c =
    let r = last_cell nx pv m (m + x) xs b c.2 in
    (elim r.0 [ inl e ↦ inr (x, inl refl, e) | inr h ↦ inr (h.0, inr h.1, h.2) ], r.1)

-- the cell after the start, which the start knows
pub first_cell : (nx pv : ℕ → ℕ) (m a : ℕ) (xs : List ℕ) (b : ℕ) → Chain nx pv m a xs b → IsCell m b xs (nx a) × (pv (nx a) ≡ a)
first_cell nx pv m a [] b c = (inl c.0, ap pv c.0 ∙ c.1)
first_cell nx pv m a (x ∷ xs) b c = (inr (x, inl refl, c.0), ap pv c.0 ∙ c.1)

-- ---- what a change of other cells leaves
pub frame : (nx pv nx' pv' : ℕ → ℕ) (m a : ℕ) (xs : List ℕ) (b : ℕ) → Chain nx pv m a xs b
    → nx' a ≡ nx a → ((k : ℕ) → Has xs k → nx' (m + k) ≡ nx (m + k))
    → ((k : ℕ) → Has xs k → pv' (m + k) ≡ pv (m + k)) → pv' b ≡ pv b → Chain nx' pv' m a xs b
frame nx pv nx' pv' m a [] b c n ns ps p = (n ∙ c.0, p ∙ c.1)
frame nx pv nx' pv' m a (x ∷ xs) b c n ns ps p = (
  n ∙ c.0,
  ps x (inl refl) ∙ c.1,
  frame nx pv nx' pv' m (m + x) xs b c.2 (ns x (inl refl)) (λ k h. ns k (inr h)) (λ k h. ps k (inr h)) p,
)

-- the last cell goes on to another end
pub retarget : (nx pv nx' pv' : ℕ → ℕ) (m a : ℕ) (xs : List ℕ) (b d : ℕ) → Chain nx pv m a xs b
    → ((k : ℕ) → Has xs k → a ≢ m + k) → Apart xs
    → nx' (pv b) ≡ d → pv' d ≡ pv b
    → ((i : ℕ) → IsCell m a xs i → i ≢ pv b → nx' i ≡ nx i)
    → ((k : ℕ) → Has xs k → pv' (m + k) ≡ pv (m + k))
    → Chain nx' pv' m a xs d
retarget nx pv nx' pv' m a [] b d c free apart n p ns ps = (ap nx' (sym c.1) ∙ n, p ∙ c.1)
retarget nx pv nx' pv' m a (x ∷ xs) b d c free apart n p ns ps =
    let last = last_cell nx pv m (m + x) xs b c.2 in
    let differs : a ≢ pv b = λ e. elim last.0 [
      | inl i ↦ free x (inl refl) (e ∙ i)
      | inr h ↦ free h.0 (inr h.1) (e ∙ h.2)
    ] in
    let from_x : (k : ℕ) → Has xs k → m + x ≢ m + k = λ k h e. apart.0 (subst (λ t. Has xs t) (let q : k ≡ x = omega (arith, e) in q) h) in (
      ns a (inl refl) differs ∙ c.0,
      ps x (inl refl) ∙ c.1,
      retarget nx pv nx' pv' m (m + x) xs b d c.2 from_x apart.1 n p
          (λ i h. ns i (elim h [ inl e ↦ inr (x, inl refl, e) | inr g ↦ inr (g.0, inr g.1, g.2) ]))
          (λ k h. ps k (inr h)),
    )

-- ---- the list that a walk gives
pub walk_chain : (next : List ℕ) (pv : ℕ → ℕ) (m : ℕ) (n a : ℕ) (xs : List ℕ) (b : ℕ)
    → Chain (λ i. get_or next i 0) pv m a xs b → b < m → length xs ≤ n → walk next m n (get_or next a 0) ≡ xs
walk_chain next pv m zero a [] b c l h = refl
walk_chain next pv m zero a (x ∷ xs) b c l h = absurd (omega (arith, h))
walk_chain next pv m (suc n) a [] b c l h =
    let e : nat_lt (get_or next a 0) m ≡ true = lt-ltb (get_or next a 0) m (omega (arith, c.0, l)) in
    rw e refl
walk_chain next pv m (suc n) a (x ∷ xs) b c l h =
    let e : nat_lt (get_or next a 0) m ≡ false = le-ltb (get_or next a 0) m (omega (arith, c.0)) in
    let head : get_or next a 0 - m ≡ x = omega (arith, c.0) in
    let rest : walk next m n (get_or next (m + x) 0) ≡ xs = walk_chain next pv m n (m + x) xs b c.2 l (omega (arith, h)) in
    let tail : walk next m n (get_or next (get_or next a 0) 0) ≡ xs = ap (λ t. walk next m n (get_or next t 0)) c.0 ∙ rest in
    rw e (cc)
