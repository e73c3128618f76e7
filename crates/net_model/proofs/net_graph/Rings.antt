-- A loop that was walked backwards, turned round and begun at its least server.
use Rattle.std.proofs.Common.{◌≡◌, ℕ, suc, ◌<◌, ◌≤◌, ◌+◌, List, [], ◌∷◌, ◌++◌, length, get_or, take, drop, reverse, refl, sym, ◌∙◌, ap, subst, arith, nat_eq, append_assoc}
use Rattle.std.specs.Prelude.{All, IsPermutation}
use Rattle.std.specs.List.{IsDistinct}
use Rattle.std.proofs.lemmas.List.{reverse-append, drop_more, take_more, take-append-drop}
use Rattle.std.proofs.lemmas.List.Sorted.{IsPermutation-trans, IsPermutation-cons, IsPermutation-middle, IsPermutation-append_comm, IsPermutation-reverse, All-permutation}
use Rattle.std.proofs.lemmas.Map.Keys.{IsDistinct-IsPermutation}
use Rattle.std.proofs.lemmas.Cmp.{nat_eq_equiv}
use Rattle.net_model.specs.Walks.{Chain, IsRing}
use Rattle.net_model.proofs.net_graph.Chains.{back, weaker, turned, begun_at}

abbrev pub ring_weaker : (R S : ℕ → ℕ → Type 0) → ((x y : ℕ) → R x y → S x y) → (walk : List ℕ) → IsRing R walk → IsRing S walk
ring_weaker R S h walk r = record {
  start = r.start;
  between = r.between;
  is = r.is;
  steps = weaker R S h walk r.steps;
  once = r.once;
  least = r.least;
}

all_but_first : (P : ℕ → Type 0) (x : ℕ) (xs : List ℕ) → All P (x ∷ xs) → All P xs
all_but_first P x xs a = λ k d h. a (suc k) d (omega (arith, h))

pub same_servers : (ys : List ℕ) (m : ℕ) (zs : List ℕ) → IsPermutation (ys ++ m ∷ zs) (m ∷ reverse (zs ++ ys))
same_servers ys m zs =
    IsPermutation-trans _ _ _ (IsPermutation-middle ys m zs)
    (IsPermutation-cons m _ _ (IsPermutation-trans _ _ _ (IsPermutation-append_comm ys zs) (IsPermutation-reverse (zs ++ ys))))

pub ends_alike : (m : ℕ) (ws : List ℕ) → reverse (m ∷ (ws ++ m ∷ [])) ≡ m ∷ (reverse ws ++ m ∷ [])
ends_alike m ws = reverse-append (m ∷ []) (ws ++ m ∷ []) ∙ ap (λ vs. vs ++ m ∷ []) (reverse-append ws (m ∷ []))

-- a ring that starts at m
abbrev pub IsRingAt : (ℕ → ℕ → Type 0) → ℕ → List ℕ → Type 0
IsRingAt R m walk = (r : IsRing R walk) × (r.start ≡ m)

ring_from : (R : ℕ → ℕ → Type 0) (ys : List ℕ) (m : ℕ) (zs : List ℕ)
    → Chain (back R) ((ys ++ m ∷ zs) ++ get_or (ys ++ m ∷ zs) 0 0 ∷ []) → IsDistinct nat_eq (ys ++ m ∷ zs)
    → All (λ s. m ≤ s) (ys ++ m ∷ zs) → IsRingAt R m (reverse (m ∷ ((zs ++ ys) ++ m ∷ [])))
ring_from R ys m zs c once least = (
  record {
    start = m;
    between = reverse (zs ++ ys);
    is = ends_alike m (zs ++ ys);
    steps = turned R (m ∷ ((zs ++ ys) ++ m ∷ [])) (begun_at (back R) ys m zs c);
    once = IsDistinct-IsPermutation nat_eq nat_eq_equiv.symm _ _ (same_servers ys m zs) once;
    least = all_but_first (λ s. m ≤ s) m (reverse (zs ++ ys)) (All-permutation (λ s. m ≤ s) _ _ (same_servers ys m zs) least);
  },
  refl,
)

-- by the place of the least
pub ring_at : (R : ℕ → ℕ → Type 0) (c : List ℕ) (k : ℕ) → k < length c → Chain (back R) (c ++ get_or c 0 0 ∷ []) → IsDistinct nat_eq c
    → All (λ s. get_or c k 0 ≤ s) c → IsRingAt R (get_or c k 0) (reverse (drop k c ++ take (k + 1) c))
ring_at R c k h steps once least =
    let m = get_or c k 0 in
    let whole : c ≡ take k c ++ m ∷ drop (k + 1) c = sym (take-append-drop k c) ∙ ap (λ ws. take k c ++ ws) (drop_more c k 0 h) in
    let P : List ℕ → Type 0 = λ ws. Chain (back R) (ws ++ get_or ws 0 0 ∷ []) in
    let Q : List ℕ → Type 0 = λ ws. IsDistinct nat_eq ws in
    let S : List ℕ → Type 0 = λ ws. All (λ s. m ≤ s) ws in
    let T : List ℕ → Type 0 = λ ws. IsRingAt R m (reverse ws) in
    let shape : m ∷ ((drop (k + 1) c ++ take k c) ++ m ∷ []) ≡ drop k c ++ take (k + 1) c =
    ap (λ ws. m ∷ ws) (append_assoc (drop (k + 1) c) (take k c) (m ∷ [])) ∙ ap (λ ws. ws ++ (take k c ++ m ∷ [])) (sym (drop_more c k 0 h))
    ∙ ap (λ ws. drop k c ++ ws) (sym (take_more c k 0 h)) in
    subst T shape (ring_from R (take k c) m (drop (k + 1) c) (subst P whole steps) (subst Q whole once) (subst S whole least))
