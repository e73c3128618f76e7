-- Lists of lists: one of them is changed.
use Rattle.std.proofs.Common.{◌≡◌, ◌≢◌, ℕ, ◌<◌, List, [], ◌∷◌, ◌++◌, length, get_or, set, sym, ◌∙◌, ap, subst, inl, inr, get_or-set_same, get_or-set_other, ◌+◌, ap₂, replicate}
use Rattle.std.specs.declared.vec.Vec.{Vec}
use Rattle.std.proofs.lemmas.Bool.{cases_eq}
use Rattle.std.proofs.lemmas.List.{map-set, get_or-map, map-append, replicate_more}
use Rattle.tree_network.specs.Lists.{lists_of, list_at}

pub list_of : {Z : Type 0} (vs : List (Vec ℕ Z)) (i : ℕ) (v : Vec ℕ Z) → i < length vs → v ≡ get_or vs i v → list_at (lists_of vs) i ≡ v.items
list_of vs i v h is = get_or-map (λ x. x.items) vs i v [] h ∙ ap (λ x. x.items) (sym is)

-- what holds of the new list, and of each other one
pub each_after_set : (P : ℕ → List ℕ → Type 0) (lists : List (List ℕ)) (i : ℕ) (xs : List ℕ) → i < length lists → P i xs
    → ((j : ℕ) → j ≢ i → P j (list_at lists j)) → (j : ℕ) → P j (list_at (set lists i xs) j)
each_after_set P lists i xs h new others j =
    let Q : List ℕ → Type 0 = λ l. P j l in
    elim (cases_eq j i) [
      | inl e ↦ let S : ℕ → Type 0 = λ k. P k (list_at (set lists i xs) k) in
          let R : List ℕ → Type 0 = λ l. P i l in
          subst S (sym e) (subst R (sym (get_or-set_same lists i xs [] h)) new)
      | inr e ↦ subst Q (sym (get_or-set_other lists i j xs [] e)) (others j e)
    ]

-- a number is added to one
pub added_to : {Z : Type 0} (vs : List (Vec ℕ Z)) (k : ℕ) (v w : Vec ℕ Z) (x : ℕ) → k < length vs → v ≡ get_or vs k v → w.items ≡ v.items ++ x ∷ []
    → lists_of (set vs k w) ≡ set (lists_of vs) k (list_at (lists_of vs) k ++ x ∷ [])
added_to vs k v w x h is e =
    map-set (λ y. y.items) vs k w ∙ ap (λ l. set (lists_of vs) k l) (e ∙ ap (λ l. l ++ x ∷ []) (sym (list_of vs k v h is)))

-- an empty one is added to such
pub empty_more : {Z : Type 0} (vs more : List (Vec ℕ Z)) (v : Vec ℕ Z) (n : ℕ) → more ≡ vs ++ v ∷ [] → v.items ≡ []
    → lists_of vs ≡ replicate n [] → lists_of more ≡ replicate (n + 1) []
empty_more vs more v n e none are =
    ap lists_of e ∙ map-append (λ y. y.items) vs (v ∷ []) ∙ ap₂ (λ ls l. ls ++ l ∷ []) are none ∙ replicate_more n []
