-- Lists of lists: one of them is changed.
use Rattle.std.proofs.Common.{◌≡◌, ◌≢◌, ℕ, ◌<◌, List, [], length, get_or, set, sym, ◌∙◌, ap, inl, inr, get_or-set_same, get_or-set_other}
use Rattle.std.specs.declared.vec.Vec.{Vec}
use Rattle.std.proofs.lemmas.Bool.{cases_eq}
use Rattle.std.proofs.lemmas.List.{map-set, get_or-map}
use Rattle.net_model.specs.net_graph.Waits.{lists_of, list_at}

pub lists_set : {Z : Type 0} (vs : List (Vec ℕ Z)) (i : ℕ) (w : Vec ℕ Z) → lists_of (set vs i w) ≡ set (lists_of vs) i w.items
lists_set vs i w = map-set (λ v. v.items) vs i w

pub list_of : {Z : Type 0} (vs : List (Vec ℕ Z)) (i : ℕ) (v : Vec ℕ Z) → i < length vs → v ≡ get_or vs i v → list_at (lists_of vs) i ≡ v.items
list_of vs i v h is = get_or-map (λ x. x.items) vs i v [] h ∙ ap (λ x. x.items) (sym is)

pub set_at : (lists : List (List ℕ)) (i : ℕ) (xs : List ℕ) → i < length lists → list_at (set lists i xs) i ≡ xs
set_at lists i xs h = get_or-set_same lists i xs [] h

pub set_elsewhere : (lists : List (List ℕ)) (i j : ℕ) (xs : List ℕ) → j ≢ i → list_at (set lists i xs) j ≡ list_at lists j
set_elsewhere lists i j xs h = get_or-set_other lists i j xs [] h

-- what holds of the new list, and of each other one
pub each_after_set : (P : ℕ → List ℕ → Type 0) (lists : List (List ℕ)) (i : ℕ) (xs : List ℕ) → i < length lists → P i xs
    → ((j : ℕ) → j ≢ i → P j (list_at lists j)) → (j : ℕ) → P j (list_at (set lists i xs) j)
each_after_set P lists i xs h new others j = elim (cases_eq j i) [
  | inl e ↦ rw (e, set_at lists i xs h) new
  | inr e ↦ rw (set_elsewhere lists i j xs e) (others j e)
]
