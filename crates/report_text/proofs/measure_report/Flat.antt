-- One more of the lines of a list.
use Rattle.std.specs.Prelude.{◌≡◌, ℕ, ◌+◌, ◌<◌, ◌≤◌, List, ◌∷◌, ◌++◌, length, drop, get_or}
use Rattle.std.specs.List.{flat_map}
use Rattle.std.proofs.Common.{sym, ap, ◌∙◌, append_assoc, append-nil}
use Rattle.std.proofs.lemmas.List.{drop_more, drop_all}

pub more_flat : {A : Type 0} (f : A → List ℕ) (xs : List A) (i : ℕ) (x : A) (made next whole : List ℕ) → i < length xs → x ≡ get_or xs i x
    → next ≡ made ++ f x → made ++ flat_map f (drop i xs) ≡ whole → next ++ flat_map f (drop (i + 1) xs) ≡ whole
more_flat f xs i x made next whole h is push e =
    let d = drop_more xs i x h ∙ ap (λ y. y ∷ drop (i + 1) xs) (sym is) in
    rw push (append_assoc made (f x) (flat_map f (drop (i + 1) xs)) ∙ ap (λ ys. made ++ flat_map f ys) (sym d) ∙ e)

pub all_flat : {A : Type 0} (f : A → List ℕ) (xs : List A) (i : ℕ) (made whole : List ℕ) → length xs ≤ i → made ++ flat_map f (drop i xs) ≡ whole → made ≡ whole
all_flat f xs i made whole h e = sym (append-nil made) ∙ ap (λ ys. made ++ flat_map f ys) (sym (drop_all i xs h)) ∙ e
