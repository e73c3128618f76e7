-- Chains: taken apart, put together, turned round, and begun elsewhere.
use Rattle.std.proofs.Common.{ℕ, List, [], ◌∷◌, ◌++◌, reverse, get_or, sym, subst, append_assoc}
use Rattle.std.proofs.lemmas.List.{append-nil, reverse-append}
use Rattle.net_model.specs.Walks.{Chain}

-- the relation read backwards
abbrev pub back : (ℕ → ℕ → Type 0) → ℕ → ℕ → Type 0
back R x y = R y x

pub front_of : (R : ℕ → ℕ → Type 0) (xs : List ℕ) (x : ℕ) (ys : List ℕ) → Chain R (xs ++ x ∷ ys) → Chain R (xs ++ x ∷ [])
front_of R [] x ys c = tt
front_of R (w ∷ []) x ys c = (c.0, tt)
front_of R (w ∷ v ∷ xs) x ys c = (c.0, front_of R (v ∷ xs) x ys c.1)

pub rest_of : (R : ℕ → ℕ → Type 0) (xs : List ℕ) (x : ℕ) (ys : List ℕ) → Chain R (xs ++ x ∷ ys) → Chain R (x ∷ ys)
rest_of R [] x ys c = c
rest_of R (w ∷ []) x ys c = c.1
rest_of R (w ∷ v ∷ xs) x ys c = rest_of R (v ∷ xs) x ys c.1

pub joined : (R : ℕ → ℕ → Type 0) (xs : List ℕ) (x : ℕ) (ys : List ℕ) → Chain R (xs ++ x ∷ []) → Chain R (x ∷ ys) → Chain R (xs ++ x ∷ ys)
joined R [] x ys a b = b
joined R (w ∷ []) x ys a b = (a.0, b)
joined R (w ∷ v ∷ xs) x ys a b = (a.0, joined R (v ∷ xs) x ys a.1 b)

pub weaker : (R S : ℕ → ℕ → Type 0) → ((x y : ℕ) → R x y → S x y) → (xs : List ℕ) → Chain R xs → Chain S xs
weaker R S h [] c = tt
weaker R S h (x ∷ []) c = tt
weaker R S h (x ∷ y ∷ xs) c = (h x y c.0, weaker R S h (y ∷ xs) c.1)

pub turned : (R : ℕ → ℕ → Type 0) (xs : List ℕ) → Chain (back R) xs → Chain R (reverse xs)
turned R [] c = tt
turned R (x ∷ []) c = tt
turned R (x ∷ y ∷ xs) c =
    let P : List ℕ → Type 0 = λ zs. Chain R zs in
    let first : Chain R (reverse xs ++ y ∷ []) = subst P (reverse-append (y ∷ []) xs) (turned R (y ∷ xs) c.1) in
    let whole : Chain R (reverse xs ++ y ∷ (x ∷ [])) = joined R (reverse xs) y (x ∷ []) first (c.0, tt) in
    subst P (sym (reverse-append (x ∷ y ∷ []) xs)) whole

-- a chain that ends where it began, begun at another of its elements
pub begun_at : (R : ℕ → ℕ → Type 0) (ys : List ℕ) (m : ℕ) (zs : List ℕ) → Chain R ((ys ++ m ∷ zs) ++ get_or (ys ++ m ∷ zs) 0 0 ∷ [])
    → Chain R (m ∷ ((zs ++ ys) ++ m ∷ []))
begun_at R [] m zs c =
    let P : List ℕ → Type 0 = λ ws. Chain R (m ∷ (ws ++ m ∷ [])) in
    subst P (sym (append-nil zs)) c
begun_at R (h ∷ ys) m zs c =
    let P : List ℕ → Type 0 = λ ws. Chain R (h ∷ ws) in
    let Q : List ℕ → Type 0 = λ ws. Chain R (m ∷ ws) in
    let whole : Chain R ((h ∷ ys) ++ m ∷ (zs ++ h ∷ [])) = subst P (append_assoc ys (m ∷ zs) (h ∷ [])) c in
    let back_to_first : Chain R ((m ∷ zs) ++ h ∷ []) = rest_of R (h ∷ ys) m (zs ++ h ∷ []) whole in
    let on_to_start : Chain R (h ∷ (ys ++ m ∷ [])) = front_of R (h ∷ ys) m (zs ++ h ∷ []) whole in
    subst Q (sym (append_assoc zs (h ∷ ys) (m ∷ []))) (joined R (m ∷ zs) h (ys ++ m ∷ []) back_to_first on_to_start)
