-- The front of a text, to its first byte of a value, and what is behind that.
use Rattle.std.proofs.Common.{◌≡◌, ℕ, List, [], ◌∷◌, ◌++◌, refl, sym, ap, ◌∙◌, Bool, true, false, cond}
use Rattle.std.proofs.lemmas.Bool.{eq-eqb}
use Rattle.std.specs.Prelude.{◌==◌}

abbrev pub front : ℕ → List ℕ → List ℕ
front b [] = []
front b (x ∷ xs) = cond (x == b) [] (x ∷ front b xs)

abbrev pub back : ℕ → List ℕ → List ℕ
back b [] = []
back b (x ∷ xs) = cond (x == b) xs (back b xs)

-- no byte of it is b
abbrev pub lacks : ℕ → List ℕ → Bool
lacks b [] = true
lacks b (x ∷ xs) = cond (x == b) false (lacks b xs)

one_front : (t : Bool) (x : ℕ) (xs rest : List ℕ) (no_b : Bool) → (no_b ≡ true → rest ≡ xs)
    → cond t false no_b ≡ true → cond t [] (x ∷ rest) ≡ x ∷ xs
one_front true x xs rest no_b same h = absurd cc
one_front false x xs rest no_b same h = ap (λ zs. x ∷ zs) (same h)

front_is : (b : ℕ) (xs ys : List ℕ) → lacks b xs ≡ true → front b (xs ++ b ∷ ys) ≡ xs
front_is b [] ys h = ap (λ (t : Bool). cond t [] (b ∷ front b ys)) (eq-eqb b b refl)
front_is b (x ∷ xs) ys h =
    one_front (x == b) x xs (front b (xs ++ b ∷ ys)) (lacks b xs) (λ e. front_is b xs ys e) h

one_back : (t : Bool) (ys tail rest : List ℕ) (no_b : Bool) → (no_b ≡ true → rest ≡ ys)
    → cond t false no_b ≡ true → cond t tail rest ≡ ys
one_back true ys tail rest no_b same h = absurd cc
one_back false ys tail rest no_b same h = same h

back_is : (b : ℕ) (xs ys : List ℕ) → lacks b xs ≡ true → back b (xs ++ b ∷ ys) ≡ ys
back_is b [] ys h = ap (λ (t : Bool). cond t ys (back b ys)) (eq-eqb b b refl)
back_is b (x ∷ xs) ys h =
    one_back (x == b) ys (xs ++ b ∷ ys) (back b (xs ++ b ∷ ys)) (lacks b xs) (λ e. back_is b xs ys e) h

pub same_front : (b : ℕ) (w v ys zs : List ℕ) → lacks b w ≡ true → lacks b v ≡ true → w ++ b ∷ ys ≡ v ++ b ∷ zs → w ≡ v
same_front b w v ys zs h k e = sym (front_is b w ys h) ∙ ap (front b) e ∙ front_is b v zs k

pub same_back : (b : ℕ) (w v ys zs : List ℕ) → lacks b w ≡ true → lacks b v ≡ true → w ++ b ∷ ys ≡ v ++ b ∷ zs
    → ys ≡ zs
same_back b w v ys zs h k e = sym (back_is b w ys h) ∙ ap (back b) e ∙ back_is b v zs k

-- it is in a text in which it stands
pub not_lacking : (b : ℕ) (xs ys : List ℕ) → lacks b (xs ++ b ∷ ys) ≡ false
not_lacking b [] ys = ap (λ (t : Bool). cond t false (lacks b ys)) (eq-eqb b b refl)
not_lacking b (x ∷ xs) ys = found (x == b) (lacks b (xs ++ b ∷ ys)) (not_lacking b xs ys)
  where
    found : (t rest : Bool) → rest ≡ false → cond t false rest ≡ false
    found true rest h = refl
    found false rest h = h
