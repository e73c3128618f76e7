-- Steps back along a relation: one more at their end, and of each server to one.
use Rattle.std.proofs.Common.{◌≡◌, ℕ, zero, suc, ◌≤◌, List, [], ◌∷◌, ◌++◌, refl, sym, subst, arith, inl, inr}
use Rattle.net_model.specs.Walks.{Chain, IsBehind}
use Rattle.run_laws.specs.Members.{Has}

-- no two are right before one
abbrev pub IsOneBefore : (ℕ → ℕ → Type 0) → Type 0
IsOneBefore R = (a b c : ℕ) → R a c → R b c → a ≡ b

pub one_more : (R : ℕ → ℕ → Type 0) (n x a b : ℕ) → R x a → IsBehind R n a b → IsBehind R (suc n) x b
one_more R zero x a b h e = let P : ℕ → Type 0 = λ c. R x c in (x, subst P e h, refl)
one_more R (suc n) x a b h w = (w.0, w.1, one_more R n x a w.0 h w.2)

pub behind_weaker : (R S : ℕ → ℕ → Type 0) → ((x y : ℕ) → R x y → S x y) → (n a b : ℕ) → IsBehind R n a b → IsBehind S n a b
behind_weaker R S h zero a b e = e
behind_weaker R S h (suc n) a b w = (w.0, h w.0 b w.1, behind_weaker R S h n a w.0 w.2)

-- of two ways back from one server the shorter is the beginning of the longer
pub longer : (R : ℕ → ℕ → Type 0) → IsOneBefore R → (n m a b s : ℕ) → IsBehind R n a s → IsBehind R m b s → n ≤ m
    → (k : ℕ) × IsBehind R k b a
longer R one zero m a b s e w h = let P : ℕ → Type 0 = λ c. IsBehind R m b c in (m, subst P (sym e) w)
longer R one (suc n) zero a b s v w h = absurd (omega arith)
longer R one (suc n) (suc m) a b s v w h =
    let P : ℕ → Type 0 = λ c. IsBehind R m b c in
    longer R one n m a b v.0 v.2 (subst P (one w.0 v.0 s w.1 v.1) w.2) (omega arith)

-- ---- along a chain
-- of each but the first the one before is in it
pub one_before : (R : ℕ → ℕ → Type 0) (x : ℕ) (xs : List ℕ) (e z : ℕ) → Chain R (x ∷ (xs ++ e ∷ [])) → Has (xs ++ e ∷ []) z
    → (c : ℕ) × R c z × Has (x ∷ xs) c
one_before R x [] e z c (inl i) = let P : ℕ → Type 0 = λ t. R x t in (x, subst P i c.0, inl refl)
one_before R x [] e z c (inr h) = absurd h
one_before R x (y ∷ ys) e z c (inl i) = let P : ℕ → Type 0 = λ t. R x t in (x, subst P i c.0, inl refl)
one_before R x (y ∷ ys) e z c (inr h) = let r = one_before R y ys e z c.1 h in (r.0, r.1, inr r.2)

-- the first is behind each
pub from_first : (R : ℕ → ℕ → Type 0) (x : ℕ) (xs : List ℕ) (z : ℕ) → Chain R (x ∷ xs) → Has (x ∷ xs) z → (n : ℕ) × IsBehind R n x z
from_first R x xs z c (inl i) = (zero, i)
from_first R x [] z c (inr h) = absurd h
from_first R x (y ∷ ys) z c (inr h) = let r = from_first R y ys z c.1 h in (suc r.0, one_more R r.0 x y z c.0 r.1)
