-- What a fold by the greater of two gives.
use Rattle.std.proofs.Common.{◌≡◌, ℕ, zero, suc, ◌<◌, List, [], ◌∷◌, length, get_or, inl, inr, refl, sym, ◌∙◌, arith}
use Rattle.std.specs.Prelude.{◌⊎◌, Contains}
use Rattle.std.specs.List.{fold}

-- an order, and a choice of the greater of two
pub record Greater (X : Type 0) (R : X → X → Type 0) (f : X → X → X) : Type 0 where
  pub same : (x : X) → R x x
  pub trans : (x y z : X) → R x y → R y z → R x z
  pub left : (x y : X) → R x (f x y)
  pub right : (x y : X) → R y (f x y)
  pub one : (x y : X) → (f x y ≡ x) ⊎ (f x y ≡ y)

module _ (X : Type 0) (R : X → X → Type 0) (f : X → X → X) (g : Greater X R f) where
  -- no less than what it starts from, and than each member
  pub from : (a : X) (xs : List X) → R a (fold f a xs)
  from a [] = g.same a
  from a (x ∷ xs) = g.trans a (f a x) (fold f (f a x) xs) (g.left a x) (from (f a x) xs)

  pub each : (a : X) (xs : List X) (k : ℕ) (d : X) → k < length xs → R (get_or xs k d) (fold f a xs)
  each a [] k d l = absurd (omega (arith, l))
  each a (x ∷ xs) zero d l = g.trans x (f a x) (fold f (f a x) xs) (g.right a x) (from (f a x) xs)
  each a (x ∷ xs) (suc k) d l = each (f a x) xs k d (omega (arith, l))

  -- and one of these
  pub one : (a : X) (xs : List X) → (fold f a xs ≡ a) ⊎ Contains xs (fold f a xs)
  one a [] = inl refl
  one a (x ∷ xs) = elim (one (f a x) xs) [
    | inr there ↦ inr (suc there.0, let l = there.1 in omega arith, there.2)
    | inl e ↦ elim (g.one a x) [
      | inl h ↦ inl (e ∙ h)
      | inr h ↦ inr (0, omega arith, sym (e ∙ h))
    ]
  ]
