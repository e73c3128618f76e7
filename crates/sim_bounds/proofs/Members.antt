-- Members of lists that are put together or made of others.
use Rattle.std.proofs.Common.{◌≡◌, ℕ, zero, suc, ◌<◌, List, [], ◌∷◌, length, map, get_or, refl, subst, arith, inl, inr}
use Rattle.std.specs.Prelude.{All}
use Rattle.std.specs.List.{AllByRecursion}
use Rattle.net_model.proofs.stated_runs.Lists.{In, in_contains}
pub use Rattle.run_laws.proofs.Members.{has_right as in_right, has_left as in_left, has_map as in_map, has_flat as in_flat}

pub each_in : {X : Type 0} (P : X → Type 0) (xs : List X) → AllByRecursion P xs → (x : X) → In xs x → P x
each_in P [] a x h = absurd h
each_in P (z ∷ zs) a x (inl e) = subst P e a.0
each_in P (z ∷ zs) a x (inr h) = each_in P zs a.1 x h

pub all_in : {X : Type 0} (P : X → Type 0) (xs : List X) → All P xs → (x : X) → In xs x → P x
all_in P xs a x h = let c = in_contains xs x h in subst P c.2 (a c.0 x c.1)

pub at_in_list : {X : Type 0} (xs : List X) (k : ℕ) (d : X) → k < length xs → In xs (get_or xs k d)
at_in_list [] k d h = absurd (omega (arith, h))
at_in_list (x ∷ xs) zero d h = inl refl
at_in_list (x ∷ xs) (suc k) d h = inr (at_in_list xs k d (omega (arith, h)))

-- what is made of an element, or stands for one beyond the last
pub any_made : {X Y : Type 0} (P : Y → Type 0) (f : X → Y) (xs : List X) (k : ℕ) (d : Y) → P d → ((x : X) → In xs x → P (f x)) → P (get_or (map f xs) k d)
any_made P f [] k d none some = none
any_made P f (x ∷ xs) zero d none some = some x (inl refl)
any_made P f (x ∷ xs) (suc k) d none some = any_made P f xs k d none (λ y h. some y (inr h))

pub made_from : {X Y : Type 0} (f : X → Y) (xs : List X) (k : ℕ) (d : Y) → k < length xs → (x : X) × In xs x × (get_or (map f xs) k d ≡ f x)
made_from f [] k d h = absurd (omega (arith, h))
made_from f (x ∷ xs) zero d h = (x, inl refl, refl)
made_from f (x ∷ xs) (suc k) d h = let r = made_from f xs k d (omega (arith, h)) in (r.0, inr r.1, r.2)
