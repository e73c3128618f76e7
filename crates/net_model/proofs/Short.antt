-- Lists of one and two elements, names of one and two bytes, and lists by their members.
use Rattle.std.specs.Prelude.{All, AllPairs, Contains, IsTrue}
use Rattle.std.proofs.Common.{◌≡◌, ◌⊎◌, ℕ, zero, suc, List, [], ◌∷◌, get_or, true, inl, inr, arith}
use Rattle.std.proofs.lemmas.List.Elements.{Contains-get_or}
use Rattle.net_model.specs.Names.{IsName, is_name_byte}

-- ---- each member
pub all_of : {X : Type 0} (P : X → Type 0) (xs : List X) → ((x : X) → Contains xs x → P x) → All P xs
all_of P xs each k d within = each (get_or xs k d) (Contains-get_or xs k d within)

-- ---- short lists
-- of one there are no two places
pub no_pairs : {A : Type 0} (R : A → A → Type 0) (x : A) → AllPairs R (x ∷ [])
no_pairs R x i zero d before within = absurd (omega (arith, before))
no_pairs R x i (suc j) d before within = absurd (omega (arith, within))

pub one_pair : {A : Type 0} (R : A → A → Type 0) (x y : A) → R x y → AllPairs R (x ∷ y ∷ [])
one_pair R x y r i zero d before within = absurd (omega (arith, before))
one_pair R x y r zero (suc zero) d before within = r
one_pair R x y r (suc i) (suc zero) d before within = absurd (omega (arith, before))
one_pair R x y r i (suc (suc j)) d before within = absurd (omega (arith, within))

-- what it contains is one of them
pub alone : {A : Type 0} (x y : A) → Contains (x ∷ []) y → x ≡ y
alone x y (zero, within, is) = is
alone x y (suc k, within, is) = absurd (omega (arith, within))

pub one_of_two : {A : Type 0} (x y z : A) → Contains (x ∷ y ∷ []) z → (x ≡ z) ⊎ (y ≡ z)
one_of_two x y z (zero, within, is) = inl is
one_of_two x y z (suc zero, within, is) = inr is
one_of_two x y z (suc (suc k), within, is) = absurd (omega (arith, within))

-- ---- names
-- of one byte, of two bytes
pub named_by_one : (a : ℕ) → is_name_byte a ≡ true → IsName (a ∷ [])
named_by_one a h = record { some = omega arith; few = omega arith; bytes = bytes }
  where
    bytes : All (λ c. IsTrue (is_name_byte c)) (a ∷ [])
    bytes zero d l = h
    bytes (suc j) d l = absurd (omega (arith, l))

pub named_by_two : (a b : ℕ) → is_name_byte a ≡ true → is_name_byte b ≡ true → IsName (a ∷ b ∷ [])
named_by_two a b h k = record { some = omega arith; few = omega arith; bytes = bytes }
  where
    bytes : All (λ c. IsTrue (is_name_byte c)) (a ∷ b ∷ [])
    bytes zero d l = h
    bytes (suc zero) d l = k
    bytes (suc (suc j)) d l = absurd (omega (arith, l))
