-- Names, found by their numbers.
use Rattle.std.specs.BTreeMap as tree
use Rattle.std.specs.BTreeMap.{BTreeMap}
use Rattle.std.specs.Cmp.Lexicographic.{slice_cmp}
use Rattle.std.specs.List.{list_any, position, position_from}
use Rattle.std.specs.Ordering.{nat_cmp}
use Rattle.std.specs.Prelude.{◌⊎◌, String, is_some, slice_get}
use Rattle.std.specs.Str.{bytes_eq}
use Rattle.std.specs.String.{string_bytes, string_cmp}
use Rattle.std.specs.declared.alloc.Global.{Global}
use Rattle.std.proofs.Common.{◌≡◌, ℕ, zero, suc, ◌+◌, ◌<◌, ◌||◌, Bool, true, false, cond, List, [], ◌∷◌, ◌++◌, map, length, Option, Some, None, IfSome, refl, sym, ap, ap₂, subst, ◌∙◌, inl, inr, arith}
use Rattle.std.proofs.lemmas.Bool.{false_from_ne_true}
use Rattle.std.proofs.lemmas.Iterator.Adapters.{position_from-zero}
use Rattle.std.proofs.lemmas.List.{map-append}
use Rattle.std.proofs.lemmas.List.Quantifiers.{position-Some}
use Rattle.std.proofs.lemmas.Map.Text.{btree_map_updates_text}
use Rattle.std.proofs.lemmas.Slice.Eq.{bytes_eq-Decides}
use Rattle.document_tables.specs.Names.{AreNumbersOf, AreOwn}
use Rattle.document_tables.proofs.LinkSteps.{nowhere_any}

-- ---- one of them
module _ {X : Type 0} (p : X → Bool) where
  pub number_within : (xs : List X) (d : X) (o : Option ℕ) → o ≡ position p xs → IfSome o (λ n. n < length xs)
  number_within xs d None h = tt
  number_within xs d (Some n) h = (position-Some p xs n d (sym h)).0

  from_some : (n : ℕ) (xs : List X) (k : ℕ) → position_from p n xs ≡ Some k → list_any p xs ≡ true
  from_some n [] k h = cc
  from_some n (x ∷ xs) k h = at_first (p x) h (from_some (n + 1) xs k)
    where
      at_first : (b : Bool) → cond b (Some n) (position_from p (n + 1) xs) ≡ Some k → (position_from p (n + 1) xs ≡ Some k → list_any p xs ≡ true) → b || list_any p xs ≡ true
      at_first true e rest = refl
      at_first false e rest = rest e

  -- one has a number where it is one of them
  pub any_by_number : (xs : List X) (o : Option ℕ) (b : Bool) → o ≡ position p xs → b ≡ is_some o → b ≡ list_any p xs
  any_by_number xs None b h is = is ∙ sym (nowhere_any p xs (sym h))
  any_by_number xs (Some k) b h is = is ∙ sym (from_some 0 xs k (sym (position_from-zero p xs) ∙ sym h))

  pub no_number : (xs : List X) (o : Option ℕ) (b : Bool) → o ≡ position p xs → b ≡ is_some o → b ≡ false → position p xs ≡ None
  no_number xs None b h is not = sym h
  no_number xs (Some k) b h is not = absurd (true_is_not (sym is ∙ not))
    where
      true_is_not : true ≡ false → ⊥
      true_is_not e = cc

  -- ---- one more behind them
  hit : (n : ℕ) (xs : List X) (x : X) → position_from p n xs ≡ None → p x ≡ true → position_from p n (xs ++ x ∷ []) ≡ Some (n + length xs)
  hit n [] x none is =
      let e : n ≡ n + 0 = omega arith in
      ap (λ (b : Bool). cond b (Some n) None) is ∙ ap Some e
  hit n (first ∷ xs) x none is = behind (p first) none (λ rest. hit (n + 1) xs x rest is)
    where
      behind : (b : Bool) → cond b (Some n) (position_from p (n + 1) xs) ≡ None
          → (position_from p (n + 1) xs ≡ None → position_from p (n + 1) (xs ++ x ∷ []) ≡ Some (n + 1 + length xs))
          → cond b (Some n) (position_from p (n + 1) (xs ++ x ∷ [])) ≡ Some (n + suc (length xs))
      behind true e rest = cc
      behind false e rest =
          let same : n + 1 + length xs ≡ n + suc (length xs) = omega arith in
          rest e ∙ ap Some same

  miss : (n : ℕ) (xs : List X) (x : X) → p x ≡ false → position_from p n (xs ++ x ∷ []) ≡ position_from p n xs
  miss n [] x not = ap (λ (b : Bool). cond b (Some n) None) not
  miss n (first ∷ xs) x not = ap (λ (o : Option ℕ). cond (p first) (Some n) o) (miss (n + 1) xs x not)

-- a new one has the next number, and the others keep theirs
module _ {X : Type 0} (eq : X → X → Bool) (same : (a b : X) → eq a b ≡ true → a ≡ b) (alike : (a b : X) → a ≡ b → eq a b ≡ true) where
  apart : (a b : X) → eq a b ≡ false → eq b a ≡ false
  apart a b not = false_from_ne_true (eq b a) (λ is. differ (sym (alike a b (sym (same b a is))) ∙ not))
    where
      differ : true ≡ false → ⊥
      differ e = cc

  pub added : (xs : List X) (x y : X) → position (eq x) xs ≡ None
      → cond (eq x y) (Some (length xs)) (position (eq y) xs) ≡ position (eq y) (xs ++ x ∷ [])
  added xs x y none = by_test (eq x y) refl
    where
      by_test : (b : Bool) → eq x y ≡ b → cond b (Some (length xs)) (position (eq y) xs) ≡ position (eq y) (xs ++ x ∷ [])
      by_test true is =
          let e : x ≡ y = same x y is in
          let nowhere : position_from (eq y) 0 xs ≡ None =
          sym (position_from-zero (eq y) xs) ∙ subst (λ (z : X). position (eq z) xs ≡ None) e none
          in
          let next : 0 + length xs ≡ length xs = omega arith in
          sym (position_from-zero (eq y) (xs ++ x ∷ [])
          ∙ (hit (eq y) 0 xs x nowhere (alike y x (sym e)) ∙ ap Some next))
      by_test false is =
          position_from-zero (eq y) xs
          ∙ (sym (miss (eq y) 0 xs x (apart x y is)) ∙ sym (position_from-zero (eq y) (xs ++ x ∷ [])))

-- ---- texts
with_name : (names : List (List ℕ)) (name text : List ℕ) → position (bytes_eq name) names ≡ None
    → cond (bytes_eq name text) (Some (length names)) (position (bytes_eq text) names) ≡ position (bytes_eq text) (names ++ name ∷ [])
with_name names name text none = added bytes_eq (λ a b. (bytes_eq-Decides a b).0) (λ a b. (bytes_eq-Decides a b).1) names name text none

at_push : {X : Type 0} (xs : List X) (x y : X) (k : ℕ) → slice_get (xs ++ x ∷ []) k ≡ Some y → (slice_get xs k ≡ Some y) ⊎ ((k ≡ length xs) × (x ≡ y))
at_push [] x y zero h = inr (refl, cc)
at_push [] x y (suc k) h = cc
at_push (z ∷ xs) x y zero h = inl h
at_push (z ∷ xs) x y (suc k) h = elim (at_push xs x y k h) [
  | inl here ↦ inl here
  | inr last ↦ inr (omega (arith, last.0), last.1)
]

keeps_place : (names : List (List ℕ)) (name other : List ℕ) (number : ℕ) (b : Bool) → bytes_eq name other ≡ b → position (bytes_eq name) names ≡ None
    → position (bytes_eq other) names ≡ Some number → cond b (Some (length names)) (position (bytes_eq other) names) ≡ Some number
keeps_place names name other number true is none here =
    let nowhere = subst (λ (z : List ℕ). position (bytes_eq z) names ≡ None) ((bytes_eq-Decides name other).0 is) none in
    cc (nowhere, here)
keeps_place names name other number false is none here = here

-- one more that is new has its own place, and the others keep theirs
own_more : (names : List (List ℕ)) (name : List ℕ) → AreOwn names → position (bytes_eq name) names ≡ None → AreOwn (names ++ name ∷ [])
own_more names name own none number other h =
    let both = with_name names name other none in
    elim (at_push names name other number h) [
      | inl here ↦ sym both ∙ keeps_place names name other number (bytes_eq name other) refl none (own number other here)
      | inr last ↦ sym both
          ∙ (ap (λ (b : Bool). cond b (Some (length names)) (position (bytes_eq other) names)) ((bytes_eq-Decides name other).1 last.1) ∙ ap Some (sym last.0))
    ]

pub numbered : (numbers more : BTreeMap (String Global) ℕ) (key : String Global) (number : ℕ) (names : List (List ℕ)) (name : List ℕ)
    → AreNumbersOf numbers names → position (bytes_eq name) names ≡ None → string_bytes key ≡ name → number ≡ length names
    → tree.UpdatesBy string_cmp (λ k. slice_cmp nat_cmp (string_bytes key) (string_bytes k)) numbers more (Some number)
    → AreNumbersOf more (names ++ name ∷ [])
numbered numbers more key number names name are none bytes next updates = record {
  found = λ text. btree_map_updates_text (string_bytes key) numbers more (Some number) updates text
      ∙ (ap (λ (o : Option ℕ). cond (bytes_eq (string_bytes key) text) (Some number) o) (are.found text)
      ∙ (ap₂ (λ (bs : List ℕ) (n : ℕ). cond (bytes_eq bs text) (Some n) (position (bytes_eq text) names)) bytes next
      ∙ with_name names name text none));
  own = own_more names name are.own none;
}

-- their texts with one more
pub pushed : (texts room more : List (String Global)) (text : String Global) (names : List (List ℕ)) (name : List ℕ)
    → map string_bytes texts ≡ names → room ≡ texts → more ≡ room ++ text ∷ [] → string_bytes text ≡ name
    → map string_bytes more ≡ names ++ name ∷ []
pushed texts room more text names name are same is bytes =
    ap (map string_bytes) is
    ∙ (ap (λ (ts : List (String Global)). map string_bytes (ts ++ text ∷ [])) same
    ∙ (map-append string_bytes texts (text ∷ [])
    ∙ ap₂ (λ (ns : List (List ℕ)) (bs : List ℕ). ns ++ bs ∷ []) are bytes))
