-- Sums of loads: over the numbers below another, and over those of them that pass a test.
use Rattle.std.proofs.Common.{◌≡◌, ℕ, zero, suc, ◌<◌, ◌≤◌, ◌+◌, ◌*◌, ◌/◌, Bool, true, false, cond, List, [], ◌∷◌, length, get_or, refl, ap, arith, inl, inr}
use Rattle.std.specs.Prelude.{All, sum}
use Rattle.std.specs.List.{sum_by}
use Rattle.std.proofs.lemmas.Bool.{cases_eq, cases_lt}
use Rattle.std.proofs.lemmas.List.Sums.{sum_by-cons, sum_by-append}
use Rattle.std.proofs.Math.Nat.{div-mul-le_self, mul-le-mul_left, mul-le-mul_right}
use Rattle.tree_network.specs.Lists.{those}
use Rattle.tree_network.proofs.Those.{those_yes, those_no, those_zero}
use Rattle.tree_bounds.specs.guarantee.Loads.{sum_below}

-- ---- over the numbers below another
pub below_le : (f g : ℕ → ℕ) (n : ℕ) → ((k : ℕ) → k < n → f k ≤ g k) → sum_below f n ≤ sum_below g n
below_le f g zero h = omega arith
below_le f g (suc n) h = let rest = below_le f g n (λ k lt. h k (omega (arith, lt))) in let one = h n (omega arith) in omega (arith, rest, one)

pub below_add : (f g : ℕ → ℕ) (n : ℕ) → sum_below (λ k. f k + g k) n ≡ sum_below f n + sum_below g n
below_add f g zero = refl
below_add f g (suc n) = let rest = below_add f g n in omega (arith, rest)

pub below_one : (f : ℕ → ℕ) (n k : ℕ) → k < n → f k ≤ sum_below f n
below_one f zero k h = absurd (omega (arith, h))
below_one f (suc n) k h = elim (cases_eq k n) [
  | inl same ↦ let e = ap f same in omega (arith, e)
  | inr other ↦ let rest = below_one f n k (omega (arith, h, other)) in omega (arith, rest)
]

-- first and others, and a front and the rest
pub below_first : (f : ℕ → ℕ) (n : ℕ) → sum_below f (suc n) ≡ f 0 + sum_below (λ k. f (suc k)) n
below_first f zero = omega arith
below_first f (suc n) = let rest = below_first f n in omega (arith, rest)

pub below_split : (f : ℕ → ℕ) (m n : ℕ) → sum_below f (m + n) ≡ sum_below f m + sum_below (λ k. f (m + k)) n
below_split f m zero = let e : m + 0 ≡ m = omega arith in let s = ap (sum_below f) e in omega (arith, s)
below_split f m (suc n) =
    let e : m + suc n ≡ suc (m + n) = omega arith in
    let s = ap (sum_below f) e in
    let rest = below_split f m n in
    omega (arith, s, rest)

-- ---- over those that pass
pub those_more : (f : ℕ → ℕ) (test : ℕ → Bool) (n : ℕ) → sum_by f (those test (suc n)) ≡ sum_by f (those test n) + cond (test n) (f n) 0
those_more f test n = by_test (test n) refl
  where
    by_test : (b : Bool) → test n ≡ b → sum_by f (those test (suc n)) ≡ sum_by f (those test n) + cond b (f n) 0
    by_test true e =
        let a = ap (sum_by f) (those_yes test n e) in
        let b = sum_by-append f (those test n) (n ∷ []) in
        let c = sum_by-cons f n [] in
        omega (arith, a, b, c)
    by_test false e = let a = ap (sum_by f) (those_no test n e) in omega (arith, a)

pub those_nothing : (f : ℕ → ℕ) (test : ℕ → Bool) (n : ℕ) → ((k : ℕ) → k < n → test k ≡ false) → sum_by f (those test n) ≡ 0
those_nothing f test zero h = ap (sum_by f) (those_zero test)
those_nothing f test (suc n) h =
    let rest = those_nothing f test n (λ k lt. h k (omega (arith, lt))) in
    let more = those_more f test n in
    let off = ap (λ b. cond b (f n) 0) (h n (omega arith)) in
    omega (arith, rest, more, off)

-- where the sum is not 0 one passes
pub some_passes : (f : ℕ → ℕ) (test : ℕ → Bool) (n : ℕ) → 0 < sum_by f (those test n) → (k : ℕ) × (k < n) × (test k ≡ true)
some_passes f test zero h = absurd (let e = ap (sum_by f) (those_zero test) in omega (arith, e, h))
some_passes f test (suc n) h = by_test (λ some. some_passes f test n some) (test n) refl
  where
    by_test : (0 < sum_by f (those test n) → (k : ℕ) × (k < n) × (test k ≡ true)) → (b : Bool) → test n ≡ b → (k : ℕ) × (k < suc n) × (test k ≡ true)
    by_test rest true e = (n, omega arith, e)
    by_test rest false e =
        let more = those_more f test n in
        let off = ap (λ b. cond b (f n) 0) e in
        let w = rest (omega (arith, h, more, off)) in
        let l = w.1 in
        (w.0, omega (arith, l), w.2)

-- where each that passes one test passes one of some others, their sum is no more than those sums together
pub covered : (f : ℕ → ℕ) (test : ℕ → Bool) (tests : ℕ → ℕ → Bool) (few n : ℕ) → ((i : ℕ) → i < n → test i ≡ true → (k : ℕ) × (k < few) × (tests k i ≡ true))
    → sum_by f (those test n) ≤ sum_below (λ k. sum_by f (those (tests k) n)) few
covered f test tests few zero h = let e = ap (sum_by f) (those_zero test) in omega (arith, e)
covered f test tests few (suc n) h = by_test (covered f test tests few n (λ i lt e. h i (omega (arith, lt)) e)) (test n) refl
  where
    more : sum_below (λ k. sum_by f (those (tests k) n)) few + sum_below (λ k. cond (tests k n) (f n) 0) few ≤ sum_below (λ k. sum_by f (those (tests k) (suc n))) few
    more =
        let both = below_add (λ k. sum_by f (those (tests k) n)) (λ k. cond (tests k n) (f n) 0) few in
        let each = below_le (λ k. sum_by f (those (tests k) n) + cond (tests k n) (f n) 0) (λ k. sum_by f (those (tests k) (suc n))) few
        (λ k lt. let e = those_more f (tests k) n in omega (arith, e)) in
        omega (arith, both, each)

    by_test : sum_by f (those test n) ≤ sum_below (λ k. sum_by f (those (tests k) n)) few → (b : Bool) → test n ≡ b
        → sum_by f (those test (suc n)) ≤ sum_below (λ k. sum_by f (those (tests k) (suc n))) few
    by_test rest false e =
        let own = those_more f test n in
        let off = ap (λ b. cond b (f n) 0) e in
        let all = more in
        omega (arith, own, off, rest, all)
    by_test rest true e =
        let own = those_more f test n in
        let on = ap (λ b. cond b (f n) 0) e in
        let w = h n (omega arith) e in
        let hit = ap (λ b. cond b (f n) 0) w.2 in
        let one = below_one (λ k. cond (tests k n) (f n) 0) few w.0 w.1 in
        let all = more in
        omega (arith, own, on, rest, hit, one, all)

-- ---- of lists
pub same_sums : (f g : ℕ → ℕ) (xs : List ℕ) → All (λ x. f x ≡ g x) xs → sum_by f xs ≡ sum_by g xs
same_sums f g [] all = refl
same_sums f g (x ∷ xs) all =
    let a = sum_by-cons f x xs in
    let b = sum_by-cons g x xs in
    let one = all 0 0 (omega arith) in
    let rest = same_sums f g xs (λ k d h. all (suc k) d (omega (arith, h))) in
    omega (arith, a, b, one, rest)

pub sums_list : (xs : List ℕ) → sum_below (λ k. get_or xs k 0) (length xs) ≡ sum xs
sums_list [] = refl
sums_list (x ∷ xs) =
    let first = below_first (λ k. get_or (x ∷ xs) k 0) (length xs) in
    let rest = sums_list xs in
    let own = sum_by-cons (λ (y : ℕ). y) x xs in
    omega (arith, first, rest, own)

-- shares of a rate by some quanta are together no more than it
pub shares_fit : (rate all : ℕ) (f : ℕ → ℕ) (n : ℕ) → 0 < all → sum_below f n ≤ all → sum_below (λ k. rate * f k / all) n ≤ rate
shares_fit rate all f n some few = elim (cases_lt rate (sum_below (λ k. rate * f k / all) n)) [
  | inr fits ↦ fits
  | inl more ↦
      let a = scaled n in
      let b = mul-le-mul_left rate few in
      let c = mul-le-mul_right all more in
      absurd (past rate all (sum_below (λ k. rate * f k / all) n) (rate * sum_below f n) a b c some)
]
  where
    scaled : (m : ℕ) → sum_below (λ k. rate * f k / all) m * all ≤ rate * sum_below f m
    scaled zero = omega arith
    scaled (suc m) =
        let rest = scaled m in
        let one : rate * f m / all * all ≤ rate * f m = div-mul-le_self (rate * f m) all in
        let l = spread (sum_below (λ k. rate * f k / all) m) (rate * f m / all) all in
        let r = joined rate (sum_below f m) (f m) in
        omega (arith, rest, one, l, r)
      where
        spread : (x y z : ℕ) → (x + y) * z ≡ x * z + y * z
        spread x y z = grind arith

        joined : (x y z : ℕ) → x * (y + z) ≡ x * y + x * z
        joined x y z = grind arith

    past : (r a s t : ℕ) → s * a ≤ t → t ≤ r * a → suc r * a ≤ s * a → 0 < a → ⊥
    past r a s t h k l some = let e : suc r * a ≡ r * a + a = grind arith in omega (arith, h, k, l, some, e)
