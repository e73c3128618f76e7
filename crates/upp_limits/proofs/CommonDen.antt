-- The least common denominator of some numbers, and the least whole number that bounds their sizes.
use Rattle.std.specs.Prelude.{◌≡◌, ℕ, suc, ◌+◌, ◌*◌, ◌-◌, ◌<◌, ◌≤◌, ℤ, pos, negsuc, nat_abs, List, [], ◌∷◌, ◌++◌, neg_ℤ, ◌*ℤ◌, ◌≤ℤ◌, ◌⊎◌}
use Rattle.std.proofs.Common.{arith, sym, refl, subst, inl, inr}
use Prim.Native.Nat.{◌∣◌}
use Rattle.std.specs.List.{AllByRecursion}
use Rattle.std.proofs.lemmas.Int.{ints}
use Rattle.std.proofs.lemmas.Bool.{cases_lt}
use Rattle.std.proofs.lemmas.Nat.Gcd.{dvd_refl}
use Rattle.std.proofs.Math.Nat.{le-max_left, le-max_right, max-le}
use native.Mathlib.Nat.{dvd_trans, dvd_antisymm, one-dvd, zero-lt-suc, div-add-mod', mod-lt, mul-le-mul_right}
use Rattle.rational.specs.Ints.{neg_mul_z}
use Rattle.rational.specs.Rational.{ℚ, den, ◌≤ℚ◌, int, frac}
use Rattle.rational.specs.Fractions.{frac_self}
use Rattle.rational.proofs.Over.{le_frac}
use Rattle.rational.specs.Gauge.{lcm, common_den, common_den_from, size_up, up_over, bound_of}
use Rattle.rational.specs.Grid.{Whole, Within}
use Rattle.rational.proofs.Over.{neg_over}
use Rattle.rational.proofs.Multiples.{lcm_left, lcm_right, lcm_least, lcm_pos}
use Rattle.rational.proofs.Grid.{whole_divides, whole_from_divides, within_weaken}
use Rattle.rational.proofs.Integers.{nat_le}
use Rattle.upp_limits.proofs.Every.{every_weaken}

-- ---- the least common denominator
pub den_from_pos : (n : ℕ) (xs : List ℚ) → 0 < n → 0 < common_den_from n xs
unfolding common_den_from
den_from_pos n [] h = h
den_from_pos n (x ∷ xs) h = den_from_pos (lcm (den x) n) xs (lcm_pos (den x) n (zero-lt-suc x.pre) h)

pub common_den_pos : (xs : List ℚ) → 0 < common_den xs
common_den_pos xs = den_from_pos 1 xs (omega arith)

den_from_keeps : (n : ℕ) (xs : List ℚ) → n ∣ common_den_from n xs
unfolding common_den_from
den_from_keeps n [] = dvd_refl n
den_from_keeps n (x ∷ xs) = dvd_trans n (lcm_right (den x) n) (den_from_keeps (lcm (den x) n) xs)

den_from_each : (n : ℕ) (xs : List ℚ) → AllByRecursion (λ x. den x ∣ common_den_from n xs) xs
unfolding common_den_from
den_from_each n [] = tt
den_from_each n (x ∷ xs) = (dvd_trans (den x) (lcm_left (den x) n) (den_from_keeps (lcm (den x) n) xs), den_from_each (lcm (den x) n) xs)

den_from_least : (n m : ℕ) (xs : List ℚ) → 0 < n → n ∣ m → AllByRecursion (λ x. den x ∣ m) xs → common_den_from n xs ∣ m
unfolding common_den_from
den_from_least n m [] some h k = h
den_from_least n m (x ∷ xs) some h k =
    let d : 0 < den x = zero-lt-suc x.pre in
    den_from_least (lcm (den x) n) m xs (lcm_pos (den x) n d some) (lcm_least (den x) n m d some k.0 h) k.1

-- each number stands on the grid of the least common denominator
pub common_den_each : (xs : List ℚ) → AllByRecursion (Whole (common_den xs)) xs
common_den_each xs = every_weaken (λ x. whole_from_divides (common_den xs) x) xs (den_from_each 1 xs)

-- and that divides each grid on which all stand
pub common_den_least : (m : ℕ) (xs : List ℚ) → AllByRecursion (Whole m) xs → common_den xs ∣ m
common_den_least m xs h = den_from_least 1 m xs (omega arith) (one-dvd m) (every_weaken (λ x. whole_divides m x) xs h)

-- two lists whose numbers stand on each other's grid
pub same_common_den : (xs ys : List ℚ) → AllByRecursion (Whole (common_den ys)) xs → AllByRecursion (Whole (common_den xs)) ys → common_den xs ≡ common_den ys
same_common_den xs ys h k = dvd_antisymm (common_den_least (common_den ys) xs h) (common_den_least (common_den xs) ys k)

pub den_from_append : (n : ℕ) (xs ys : List ℚ) → common_den_from n (xs ++ ys) ≡ common_den_from (common_den_from n xs) ys
unfolding common_den_from
den_from_append n [] ys = refl
den_from_append n (x ∷ xs) ys = den_from_append (lcm (den x) n) xs ys

-- ---- sizes
up_low : (n d : ℕ) → n ≤ up_over n (suc d) * suc d
up_low n d =
    let e = div-add-mod' (n + (suc d - 1)) (suc d) in
    let l = mod-lt (n + (suc d - 1)) (zero-lt-suc d) in
    omega arith

up_least : (n d m : ℕ) → n ≤ m * suc d → up_over n (suc d) ≤ m
up_least n d m h =
    let e = div-add-mod' (n + (suc d - 1)) (suc d) in
    let q = up_over n (suc d) in
    let l : q * suc d < suc m * suc d = omega arith in
    below q m d l
  where
    below : (q m d : ℕ) → q * suc d < suc m * suc d → q ≤ m
    below q m d l = elim (le_or q m) [
      | inl h ↦ h
      | inr h ↦ let k : suc m * suc d ≤ q * suc d = mul-le-mul_right (suc d) h in absurd (omega arith)
    ]
      where
        le_or : (q m : ℕ) → (q ≤ m) ⊎ (suc m ≤ q)
        le_or q m = elim (cases_lt m q) [ inl h ↦ inr (omega arith) | inr h ↦ inl h ]

pub within_parts : (n : ℕ) (a : ℤ) (d : ℕ) → nat_abs a ≤ n * suc d → Within (int (pos n)) (frac a d)
within_parts n a d h = record {
  low = subst (λ v. v ≤ℚ frac a d) (sym (neg_over (pos n) 0)) ((le_frac (neg_ℤ (pos n)) 0 a d).1 (rw (neg_mul_z (pos n) (pos (suc d))) (low n a d h)));
  high = (le_frac a d (pos n) 0).1 (high n a d h);
}
  where
    low : (n : ℕ) (a : ℤ) (d : ℕ) → nat_abs a ≤ n * suc d → neg_ℤ (pos (n * suc d)) ≤ℤ (a *ℤ pos 1)
    low n (pos a) d h = omega (arith, ints)
    low n (negsuc a) d h = omega (arith, ints)

    high : (n : ℕ) (a : ℤ) (d : ℕ) → nat_abs a ≤ n * suc d → (a *ℤ pos 1) ≤ℤ (pos n *ℤ pos (suc d))
    high n (pos a) d h = omega (arith, ints)
    high n (negsuc a) d h = omega (arith, ints)

pub within_parts_out : (n : ℕ) (a : ℤ) (d : ℕ) → Within (int (pos n)) (frac a d) → nat_abs a ≤ n * suc d
within_parts_out n a d w =
    by_sign a (rw (neg_mul_z (pos n) (pos (suc d))) at (le_frac (neg_ℤ (pos n)) 0 a d).0 (subst (λ v. v ≤ℚ frac a d) (neg_over (pos n) 0) w.low)) ((le_frac a d (pos n) 0).0 w.high)
  where
    by_sign : (a : ℤ) → neg_ℤ (pos (n * suc d)) ≤ℤ (a *ℤ pos 1) → (a *ℤ pos 1) ≤ℤ (pos n *ℤ pos (suc d)) → nat_abs a ≤ n * suc d
    by_sign (pos a) l h = omega (arith, ints)
    by_sign (negsuc a) l h = omega (arith, ints)

-- a number is within its size rounded up
pub size_up_within : (x : ℚ) → Within (int (pos (size_up x))) x
unfolding size_up
size_up_within x =
    subst (λ y. Within (int (pos (size_up x))) y) (sym (frac_self x)) (within_parts (size_up x) x.num x.pre (up_low (nat_abs x.num) x.pre))

-- which is the least whole number with that property
pub size_up_least : (n : ℕ) (x : ℚ) → Within (int (pos n)) x → size_up x ≤ n
unfolding size_up
size_up_least n x w =
    up_least (nat_abs x.num) x.pre n (within_parts_out n x.num x.pre (subst (λ y. Within (int (pos n)) y) (frac_self x) w))

pub bound_pos : (xs : List ℚ) → 1 ≤ bound_of xs
unfolding bound_of
bound_pos [] = omega arith
bound_pos (x ∷ xs) = let h = bound_pos xs in let k = le-max_right (size_up x) (bound_of xs) in omega arith

bound_sizes : (xs : List ℚ) (n : ℕ) → bound_of xs ≤ n → AllByRecursion (λ x. size_up x ≤ n) xs
unfolding bound_of
bound_sizes [] n h = tt
bound_sizes (x ∷ xs) n h =
    let l = le-max_left (size_up x) (bound_of xs) in
    let r = le-max_right (size_up x) (bound_of xs) in
    (omega arith, bound_sizes xs n (omega arith))

-- each number is within a number that is at least the bound
pub bound_each : (xs : List ℚ) (n : ℕ) → bound_of xs ≤ n → AllByRecursion (Within (int (pos n))) xs
bound_each xs n h = every_weaken (λ x l. within_weaken (int (pos (size_up x))) (int (pos n)) x (nat_le (size_up x) n l) (size_up_within x)) xs (bound_sizes xs n h)

-- and the bound is the least such number from 1 on
pub bound_least : (n : ℕ) (xs : List ℚ) → 1 ≤ n → AllByRecursion (Within (int (pos n))) xs → bound_of xs ≤ n
unfolding bound_of
bound_least n [] some h = some
bound_least n (x ∷ xs) some h = max-le (size_up_least n x h.0) (bound_least n xs some h.1)

pub same_bound : (xs ys : List ℚ) → AllByRecursion (Within (int (pos (bound_of ys)))) xs → AllByRecursion (Within (int (pos (bound_of xs)))) ys → bound_of xs ≡ bound_of ys
same_bound xs ys h k =
    let l = bound_least (bound_of ys) xs (bound_pos ys) h in
    let r = bound_least (bound_of xs) ys (bound_pos xs) k in
    omega arith
