-- The least common multiple of two fractions above 0.
use Rattle.std.specs.Prelude.{◌≡◌, ℕ, zero, suc, ◌*◌, ◌/◌, ◌<◌, ◌≤◌, ◌^◌, ℤ, pos, negsuc, ◌<ℤ◌, nat_abs, unsigned_abs}
use Rattle.std.proofs.Common.{arith, sym, ap, ◌∙◌, subst, refl}
use Rattle.std.proofs.lemmas.Int.{ints}
use Prim.Native.Nat.{◌∣◌}
use native.Mathlib.Nat.{zero-lt-suc, dvd_trans, div-mul_cancel, dvd-mul_left, mul-div_cancel', le_of_dvd}
use Rattle.rational.specs.Gcd.{gcd}
use Rattle.rational.specs.Euclid.{gcd_is, gcd_pos}
use Rattle.rational.specs.Gauge.{lcm}
use Rattle.rational.specs.Rational.{ℚ, den, int, over, frac, ◌*ℚ◌, ◌≤ℚ◌, ◌<ℚ◌}
use Rattle.rational.specs.Fractions.{frac_self, frac-same, frac-same_out}
use Rattle.rational.proofs.Over.{lt_frac}
use Rattle.rational.specs.Ratio.{ratio, IsSmall}
use Rattle.rational.proofs.Integers.{mul_whole, nat_le}
use Rattle.rational.proofs.Laws.{le_of_lt, lt_irrefl, mul_le_mul_right, mul_one, mul_zero, mul_comm as mul_comm_q}
use Rattle.rational.proofs.Multiples.{lcm_pos, lcm_left, lcm_right, lcm_least}
use Rattle.fraction128.specs.Parts.{AreLowest}
use Rattle.fraction128.specs.Multiple.{IsMultiple, IsLeastMultiple, common_multiple}
use Rattle.fraction128.proofs.Coprime.{coprime_in, coprime_out, coprime_parts, coprime_turned, divides_rest, part_divides}
use Rattle.fraction128.proofs.Values.{value_parts, parts_of}
use Rattle.rational.proofs.Laws.{num_pos}

-- the least common multiple of the numerators has nothing in common with the common divisor of the denominators
pub multiple_lowest : (p q r s : ℕ) → gcd p q ≡ 1 → gcd r s ≡ 1 → gcd (lcm p r) (gcd q s) ≡ 1
multiple_lowest p q r s one_left one_right =
    coprime_in (lcm p r) (gcd q s) (λ k m g.
    let by_q : k ∣ q = dvd_trans k g (gcd_is q s).0 in
    let by_s : k ∣ s = dvd_trans k g (gcd_is q s).1 in
    let part : p / gcd p r ∣ p = part_divides p (p / gcd p r) (gcd p r) (div-mul_cancel (gcd p r) (gcd_is p r).0) in
    let apart : gcd (p / gcd p r) k ≡ 1 = coprime_parts p q (p / gcd p r) k one_left part by_q in
    coprime_out r s k one_right (divides_rest (p / gcd p r) r k apart m) by_s)

pub multiple_small : (m g : ℕ) → 0 < g → gcd m g ≡ 1 → IsSmall (over (pos m) g) → m < 2 ^ 127
multiple_small m zero some one h = absurd (omega arith)
multiple_small m (suc g) some one h = let parts = value_parts (pos m) (suc g) _ (zero-lt-suc g) one refl in rw parts.0 at h.top

pub over_ratio : (z : ℤ) (d : ℕ) → ratio z (pos d) ≡ over z d
over_ratio z zero = refl
over_ratio z (suc d) = refl

-- ---- the law, over numbers
-- n / d is i times p / q
times_in : (n d i p q : ℕ) → n * suc q ≡ i * p * suc d → frac (pos n) d ≡ int (pos i) *ℚ frac (pos p) q
times_in n d i p q e = frac-same (pos n) d (pos (i * p)) q (ap pos e) ∙ sym (mul_whole (pos i) (pos p) q)

times_out : (n d i p q : ℕ) → frac (pos n) d ≡ int (pos i) *ℚ frac (pos p) q → n * suc q ≡ i * p * suc d
times_out n d i p q e = let h = frac-same_out (pos n) d (pos (i * p)) q (e ∙ mul_whole (pos i) (pos p) q) in omega (arith, ints)

-- a number in lowest terms that is a multiple of one in lowest terms: its denominator divides, and its numerator is divided
divided : (n d i p q : ℕ) → gcd n (suc d) ≡ 1 → gcd p (suc q) ≡ 1 → n * suc q ≡ i * p * suc d → (suc d ∣ suc q) × (p ∣ n)
divided n d i p q one_n one_p e =
    let by_d : suc d ∣ n * suc q = subst (λ m. suc d ∣ m) (sym e) (dvd-mul_left (suc d) (i * p)) in
    let by_p : p ∣ suc q * n = subst (λ m. p ∣ m) (swapped i p (suc d) n (suc q) e) (dvd-mul_left p (i * suc d)) in
    (divides_rest n (suc q) (suc d) one_n by_d, divides_rest (suc q) n p (coprime_turned p (suc q) one_p) by_p)
  where
    swapped : (i p d n q : ℕ) → n * q ≡ i * p * d → i * d * p ≡ q * n
    swapped i p d n q e = omega (arith, e)

-- a number above 0 that is a whole multiple of a number is at least it
at_least_one : (x m : ℚ) (k : ℕ) → int (pos 0) <ℚ x → int (pos 0) ≤ℚ m → x ≡ int (pos k) *ℚ m → m ≤ℚ x
at_least_one x m zero h some e = absurd (lt_irrefl (int (pos 0)) (subst (λ y. int (pos 0) <ℚ y) (e ∙ mul_comm_q (int (pos 0)) m ∙ mul_zero m) h))
at_least_one x m (suc k) h some e =
    let more : int (pos 1) *ℚ m ≤ℚ int (pos (suc k)) *ℚ m = mul_le_mul_right m some (nat_le 1 (suc k) (omega arith)) in
    subst (λ y. y ≤ℚ x) (mul_comm_q (int (pos 1)) m ∙ mul_one m) (subst (λ y. int (pos 1) *ℚ m ≤ℚ y) (sym e) more)

-- m / g for the least common multiple m of the numerators and the common divisor g of the denominators
multiple_law : (p q r s m g : ℕ) → gcd p (suc q) ≡ 1 → gcd r (suc s) ≡ 1 → p ∣ m → r ∣ m → suc g ∣ suc q → suc g ∣ suc s
    → ((n : ℕ) → p ∣ n → r ∣ n → m ∣ n) → ((d : ℕ) → d ∣ suc q → d ∣ suc s → d ∣ suc g) → 0 < m
    → IsLeastMultiple (frac (pos p) q) (frac (pos r) s) (frac (pos m) g)
multiple_law p q r s m g one_a one_b pm rm gq gs all_m all_g some =
    record {
      above = (lt_frac (pos 0) 0 (pos m) g).1 (omega (arith, ints));
      left = record { times = m / p * (suc q / suc g); is = times_in m g (m / p * (suc q / suc g)) p q (both_times m p (suc q) (suc g) (mul-div_cancel' p pm) (mul-div_cancel' (suc g) gq)) };
      right = record { times = m / r * (suc s / suc g); is = times_in m g (m / r * (suc s / suc g)) r s (both_times m r (suc s) (suc g) (mul-div_cancel' r rm) (mul-div_cancel' (suc g) gs)) };
      least = λ x h u v. let w = times_of x h u v in least_of x h w;
      divides = λ x h u v. times_of x h u v;
    }
  where
    both_times : (m p q g : ℕ) → p * (m / p) ≡ m → g * (q / g) ≡ q → m * q ≡ m / p * (q / g) * p * g
    both_times m p q g e f = rearranged (m / p) (q / g) p g m q e f
      where
        rearranged : (k l p g m q : ℕ) → p * k ≡ m → g * l ≡ q → m * q ≡ k * l * p * g
        rearranged k l p g m q e f = rw (← e, ← f) (omega arith)

    above_zero : (z : ℤ) (d : ℕ) → int (pos 0) <ℚ frac z d → pos 0 <ℤ z
    above_zero z d h = let l = (lt_frac (pos 0) 0 z d).0 h in omega (arith, ints)

    times_from : (z : ℤ) (d : ℕ) → gcd (nat_abs z) (suc d) ≡ 1 → pos 0 <ℤ z → IsMultiple (frac (pos p) q) (frac z d) → IsMultiple (frac (pos r) s) (frac z d) → IsMultiple (frac (pos m) g) (frac z d)
    times_from (negsuc n) d one h u v = absurd (omega (arith, ints))
    times_from (pos n) d one h u v =
        let a = divided n d u.times p q one one_a (times_out n d u.times p q u.is) in
        let b = divided n d v.times r s one one_b (times_out n d v.times r s v.is) in
        let mn : m ∣ n = all_m n a.1 b.1 in
        let dg : suc d ∣ suc g = all_g (suc d) a.0 b.0 in
        record {
          times = n / m * (suc g / suc d);
          is = times_in n d (n / m * (suc g / suc d)) m g (both_times n m (suc g) (suc d) (mul-div_cancel' m mn) (mul-div_cancel' (suc d) dg));
        }

    times_of : (x : ℚ) → int (pos 0) <ℚ x → IsMultiple (frac (pos p) q) x → IsMultiple (frac (pos r) s) x → IsMultiple (frac (pos m) g) x
    times_of x h u v =
        let self = frac_self x in
        let a : IsMultiple (frac (pos p) q) (frac x.num x.pre) = record { times = u.times; is = sym self ∙ u.is } in
        let b : IsMultiple (frac (pos r) s) (frac x.num x.pre) = record { times = v.times; is = sym self ∙ v.is } in
        let w = times_from x.num x.pre x.lowest (above_zero x.num x.pre (subst (λ y. int (pos 0) <ℚ y) self h)) a b in
        record { times = w.times; is = self ∙ w.is }

    least_of : (x : ℚ) → int (pos 0) <ℚ x → IsMultiple (frac (pos m) g) x → frac (pos m) g ≤ℚ x
    least_of x h w = at_least_one x (frac (pos m) g) w.times h (le_of_lt ((lt_frac (pos 0) 0 (pos m) g).1 (omega (arith, ints)))) w.is

-- ---- the law of two values
pub common_multiple_is : (a b : ℤ) (d e : ℕ) (x y : ℚ) (p r : ℕ) → AreLowest a d → AreLowest b e → ratio a (pos d) ≡ x → ratio b (pos e) ≡ y → p ≡ unsigned_abs a → r ≡ unsigned_abs b
    → over (pos (lcm p r)) (gcd d e) ≡ common_multiple x y
unfolding common_multiple
common_multiple_is a b d e x y p r h k s t f g =
    let u = parts_of a d x h s in
    let v = parts_of b e y k t in
    rw (f, g, u.0, u.1, v.0, v.1) refl

numbers_least : (a b : ℤ) (q s g : ℕ) → gcd (nat_abs a) (suc q) ≡ 1 → gcd (nat_abs b) (suc s) ≡ 1 → pos 0 <ℤ a → pos 0 <ℤ b → g ≡ gcd (suc q) (suc s)
    → IsLeastMultiple (frac a q) (frac b s) (over (pos (lcm (nat_abs a) (nat_abs b))) g)
numbers_least (negsuc a) b q s g one_a one_b h k e = absurd (omega (arith, ints))
numbers_least (pos p) (negsuc b) q s g one_a one_b h k e = absurd (omega (arith, ints))
numbers_least (pos p) (pos r) q s zero one_a one_b h k e = absurd (omega (arith, e, gcd_pos (suc q) (suc s) (zero-lt-suc s)))
numbers_least (pos p) (pos r) q s (suc g) one_a one_b h k e =
    let some_p : 0 < p = omega (arith, ints) in
    let some_r : 0 < r = omega (arith, ints) in
    let is = gcd_is (suc q) (suc s) in
    multiple_law p q r s (lcm p r) g one_a one_b (lcm_left p r) (lcm_right p r) (subst (λ n. n ∣ suc q) (sym e) is.0) (subst (λ n. n ∣ suc s) (sym e) is.1)
    (λ n u v. lcm_least p r n some_p some_r u v) (λ d u v. subst (λ n. d ∣ n) (sym e) (is.2 d u v)) (lcm_pos p r some_p some_r)

pub common_multiple_least : (x y : ℚ) → int (pos 0) <ℚ x → int (pos 0) <ℚ y → IsLeastMultiple x y (common_multiple x y)
unfolding common_multiple
common_multiple_least x y h k =
    let m = over (pos (lcm (nat_abs x.num) (nat_abs y.num))) (gcd (den x) (den y)) in
    let by_numbers = numbers_least x.num y.num x.pre y.pre _ x.lowest y.lowest (num_pos x h) (num_pos y k) refl in
    subst (λ v. IsLeastMultiple x v m) (sym (frac_self y)) (subst (λ v. IsLeastMultiple v (frac y.num y.pre) m) (sym (frac_self x)) by_numbers)

pub multiple_as_lowest : (p q r s t g : ℕ) → AreLowest (pos p) q → AreLowest (pos r) s → t ≡ lcm p r → g ≡ gcd q s → t < 2 ^ 127 → AreLowest (pos t) g
multiple_as_lowest p q r s t g h k e f l =
    let some : 0 < g = rw f (gcd_pos q s k.some) in
    let less : g ≤ q = rw f (le_of_dvd h.some (gcd_is q s).0) in
    let below = h.bottom in
    record { some = some; top = l; bottom = omega (arith, below); lowest = rw (e, f) (multiple_lowest p q r s h.lowest k.lowest) }
