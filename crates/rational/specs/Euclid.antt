-- Euclid's algorithm finds the greatest common divisor, and what fractions in lowest terms need of it.
use Rattle.std.specs.Prelude.{◌≡◌, ℕ, zero, suc, ◌*◌, ◌/◌, ◌%◌, ◌<◌}
use Prim.Native.Nat.{◌∣◌}
use Rattle.std.specs.Int.{IsGcd}
use native.Mathlib.Nat.{mod-lt, zero-lt-suc, dvd-mul_right, dvd-mul_left, mul-dvd-mul_left, dvd_of_mul-dvd-mul_left}
use native.Mathlib.Nat.{mul_comm, mul-one, dvd_antisymm, eq_of_mul-eq-mul_right, mul-div_cancel', pos_of_dvd_of_pos}
use native.Mathlib.Nat.{dvd-one, dvd_trans}
use Rattle.std.proofs.lemmas.Nat.Gcd.{IsGcd-from_zero, IsGcd-from_mod, same_from_IsGcd}
use Rattle.std.proofs.Common.{arith, sym, ap, ◌∙◌, subst, refl}
use Rattle.rational.specs.Gcd.{gcd_steps, gcd}

gcd_steps_is : (k a b : ℕ) → b < k → IsGcd a b (gcd_steps k a b)
unfolding gcd_steps
gcd_steps_is zero a b h = absurd (omega arith)
gcd_steps_is (suc k) a zero h = IsGcd-from_zero a 0 refl
gcd_steps_is (suc k) a (suc b) h =
    let less : a % suc b < suc b = mod-lt a (zero-lt-suc b) in
    IsGcd-from_mod a (suc b) _ (gcd_steps_is k (suc b) (a % suc b) (omega arith))

pub gcd_is : (a b : ℕ) → IsGcd a b (gcd a b)
unfolding gcd
gcd_is a b = gcd_steps_is (suc b) a b (omega arith)

pub gcd_unique : (a b g : ℕ) → IsGcd a b g → gcd a b ≡ g
gcd_unique a b g h = same_from_IsGcd a b (gcd a b) g (gcd_is a b) h

-- a common factor comes out
IsGcd-mul : (m a b g : ℕ) → 0 < m → IsGcd a b g → IsGcd (m * a) (m * b) (m * g)
IsGcd-mul m a b g some h =
    let whole : IsGcd (m * a) (m * b) (gcd (m * a) (m * b)) = gcd_is (m * a) (m * b) in
    let factor : m ∣ gcd (m * a) (m * b) = whole.2 m (dvd-mul_right m a) (dvd-mul_right m b) in
    let q = gcd (m * a) (m * b) / m in
    let is : m * q ≡ gcd (m * a) (m * b) = mul-div_cancel' m factor in
    let left : q ∣ a = dvd_of_mul-dvd-mul_left q some (rw is whole.0) in
    let right : q ∣ b = dvd_of_mul-dvd-mul_left q some (rw is whole.1) in (
      mul-dvd-mul_left g m h.0,
      mul-dvd-mul_left g m h.1,
      λ d p r. dvd_trans d (whole.2 d p r) (subst (λ n. n ∣ m * g) is (mul-dvd-mul_left q m (h.2 q left right))),
    )

-- Euclid's lemma
pub divides_other : (a b d : ℕ) → 0 < d → gcd a b ≡ 1 → b ∣ a * d → b ∣ d
divides_other a b d some one h =
    let unit : IsGcd a b 1 = subst (λ g. IsGcd a b g) one (gcd_is a b) in
    let scaled : IsGcd (d * a) (d * b) (d * 1) = IsGcd-mul d a b 1 some unit in
    rw (mul-one) at (scaled.2 b (rw (mul_comm d a) h) (dvd-mul_left b d))

-- two fractions in lowest terms with equal cross products have equal parts
pub lowest_unique : (a b c d : ℕ) → 0 < b → 0 < d → gcd a b ≡ 1 → gcd c d ≡ 1 → a * d ≡ c * b → (a ≡ c) × (b ≡ d)
lowest_unique a b c d some_b some_d one_a one_c e =
    let there : b ∣ d = divides_other a b d some_d one_a (rw e (dvd-mul_left b c)) in
    let back : d ∣ b = divides_other c d b some_b one_c (rw (← e) (dvd-mul_left d a)) in
    let same : b ≡ d = dvd_antisymm there back in
    let e2 : a * d ≡ c * d = e ∙ ap (λ n. c * n) same in
    (eq_of_mul-eq-mul_right d some_d a c e2, same)

-- dividing both by their greatest common divisor leaves lowest terms
pub gcd_pos : (a b : ℕ) → 0 < b → 0 < gcd a b
gcd_pos a b some = pos_of_dvd_of_pos (gcd_is a b).1 some

pub lowest_after : (a b : ℕ) → 0 < b → gcd (a / gcd a b) (b / gcd a b) ≡ 1
lowest_after a b some =
    let g = gcd a b in
    let is = gcd_is a b in
    let p : g * (a / g) ≡ a = mul-div_cancel' g is.0 in
    let q : g * (b / g) ≡ b = mul-div_cancel' g is.1 in
    let h = gcd (a / g) (b / g) in
    let his = gcd_is (a / g) (b / g) in
    let left : g * h ∣ a = subst (λ n. g * h ∣ n) p (mul-dvd-mul_left h g his.0) in
    let right : g * h ∣ b = subst (λ n. g * h ∣ n) q (mul-dvd-mul_left h g his.1) in
    let up : g * h ∣ g * 1 = rw mul-one (is.2 (g * h) left right) in
    dvd-one.0 (dvd_of_mul-dvd-mul_left h (gcd_pos a b some) up)

-- one step, and the end
pub gcd-mod : (a b : ℕ) → gcd b (a % b) ≡ gcd a b
gcd-mod a b = sym (gcd_unique a b (gcd b (a % b)) (IsGcd-from_mod a b _ (gcd_is b (a % b))))

pub gcd-zero : (a : ℕ) → gcd a 0 ≡ a
gcd-zero a = gcd_unique a 0 a (IsGcd-from_zero a 0 refl)
