-- Numbers that have no common divisor but 1.
use Rattle.std.specs.Prelude.{◌≡◌, ◌⊎◌, ℕ, zero, suc, ◌*◌, ◌<◌}
use Rattle.std.proofs.Common.{arith, inl, inr, ◌∙◌, subst}
use Prim.Native.Nat.{◌∣◌}
use native.Mathlib.Nat.{zero-lt-suc, one-dvd, dvd_trans, dvd-zero, dvd-mul_right, dvd_refl}
use Rattle.rational.specs.Gcd.{gcd}
use Rattle.rational.specs.Euclid.{gcd_is, gcd_unique, divides_other}

pub coprime_in : (a b : ℕ) → ((k : ℕ) → k ∣ a → k ∣ b → k ∣ 1) → gcd a b ≡ 1
coprime_in a b f = gcd_unique a b 1 (one-dvd a, one-dvd b, f)

pub coprime_out : (a b k : ℕ) → gcd a b ≡ 1 → k ∣ a → k ∣ b → k ∣ 1
coprime_out a b k h p q = subst (λ g. k ∣ g) h ((gcd_is a b).2 k p q)

pub gcd_comm : (a b : ℕ) → gcd a b ≡ gcd b a
gcd_comm a b = gcd_unique a b (gcd b a) (let is = gcd_is b a in (is.1, is.0, λ d p q. is.2 d q p))

pub gcd_one : (a : ℕ) → gcd a 1 ≡ 1
gcd_one a = coprime_in a 1 (λ k p q. q)

pub gcd_with_one : (a b : ℕ) → (a ≡ 1) ⊎ ((a ≡ 1 → ⊥) × (b ≡ 1)) → gcd a b ≡ 1
gcd_with_one a b (inl e) = rw e (gcd_comm 1 b ∙ gcd_one b)
gcd_with_one a b (inr e) = rw e.1 (gcd_one a)

pub gcd_self : (a : ℕ) → gcd a a ≡ a
gcd_self a = gcd_unique a a a (dvd_refl a, dvd_refl a, λ d p q. p)

pub coprime_turned : (a b : ℕ) → gcd a b ≡ 1 → gcd b a ≡ 1
coprime_turned a b h = gcd_comm b a ∙ h

-- parts of coprime numbers are coprime
pub coprime_parts : (a b c d : ℕ) → gcd a b ≡ 1 → c ∣ a → d ∣ b → gcd c d ≡ 1
coprime_parts a b c d h p q = coprime_in c d (λ k r s. coprime_out a b k h (dvd_trans k r p) (dvd_trans k s q))

-- what divides a product and has nothing in common with the first factor divides the second
pub divides_rest : (a b k : ℕ) → gcd a k ≡ 1 → k ∣ a * b → k ∣ b
divides_rest a zero k h p = dvd-zero k
divides_rest a (suc b) k h p = divides_other a k (suc b) (zero-lt-suc b) h p

pub coprime_mul : (n a b : ℕ) → gcd n a ≡ 1 → gcd n b ≡ 1 → gcd n (a * b) ≡ 1
coprime_mul n a b p q =
    coprime_in n (a * b) (λ k r s. coprime_out n b k q r (divides_rest a b k (coprime_turned k a (coprime_parts n a k a p r (dvd_refl a))) s))

-- a factor of a number above 0 is above 0
pub factor_some : (q g n : ℕ) → q * g ≡ n → 0 < n → 0 < q
factor_some zero g n e h = absurd (omega arith)
factor_some (suc q) g n e h = zero-lt-suc q

-- a factor divides
pub part_divides : (n q g : ℕ) → q * g ≡ n → q ∣ n
part_divides n q g e = subst (λ m. q ∣ m) e (dvd-mul_right q g)
