-- One grid for all times at which sums of a call may go on otherwise.
use Rattle.std.specs.Prelude.{◌≡◌, ℕ, suc, zero, ◌*◌, ◌<◌, ◌≤◌}
use Prim.Native.Nat.{◌∣◌}
use native.Mathlib.Nat.{dvd-mul_left, dvd-mul_right, mul-pos, mul-dvd-mul_left}
use Rattle.std.proofs.Common.{arith, subst, sym, inl, inr}
use Rattle.std.proofs.lemmas.Bool.{cases_lt}
use Rattle.std.proofs.lemmas.Nat.Gcd.{dvd_trans}
use Rattle.rational.specs.Rational.{ℚ}
use Rattle.rational.specs.Grid.{Whole}
use Rattle.rational.proofs.Grid.{whole_weaken}
use Rattle.upp_limits.specs.Limits.{Sizes}
use Rattle.curve_conv.specs.Stretches.{SumPlace}

-- the product of all numbers from 1 to n
pub fact : ℕ → ℕ
fact zero = 1
fact (suc n) = suc n * fact n

pub fact_pos : (n : ℕ) → 0 < fact n
unfolding fact
fact_pos zero = omega arith
fact_pos (suc n) = mul-pos (omega arith) (fact_pos n)

pub fact_divides : (n p : ℕ) → 1 ≤ p → p ≤ n → p ∣ fact n
unfolding fact
fact_divides zero p h k = absurd (omega arith)
fact_divides (suc n) p h k = elim (cases_lt p (suc n)) [
  | inl l ↦ dvd_trans p (fact_divides n p h (omega arith)) (dvd-mul_left (fact n) (suc n))
  | inr l ↦ let e : p ≡ suc n = omega (arith, k, l) in subst (λ m. m ∣ suc n * fact n) (sym e) (dvd-mul_right (suc n) (fact n))
]

pub walk_grid : Sizes → ℕ
walk_grid z = z.dv * z.dt * fact (z.steepness * z.ds)

pub grid_some : (z : Sizes) → 0 < z.dv → 0 < z.dt → 0 < walk_grid z
unfolding walk_grid
grid_some z a b = mul-pos (mul-pos a b) (fact_pos (z.steepness * z.ds))

pub place_on : (z : Sizes) (x : ℚ) → SumPlace z x → Whole (walk_grid z) x
unfolding walk_grid
place_on z x (inl w) = whole_weaken z.dt (z.dv * z.dt * fact (z.steepness * z.ds)) x (dvd_trans z.dt (dvd-mul_left z.dt z.dv) (dvd-mul_right (z.dv * z.dt) (fact (z.steepness * z.ds)))) w
place_on z x (inr k) =
    whole_weaken (z.dv * z.dt * k.apart) (z.dv * z.dt * fact (z.steepness * z.ds)) x (mul-dvd-mul_left k.apart (z.dv * z.dt) (fact_divides (z.steepness * z.ds) k.apart k.some k.few)) k.whole
