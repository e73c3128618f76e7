-- The parts of a whole number.
use Rattle.std.specs.Prelude.{◌≡◌, ℕ, suc, ◌<◌, ◌≤◌, pos, ◌*ℤ◌}
use Rattle.std.proofs.Common.{arith, sym, subst}
use Rattle.std.proofs.lemmas.Int.{ints}
use native.Mathlib.Nat.{le_of_dvd}
use Rattle.rational.specs.Rational.{int, den}
use Rattle.rational.proofs.Grid.{whole_int, whole_divides}
use Rattle.rational.specs.Fractions.{frac_self, frac-same_out}

pub den_whole : (n : ℕ) → den (int (pos n)) ≡ 1
den_whole n = let l : den (int (pos n)) ≤ 1 = le_of_dvd (some) (whole_divides 1 (int (pos n)) (whole_int 1 (pos n))) in omega (arith, l)
  where
    some : 0 < 1
    some = omega arith

pub num_whole : (n : ℕ) → (int (pos n)).num ≡ pos n
num_whole n =
    let x = int (pos n) in
    let e : x.num *ℤ pos 1 ≡ pos n *ℤ pos (suc x.pre) = sym (frac-same_out (pos n) 0 x.num x.pre (frac_self x)) in
    let one : x.num *ℤ pos 1 ≡ pos n *ℤ pos 1 = subst (λ k. x.num *ℤ pos 1 ≡ pos n *ℤ pos k) (den_whole n) e in
    omega (arith, ints, one)
