-- Whole multiples of fractions, and the least that two have in common. Own choice.
use Rattle.std.specs.Prelude.{◌≡◌, ℕ, pos, nat_abs}
use Rattle.rational.specs.Gcd.{gcd}
use Rattle.rational.specs.Gauge.{lcm}
use Rattle.rational.specs.Rational.{ℚ, den, int, over, ◌*ℚ◌, ◌≤ℚ◌, ◌<ℚ◌}

-- x is a whole number times a
pub record IsMultiple (a x : ℚ) : Type 0 where
  pub times : ℕ
  pub is : x ≡ int (pos times) *ℚ a

-- m is above 0 and a whole multiple of both, and each such number is a whole multiple of m, so at least m
pub record IsLeastMultiple (a b m : ℚ) : Type 0 where
  pub above : int (pos 0) <ℚ m
  pub left : IsMultiple a m
  pub right : IsMultiple b m
  pub least : (x : ℚ) → int (pos 0) <ℚ x → IsMultiple a x → IsMultiple b x → m ≤ℚ x
  pub divides : (x : ℚ) → int (pos 0) <ℚ x → IsMultiple a x → IsMultiple b x → IsMultiple m x

-- in lowest terms: the least common multiple of the numerators over the greatest common divisor of the denominators
unfoldable pub common_multiple : ℚ → ℚ → ℚ
common_multiple a b = over (pos (lcm (nat_abs a.num) (nat_abs b.num))) (gcd (den a) (den b))
