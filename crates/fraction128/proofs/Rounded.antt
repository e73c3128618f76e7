-- Whole numbers next to a fraction, from the numbers that it is made of.
use lib.Signed.{lt_z}
use Rattle.std.specs.Prelude.{◌≡◌, true, false, ℕ, zero, suc, ◌+◌, ◌*◌, ◌-◌, ◌/◌, ◌%◌, ◌<◌, ℤ, pos, negsuc, ◌+ℤ◌, ◌*ℤ◌, ◌≤ℤ◌, ◌<ℤ◌}
use Rattle.std.proofs.Common.{arith, sym, ap, ◌∙◌, subst, refl}
use Rattle.std.proofs.lemmas.Int.{ints}
use native.Mathlib.Nat.{div-add-mod', mod-lt}
use Rattle.std.proofs.lemmas.Nat.{div-mul-add}
use Rattle.rational.specs.Rational.{ℚ, ◌≤ℚ◌, ◌<ℚ◌, int, frac}
use Rattle.rational.proofs.Over.{le_frac, lt_frac}
use Rattle.rational.specs.Fractions.{frac_self}
use Rattle.rational.specs.Ratio.{ratio}
use Rattle.rational.specs.Floor.{floor, IsWholeAndRest}
use Rattle.rational.specs.Whole.{whole_part, whole_over}
use Rattle.rational.specs.Gauge.{up_over}
use Rattle.rational.proofs.Floor.{floor_unique, one_more}
use Rattle.rational.proofs.Whole.{whole_floor}
use Rattle.rational.proofs.Laws.{frac_nonneg}
use Rattle.fraction128.specs.Parts.{AreLowest}
use Rattle.fraction128.proofs.Values.{parts_of}

pub floor_is : (n : ℤ) (d : ℕ) (f : ℤ) (r : ℕ) (x : ℚ) → 0 < d → ratio n (pos d) ≡ x → IsWholeAndRest n d f r → floor x ≡ f
floor_is n zero f r x some e w = absurd (omega arith)
floor_is n (suc d) f r x some e w =
    let at = w.is in
    let below = w.below in
    let low : int f ≤ℚ frac n d = (le_frac f 0 n d).1 (omega (arith, ints)) in
    let next : (n *ℤ pos 1) <ℤ ((f +ℤ pos 1) *ℤ pos (suc d)) = rw (one_more f (suc d)) (omega (arith, ints)) in
    let high : frac n d <ℚ int (f +ℤ pos 1) = (lt_frac n d (f +ℤ pos 1) 0).1 next in
    ap floor (sym e) ∙ floor_unique (frac n d) f low high

pub whole_part_below : (n : ℤ) (d : ℕ) (x : ℚ) → AreLowest n d → ratio n (pos d) ≡ x → n <ℤ pos 0 → whole_part x ≡ 0
unfolding whole_part
whole_part_below n d x h e l = let parts = parts_of n d x h e in go x.num x.pre (rw parts.0 l)
  where
    go : (z : ℤ) (k : ℕ) → z <ℤ pos 0 → whole_over z k ≡ 0
    go (pos n) k l = absurd (omega (arith, ints))
    go (negsuc n) k l = refl

pub whole_part_from : (n : ℤ) (d : ℕ) (x : ℚ) → AreLowest n d → ratio n (pos d) ≡ x → pos 0 ≤ℤ n → floor x ≡ pos (whole_part x)
whole_part_from n d x h e l =
    let parts = parts_of n d x h e in
    whole_floor x (subst (λ y. int (pos 0) ≤ℚ y) (sym (frac_self x)) (frac_nonneg x.num x.pre (rw parts.0 l)))

-- a quotient rounded up, from the quotient rounded down and the rest
pub up_over_one : (n d : ℕ) → d ≡ 1 → n ≡ up_over n d
up_over_one n d e = rw e (omega arith)

pub up_over_even : (n d q r : ℕ) → 0 < d → q ≡ n / d → r ≡ n % d → r ≡ 0 → q ≡ up_over n d
up_over_even n zero q r some e f h = absurd (omega arith)
up_over_even n (suc d) q r some e f h =
    let is : n / suc d * suc d + n % suc d ≡ n = div-add-mod' n (suc d) in
    let whole : n + (suc d - 1) ≡ q * suc d + d = rw e (omega arith) in
    sym (rw whole (div-mul-add q (suc d) d (omega arith)))

pub up_over_more : (n d q r : ℕ) → 0 < d → q ≡ n / d → r ≡ n % d → (r ≡ 0 → ⊥) → q + 1 ≡ up_over n d
up_over_more n zero q r some e f h = absurd (omega arith)
up_over_more n (suc d) q r some e f h =
    let is : n / suc d * suc d + n % suc d ≡ n = div-add-mod' n (suc d) in
    let less : n % suc d < suc d = mod-lt n some in
    let whole : n + (suc d - 1) ≡ (q + 1) * suc d + (r - 1) = rw e (omega arith) in
    sym (rw whole (div-mul-add (q + 1) (suc d) (r - 1) (omega arith)))

-- the test of the sign
pub below_out : (n : ℤ) → lt_z n (pos 0) ≡ true → n <ℤ pos 0
below_out n e = omega (arith, ints)

pub from_out : (n : ℤ) → lt_z n (pos 0) ≡ false → pos 0 ≤ℤ n
from_out n e = omega (arith, ints)
