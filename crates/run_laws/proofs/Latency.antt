-- A service of a rate after a latency promises nothing at once, and does not fall.
use Rattle.std.specs.Prelude.{◌≡◌}
use Rattle.std.proofs.Common.{arith, ap, ◌∙◌}
use Rattle.rational.specs.Rational.{ℚ, ◌-ℚ◌, ◌*ℚ◌, ◌≤ℚ◌}
use Rattle.rational.specs.MinMax.{max_q}
use Rattle.rational.proofs.Laws.{le_refl, le_trans, mul_le_mul, mul_zero}
use Rattle.rational.proofs.MinMax.{max_q_is_left, max_q_mono}
use Rattle.rational.proofs.Linear.{with1, with3}
use Rattle.rational.specs.Extended.{Ext}
use Rattle.min_plus.specs.Functions.{zero_q, IsRising}
use Rattle.min_plus.specs.Formulas.{IsService}
use Rattle.run_laws.specs.Premises.{IsZeroAtStart}

pub latency_is_zero_at_start : (R T : ℚ) (g : ℚ → Ext) → zero_q ≤ℚ T → IsService R T g → IsZeroAtStart g
latency_is_zero_at_start R T g latency_on G =
    let none : max_q zero_q (zero_q -ℚ T) ≡ zero_q = max_q_is_left zero_q (zero_q -ℚ T) (with1 T (λ c. omega (arith, c.le, c.lt, c.same))) in
    let nothing : R *ℚ max_q zero_q (zero_q -ℚ T) ≡ zero_q = ap (λ (x : ℚ). R *ℚ x) none ∙ mul_zero R in
    rw (G.is zero_q (le_refl zero_q), nothing) (le_refl zero_q)

pub latency_rises : (R T : ℚ) (g : ℚ → Ext) → zero_q ≤ℚ R → IsService R T g → IsRising g
latency_rises R T g rate_on G s t on l =
    let later : zero_q ≤ℚ t = le_trans on l in
    rw (G.is s on, G.is t later)
    (mul_le_mul R rate_on (max_q_mono zero_q (s -ℚ T) zero_q (t -ℚ T) (le_refl zero_q) (with3 s t T (λ c. omega (arith, c.le, c.lt, c.same)))))
