-- The waits of the tests: of a flow of burst 6000 in a service of rate 100 and latency 10.
use Rattle.std.specs.Prelude.{◌≡◌, pos}
use Rattle.std.proofs.Common.{arith, sym, ap, ◌∙◌, subst, inl}
use Rattle.rational.specs.Rational.{ℚ, ◌+ℚ◌, ◌-ℚ◌, ◌*ℚ◌, ◌/ℚ◌, ◌≤ℚ◌, ◌<ℚ◌, int}
use Rattle.rational.specs.MinMax.{max_q}
use Rattle.rational.specs.Extended.{Ext, ◌≤ₑ◌}
use Rattle.rational.specs.declared.Extended.TheVariants.{Fin, Inf}
use Rattle.rational.proofs.Integers.{int_add, int_mul, nat_le, nat_lt, nat_nonneg}
use Rattle.rational.proofs.Laws.{mul_nonneg, not_zero}
use Rattle.rational.proofs.MinMax.{max_q_ge_left}
use Rattle.rational.proofs.Quotients.{div_unique}
use Rattle.min_plus.specs.Deviations.{IsHorizontalDeviation}
use Rattle.min_plus.specs.Functions.{zero_q, IsFinite, IsNonnegative}
use Rattle.min_plus.specs.Formulas.{bucket_value, rate_latency_value}
use Rattle.min_plus.proofs.BucketDelay.{horizontal_finite, horizontal_infinite}

-- ---- the service and the flow
abbrev pub IsTestService : (ℚ → Ext) → Type 0
IsTestService f = (t : ℚ) → int (pos 0) ≤ℚ t → f t ≡ rate_latency_value (int (pos 100)) (int (pos 10)) t

abbrev pub IsTestFlow : ℚ → (ℚ → Ext) → Type 0
IsTestFlow r g = (t : ℚ) → int (pos 0) ≤ℚ t → g t ≡ bucket_value (int (pos 6000)) r t

pub service_finite : (f : ℚ → Ext) → IsTestService f → IsFinite f
service_finite f S t low = (int (pos 100) *ℚ max_q zero_q (t -ℚ int (pos 10)), S t low)

pub service_nonneg : (f : ℚ → Ext) → IsTestService f → IsNonnegative f
service_nonneg f S t low = subst (λ v. Fin zero_q ≤ₑ v) (sym (S t low)) (mul_nonneg (nat_nonneg 100) (max_q_ge_left zero_q (t -ℚ int (pos 10))))

some : int (pos 0) <ℚ int (pos 100)
some = nat_lt 0 100 (omega arith)

burst_time : int (pos 6000) /ℚ int (pos 100) ≡ int (pos 60)
burst_time = div_unique (int (pos 6000)) (int (pos 100)) (int (pos 60)) (not_zero (int (pos 100)) some) (int_mul (pos 60) (pos 100))

-- ---- the waits
pub finite_wait : (f g : ℚ → Ext) (r x : ℚ) → r ≡ int (pos 5) → x ≡ int (pos 70) → IsTestService f → IsTestFlow r g → IsHorizontalDeviation g f (Fin x)
finite_wait f g r x e h S F =
    let wait = horizontal_finite (int (pos 6000)) (int (pos 5)) (int (pos 100)) (int (pos 10)) g f (nat_nonneg 6000) (nat_nonneg 5) some (nat_nonneg 10) (nat_le 5 100 (omega arith)) (inl (nat_lt 0 6000 (omega arith)))
    record { is = λ t low. F t low ∙ ap (λ q. bucket_value (int (pos 6000)) q t) e } record { is = S } in
    let same : int (pos 10) +ℚ int (pos 6000) /ℚ int (pos 100) ≡ x = ap (λ y. int (pos 10) +ℚ y) burst_time ∙ int_add (pos 10) (pos 60) ∙ sym h in
    subst (λ y. IsHorizontalDeviation g f (Fin y)) same wait

pub infinite_wait : (f g : ℚ → Ext) (r : ℚ) → r ≡ int (pos 101) → IsTestService f → IsTestFlow r g → IsHorizontalDeviation g f Inf
infinite_wait f g r e S F =
    horizontal_infinite (int (pos 6000)) (int (pos 101)) (int (pos 100)) (int (pos 10)) g f (nat_nonneg 6000) some (nat_nonneg 10) (nat_lt 100 101 (omega arith))
    record { is = λ t low. F t low ∙ ap (λ q. bucket_value (int (pos 6000)) q t) e } record { is = S }
