-- A deconvolution whose supremum is at a downward jump, and is not taken.
use Rattle.std.specs.Prelude.{◌≡◌}
use Rattle.std.proofs.Common.{arith, sym, ap, ◌∙◌, inl, inr}
use Rattle.rational.specs.Rational.{ℚ, ◌+ℚ◌, ◌-ℚ◌, ◌*ℚ◌, ◌≤ℚ◌, ◌<ℚ◌}
use Rattle.rational.specs.Extended.{◌≤ₑ◌, ◌<ₑ◌, ◌-ₑ◌}
use Rattle.rational.specs.declared.Extended.TheVariants.{Fin}
use Rattle.rational.specs.MinMax.{max_q}
use Rattle.rational.proofs.Linear.{with1, with2}
use Rattle.rational.proofs.Laws.{le_or_lt, mul_zero}
use Rattle.rational.proofs.MinMax.{max_q_is_left, max_q_ge_left, max_q_ge_right}
use Rattle.rational.proofs.Integers.{nat_nonneg}
use Rattle.min_plus.specs.Functions.{zero_q}
use Rattle.upp_curve.specs.Curve.{value_at}
use Rattle.upp_curve.specs.Kinds.{rate_latency}
use Rattle.upp_curve.specs.WorkedRows.{whole, dip}
use Rattle.upp_curve.specs.WorkedStairs.{JumpLeaves}
use Rattle.upp_curve.proofs.KindValues.{service_is}
use Rattle.min_plus.specs.Formulas.{IsService}
use Rattle.upp_curve.proofs.WorkedRunning.{dip_early, dip_late, close}
use Rattle.rational.proofs.ExtendedOrder.{fin_same}

late : IsService (whole 1) (whole 1) (value_at (rate_latency (whole 1) (whole 1)))
late = service_is (whole 1) (whole 1) (nat_nonneg 1) (nat_nonneg 1)

-- before 1 the service is still 0
none : (s : ℚ) → zero_q ≤ℚ s → s <ℚ whole 1 → value_at (rate_latency (whole 1) (whole 1)) s ≡ Fin zero_q
none s h l =
    let e : s -ℚ whole 1 ≤ℚ zero_q = with1 s (λ c. omega (arith, c.le, c.lt, c.same)) in
    late.is s h ∙ ap Fin (ap (λ x. whole 1 *ℚ x) (max_q_is_left zero_q (s -ℚ whole 1) e) ∙ mul_zero (whole 1))

at_most : (s level : ℚ) → zero_q ≤ℚ s → whole 1 *ℚ max_q zero_q (s -ℚ whole 1) ≡ level → value_at dip (whole 0 +ℚ s) -ₑ level ≤ₑ Fin (whole 3)
at_most s level h e = elim (le_or_lt (whole 1) s) [
  | inl l ↦ rw (dip_late (whole 0 +ℚ s) (with1 s (λ c. omega (arith, c.le, c.lt, c.same))), ← e)
      (after (max_q zero_q (s -ℚ whole 1)) (max_q_ge_right zero_q (s -ℚ whole 1)))
  | inr l ↦ rw (dip_early (whole 0 +ℚ s) (with1 s (λ c. omega (arith, c.le, c.lt, c.same))) (with1 s (λ c. omega (arith, c.le, c.lt, c.same))), ← e)
      (before (max_q zero_q (s -ℚ whole 1)) l (max_q_ge_left zero_q (s -ℚ whole 1)))
]
  where
    after : (m : ℚ) → s -ℚ whole 1 ≤ℚ m → (whole 0 +ℚ s) -ℚ whole 1 *ℚ m ≤ℚ whole 3
    after m k = with2 s m (λ c. omega (arith, c.le, c.lt, c.same))

    before : (m : ℚ) → s <ℚ whole 1 → zero_q ≤ℚ m → whole 3 *ℚ (whole 0 +ℚ s) -ℚ whole 1 *ℚ m ≤ℚ whole 3
    before m l k = with2 s m (λ c. omega (arith, c.le, c.lt, c.same))

above : (s y : ℚ) → zero_q ≤ℚ s → s <ℚ whole 1 → y <ℚ whole 3 *ℚ s → Fin y <ₑ value_at dip (whole 0 +ℚ s) -ₑ zero_q
above s y h l k =
    rw (dip_early (whole 0 +ℚ s) (with1 s (λ c. omega (arith, c.le, c.lt, c.same))) (with1 s (λ c. omega (arith, c.le, c.lt, c.same))))
    (with2 s y (λ c. omega (arith, c.le, c.lt, c.same)))

pub jump_leaves : JumpLeaves
jump_leaves = record {
  above = λ u. at_most u.at u.level u.nonneg (fin_same (sym (late.is u.at u.nonneg) ∙ u.is));
  near = λ y l. let (s, h, k, m) = close y l in (record { at = s; nonneg = h; level = zero_q; is = none s h k }, above s y h k m);
}
