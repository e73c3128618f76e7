-- How far the stair of the flow lies from the service of a server.
use Rattle.std.specs.Prelude.{◌≡◌, suc, pos}
use Rattle.std.proofs.Common.{arith, refl, subst, inl, inr}
use Rattle.rational.specs.Rational.{ℚ, int, ◌+ℚ◌, ◌-ℚ◌, ◌*ℚ◌, ◌/ℚ◌, ◌≤ℚ◌}
use Rattle.rational.specs.MinMax.{max_q}
use Rattle.rational.specs.Whole.{whole_part}
use Rattle.rational.specs.Extended.{Ext, ◌≤ₑ◌}
use Rattle.rational.specs.declared.Extended.TheVariants.{Fin}
use Rattle.rational.proofs.Integers.{nat_le, nat_next, le_or_more}
use Rattle.rational.proofs.Laws.{mul_comm}
use Rattle.rational.proofs.Linear.{with2, with5, with7}
use Rattle.rational.proofs.MinMax.{max_q_ge_left, max_q_ge_right}
use Rattle.rational.proofs.Quotients.{div_nonneg, le_div}
use Rattle.rational.proofs.Whole.{whole_le}
use Rattle.min_plus.specs.Formulas.{stair_value, rate_latency_value}
use Rattle.min_plus.specs.Pointwise.{packetised}
use Rattle.run_laws.specs.Cards.{whole}
use Rattle.run_laws.specs.Waits.{IsAboveByAtMost}
use Rattle.run_laws.proofs.Small.{lt_t}

abbrev pub stair : ℚ → ℚ → Ext
stair j = stair_value (whole 12000) (whole 1000) j

-- how many periods have passed since the first packet that may come at 0
abbrev periods : ℚ → ℚ → ℚ
periods j t = int (pos (whole_part ((t +ℚ j) /ℚ whole 1000)))

pub record IsCounted (j t : ℚ) : Type 0 where
  pub in_time : whole 1000 *ℚ periods j t ≤ℚ t +ℚ j
  pub next : int (pos (suc (whole_part ((t +ℚ j) /ℚ whole 1000)))) ≡ periods j t +ℚ whole 1

counted : (j t : ℚ) → whole 0 ≤ℚ j → whole 0 ≤ℚ t → IsCounted j t
counted j t j_on t_on =
    let x = (t +ℚ j) /ℚ whole 1000 in
    let on = div_nonneg (t +ℚ j) (whole 1000) (lt_t 0 1000 refl) (with2 t j (λ c. omega (arith, c.le, c.lt, c.same))) in
    let few = (le_div (t +ℚ j) (whole 1000) (periods j t) (lt_t 0 1000 refl)).0 (whole_le x on) in
    record {
      in_time = subst (λ (y : ℚ). y ≤ℚ t +ℚ j) (mul_comm (periods j t) (whole 1000)) few;
      next = nat_next (whole_part x);
    }

-- up to 130 early it waits at most 130 for its work
pub waits_at_most : (j t : ℚ) → whole 0 ≤ℚ j → j ≤ℚ whole 130 → whole 0 ≤ℚ t
    → stair j t ≤ₑ rate_latency_value (whole 100) (whole 10) (t +ℚ whole 130)
waits_at_most j t j_on j_most t_on =
    let n = whole_part ((t +ℚ j) /ℚ whole 1000) in
    let c = counted j t j_on t_on in
    let in_time = c.in_time in
    let next = c.next in
    let most = max_q_ge_right (whole 0) (t +ℚ whole 130 -ℚ whole 10) in
    elim (le_or_more n 0) [
      | inl l ↦
          let none = nat_le n 0 l in
          with5 t j (periods j t) (int (pos (suc n))) (max_q (whole 0) (t +ℚ whole 130 -ℚ whole 10))
          (λ c. omega (arith, c.le, c.lt, c.same))
      | inr l ↦
          let some = nat_le 1 n l in
          with5 t j (periods j t) (int (pos (suc n))) (max_q (whole 0) (t +ℚ whole 130 -ℚ whole 10))
          (λ c. omega (arith, c.le, c.lt, c.same))
    ]

-- and no more than one packet of it is not worked off as a whole
pub above_by_one : (j : ℚ) → whole 0 ≤ℚ j → j ≤ℚ whole 130
    → IsAboveByAtMost (stair j) (packetised (rate_latency_value (whole 100) (whole 10)) (whole 12000))
    (Fin (whole 12000))
above_by_one j j_on j_most t level t_on e =
    let n = whole_part ((t +ℚ j) /ℚ whole 1000) in
    let c = counted j t j_on t_on in
    let in_time = c.in_time in
    let next = c.next in
    let M = max_q (whole 0) (t -ℚ whole 10) in
    let most = max_q_ge_right (whole 0) (t -ℚ whole 10) in
    let is : max_q (whole 0) (whole 100 *ℚ M -ℚ whole 12000) ≡ level = cc in
    let low = max_q_ge_left (whole 0) (whole 100 *ℚ M -ℚ whole 12000) in
    let high = max_q_ge_right (whole 0) (whole 100 *ℚ M -ℚ whole 12000) in
    elim (le_or_more n 0) [
      | inl l ↦
          let none = nat_le n 0 l in
          with7 t j (periods j t) (int (pos (suc n))) M (max_q (whole 0) (whole 100 *ℚ M -ℚ whole 12000)) level
          (λ c. omega (arith, c.le, c.lt, c.same))
      | inr l ↦
          let some = nat_le 1 n l in
          with7 t j (periods j t) (int (pos (suc n))) M (max_q (whole 0) (whole 100 *ℚ M -ℚ whole 12000)) level
          (λ c. omega (arith, c.le, c.lt, c.same))
    ]
