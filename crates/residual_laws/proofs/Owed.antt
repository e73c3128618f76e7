-- The numbers of a deficit round robin queue: each is among its sum; its share of the service, and what is taken from that
-- first, are from 0 on.
use Rattle.std.specs.Prelude.{◌<◌, ◌≤◌, ℕ, List, length, get_or, sum}
use Rattle.std.proofs.Common.{arith}
use Rattle.std.proofs.lemmas.List.Sums.{get_or-le-sum_by}
use Rattle.rational.specs.Rational.{ℚ, ◌+ℚ◌, ◌-ℚ◌, ◌*ℚ◌, ◌≤ℚ◌}
use Rattle.rational.proofs.Laws.{mul_nonneg}
use Rattle.rational.proofs.Linear.{with2, sub_nonneg}
use Rattle.rational.proofs.Quotients.{div_nonneg}
use Rattle.min_plus.specs.Functions.{zero_q}
use Rattle.run_laws.specs.Cards.{whole}
use Rattle.run_laws.proofs.Sizes.{whole_nonneg, whole_le, whole_lt}
use Rattle.residual_laws.specs.DrrLaws.{share, owed}

pub in_sum : (xs : List ℕ) (i : ℕ) → i < length xs → get_or xs i 0 ≤ sum xs
in_sum xs i h = get_or-le-sum_by (λ x. x) xs i 0 h

pub share_nonneg : (Q F : ℕ) → 0 < F → zero_q ≤ℚ share Q F
share_nonneg Q F some = div_nonneg (whole Q) (whole F) (whole_lt 0 F some) (whole_nonneg Q)

sum_nonneg : (x y : ℚ) → zero_q ≤ℚ x → zero_q ≤ℚ y → zero_q ≤ℚ x +ℚ y
sum_nonneg x y h k = with2 x y (λ c. omega (arith, c.le, c.lt, c.same))

pub owed_nonneg : (Q l F Λ : ℕ) → 0 < F → Q ≤ F → l ≤ Λ → zero_q ≤ℚ owed Q l F Λ
owed_nonneg Q l F Λ some own packet =
    let rest = mul_nonneg (whole_nonneg Q) (sub_nonneg (whole l) (whole Λ) (whole_le l Λ packet)) in
    let sum = sum_nonneg (whole Q) (whole l) (whole_nonneg Q) (whole_nonneg l) in
    let turn = mul_nonneg (sub_nonneg (whole Q) (whole F) (whole_le Q F own)) sum in
    div_nonneg (whole Q *ℚ (whole Λ -ℚ whole l) +ℚ (whole F -ℚ whole Q) *ℚ (whole Q +ℚ whole l)) (whole F) (whole_lt 0 F some)
    (sum_nonneg (whole Q *ℚ (whole Λ -ℚ whole l)) ((whole F -ℚ whole Q) *ℚ (whole Q +ℚ whole l)) rest turn)
