-- The times that a burst takes at a rate, and that one rate is ahead of another; and how many periods pass a time.
use Rattle.std.specs.Prelude.{◌≡◌, ℕ, pos}
use Rattle.std.proofs.Common.{arith, ◌∙◌}
use Rattle.rational.specs.Rational.{ℚ, ◌+ℚ◌, ◌-ℚ◌, ◌*ℚ◌, ◌/ℚ◌, ◌≤ℚ◌, ◌<ℚ◌, int}
use Rattle.rational.proofs.Linear.{with2, with4}
use Rattle.rational.proofs.Laws.{above, mul_comm, sub_mul, mul_zero, div_mul}
use Rattle.rational.proofs.Whole.{le_of_mul, lt_of_mul, mul_lt_mul_right, not_zero}
use Rattle.min_plus.specs.Functions.{zero_q}

pub burst_nonneg : (b R : ℚ) → zero_q <ℚ R → zero_q ≤ℚ b → zero_q ≤ℚ b /ℚ R
burst_nonneg b R some h =
    let o : zero_q *ℚ R ≡ zero_q = mul_comm zero_q R ∙ mul_zero R in
    le_of_mul R zero_q (b /ℚ R) some (rw (o, div_mul b R (not_zero R some)) h)

-- a time at which (r - R) t is k
pub reach : (r R k : ℚ) → R <ℚ r → zero_q <ℚ k → (t : ℚ) × (zero_q <ℚ t) × (r *ℚ t ≡ R *ℚ t +ℚ k)
reach r R k h some =
    let gap = r -ℚ R in
    let gap_pos : zero_q <ℚ gap = with2 r R (λ c. omega (arith, c.le, c.lt, c.same)) in
    let t = k /ℚ gap in
    let e : t *ℚ gap ≡ k = div_mul k gap (not_zero gap gap_pos) in
    let x : t *ℚ gap ≡ r *ℚ t -ℚ R *ℚ t = mul_comm t gap ∙ sub_mul r R t in
    let o : zero_q *ℚ gap ≡ zero_q = mul_comm zero_q gap ∙ mul_zero gap in
    let pos_t : zero_q <ℚ t = lt_of_mul gap zero_q t gap_pos (rw (o, e) some) in
    (t, pos_t, with4 (r *ℚ t) (R *ℚ t) k (t *ℚ gap) (λ c. omega (arith, c.le, c.lt, c.same)))

-- enough periods pass s
pub enough : (t s d : ℚ) → int (pos 0) <ℚ d → (n : ℕ) × (s ≤ℚ t +ℚ int (pos n) *ℚ d)
enough t s d h =
    let x = (s -ℚ t) /ℚ d in
    let e : x *ℚ d ≡ s -ℚ t = div_mul (s -ℚ t) d (not_zero d h) in
    let (n, l) = above x in
    let m = mul_lt_mul_right d h l in
    (n, far s t d n x e m)
  where
    far : (s t d : ℚ) (n : ℕ) (x : ℚ) → x *ℚ d ≡ s -ℚ t → x *ℚ d <ℚ int (pos n) *ℚ d → s ≤ℚ t +ℚ int (pos n) *ℚ d
    far s t d n x e m = with4 s t (x *ℚ d) (int (pos n) *ℚ d) (λ c. omega (arith, c.le, c.lt, c.same))
