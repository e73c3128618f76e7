-- Sizes of a window n times as long as a curve's own, which hold the sums of up to n values of a line of the curve.
use Rattle.std.specs.Prelude.{◌≡◌, ℕ, ◌*◌, ◌≤◌, ◌+◌, pos}
use Rattle.std.proofs.Common.{arith, ap, ◌∙◌, sym, subst}
use native.Mathlib.Nat.{mul-le-mul, mul-le-mul_left, mul-le-mul_right}
use Rattle.rational.specs.Rational.{ℚ, ◌+ℚ◌, ◌*ℚ◌, ◌≤ℚ◌, int}
use Rattle.rational.specs.Grid.{Whole, Within}
use Rattle.rational.proofs.Laws.{le_refl, le_trans, mul_le_mul, mul_assoc, mul_comm}
use Rattle.rational.proofs.Integers.{mul_whole, int_add, nat_le, nat_nonneg}
use Rattle.rational.proofs.Grid.{whole_add, whole_times, within_add, within_mul, within_nonneg, within_weaken}
use Rattle.min_plus.specs.Functions.{zero_q}
use Rattle.min_plus.specs.closure_laws.Star.{nat_times}
use Rattle.upp_limits.specs.Limits.{Sizes, gauge_of}
use Rattle.upp_limits.specs.Sized.{IsValue, IsSlope, AreSizes, grid_of, times_largest}
use Rattle.upp_limits.proofs.NarrowSizes.{grid_pos, run_whole, run_within}
use Rattle.upp_normal.proofs.GaugeRises.{product_grows}

-- ---- the sizes
-- of the rises of lines alone
abbrev run_sizes : ℕ → Sizes → Sizes
run_sizes n z =
    record { dv = z.dv; dt = z.dt; ds = z.ds; steepness = z.steepness; largest = n * z.largest }

-- of sums: values stand on the grid of sums too
abbrev pub sum_sizes : ℕ → Sizes → Sizes
sum_sizes n z =
    record { dv = grid_of z; dt = z.dt; ds = z.ds; steepness = z.steepness; largest = 3 * (n * z.largest) }

-- the end of the longer window
abbrev pub sums_end : ℕ → ℚ → ℚ
sums_end n end = int (pos n) *ℚ end

module _ (z : Sizes) (end : ℚ) (a : AreSizes z end) (n : ℕ) (some : 1 ≤ n) where
  some_largest : 1 ≤ n * z.largest
  some_largest = let l : 1 * 1 ≤ n * z.largest = mul-le-mul some a.largest in omega (arith, l)

  run_reach : int (pos z.steepness) *ℚ sums_end n end ≤ℚ int (pos (n * z.largest))
  run_reach =
      let S = int (pos z.steepness) in
      let N = int (pos n) in
      let up : N *ℚ (S *ℚ end) ≤ℚ N *ℚ int (pos z.largest) = mul_le_mul N (nat_nonneg n) a.reach in
      subst (λ x. S *ℚ (N *ℚ end) ≤ℚ x) (mul_whole (pos n) (pos z.largest) 0)
      (subst (λ x. x ≤ℚ N *ℚ int (pos z.largest)) (swap N S end) up)
    where
      swap : (x y t : ℚ) → x *ℚ (y *ℚ t) ≡ y *ℚ (x *ℚ t)
      swap x y t = sym (mul_assoc x y t) ∙ ap (λ w. w *ℚ t) (mul_comm x y) ∙ mul_assoc y x t

  run_are : AreSizes (run_sizes n z) (sums_end n end)
  run_are = record {
    dv = a.dv;
    dt = a.dt;
    ds = a.ds;
    steepness = a.steepness;
    largest = some_largest;
    window = whole_times z.dt (pos n) end a.window;
    reach = run_reach;
  }

  pub sums_are : AreSizes (sum_sizes n z) (sums_end n end)
  sums_are =
      let l = some_largest in
      let more : n * z.largest ≤ 3 * (n * z.largest) = omega arith in
      record {
        dv = grid_pos z end a;
        dt = a.dt;
        ds = a.ds;
        steepness = a.steepness;
        largest = omega (arith, l, more);
        window = whole_times z.dt (pos n) end a.window;
        reach = le_trans run_reach (nat_le (n * z.largest) (3 * (n * z.largest)) more);
      }

  -- ---- sums of values of a line
  slope_in : (r : ℚ) → IsSlope z r → IsSlope (run_sizes n z) r
  slope_in r h = record { whole = h.whole; within = h.within }

  pub slope_stands : (r : ℚ) → IsSlope z r → IsSlope (sum_sizes n z) r
  slope_stands r h = record { whole = h.whole; within = h.within }

  times_within : (i : ℕ) (k : ℚ) → i ≤ n → Within (times_largest 2 z) k → Within (int (pos (2 * (n * z.largest)))) (nat_times i k)
  times_within i k few h =
      let I = int (pos i) in
      let V = z.largest in
      let e : I *ℚ times_largest 2 z ≡ int (pos (i * (2 * V))) =
      ap (λ x. I *ℚ x) (mul_whole (pos 2) (pos V) 0) ∙ mul_whole (pos i) (pos (2 * V)) 0 in
      let l : i * (2 * V) ≤ n * (2 * V) = mul-le-mul_right (2 * V) few in
      within_weaken (I *ℚ times_largest 2 z) (int (pos (2 * (n * V)))) (I *ℚ k)
      (subst (λ x. x ≤ℚ int (pos (2 * (n * V)))) (sym e) (nat_le (i * (2 * V)) (2 * (n * V)) (omega (arith, l))))
      (within_mul I (times_largest 2 z) I k (within_nonneg I I (nat_nonneg i) (le_refl I)) h)

  -- i times the line's value at 0, and its rise up to t
  pub sum_stands : (i : ℕ) (k r t : ℚ) → i ≤ n → Whole (grid_of z) k → Within (times_largest 2 z) k → IsSlope z r → Whole z.dt t
      → zero_q ≤ℚ t → t ≤ℚ sums_end n end → IsValue (sum_sizes n z) (nat_times i k +ℚ r *ℚ t)
  sum_stands i k r t few whole within slope on low high =
      let V = n * z.largest in
      let three : 2 * V + V ≡ 3 * V = omega arith in
      let all : int (pos (2 * V)) +ℚ int (pos V) ≡ int (pos (3 * V)) = int_add (pos (2 * V)) (pos V) ∙ ap (λ (x : ℕ). int (pos x)) three in
      record {
        whole = whole_add (grid_of z) (nat_times i k) (r *ℚ t) (whole_times (grid_of z) (pos i) k whole) (run_whole z r t slope on);
        within = subst (λ m. Within m (nat_times i k +ℚ r *ℚ t)) all
            (within_add (int (pos (2 * V))) (int (pos V)) (nat_times i k) (r *ℚ t) (times_within i k few within)
            (run_within (run_sizes n z) (sums_end n end) r t run_are (slope_in r slope) low high));
      }

-- ---- the gauge
grids_below : (V S v t s : ℕ) → 1 ≤ V → 1 ≤ S → 1 ≤ v → 1 ≤ s → t * s ≤ 64 * (V * S * v * t * s * s)
grids_below V S v t s hV hS hv hs =
    let all = product_grows 1 1 1 t s V S v t s hV hS hv (omega arith) (omega arith) in
    let more : t * s * 1 ≤ t * s * s = mul-le-mul_left (t * s) hs in
    omega (arith, all, more)

more_times : (c g x : ℕ) → x ≤ g → c * (g * x) ≤ c * (g * g)
more_times c g x h = mul-le-mul_left c (mul-le-mul_left g h)

same_product : (n V S v t s : ℕ)
    → 64 * (3 * (n * V) * S * (v * t * s) * t * s * s) ≡ 3 * n * (64 * (V * S * v * t * s * s) * (t * s))
same_product n V S v t s = omega arith

pub sums_gauge : (z : Sizes) (end : ℚ) (n : ℕ) → AreSizes z end → gauge_of (sum_sizes n z) ≤ 3 * n * (gauge_of z * gauge_of z)
unfolding gauge_of
sums_gauge z end n a =
    let V = z.largest in
    let S = z.steepness in
    let g = 64 * (V * S * z.dv * z.dt * z.ds * z.ds) in
    let v = a.dv in
    let s = a.ds in
    let below = grids_below V S z.dv z.dt z.ds a.largest a.steepness (omega (arith, v)) (omega (arith, s)) in
    subst (λ x. x ≤ 3 * n * (g * g)) (sym (same_product n V S z.dv z.dt z.ds)) (more_times (3 * n) g (z.dt * z.ds) below)
