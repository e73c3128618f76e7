-- Where a gauge is small enough, numbers on the common grid of a call and within some times its largest value have small parts.
use Rattle.std.specs.Prelude.{◌≡◌, ℕ, ◌+◌, ◌*◌, ◌<◌, ◌≤◌, ◌^◌, pos}
use Rattle.std.proofs.Common.{arith, sym, ap, ◌∙◌, refl, subst}
use Prim.Native.Nat.{◌∣◌}
use native.Mathlib.Nat.{dvd-mul_left, dvd-mul_right, mul-pos, mul-le-mul_right, mul_assoc}
use Rattle.rational.specs.Rational.{ℚ, ◌+ℚ◌, ◌-ℚ◌, ◌*ℚ◌, ◌≤ℚ◌, int}
use Rattle.rational.specs.Ratio.{IsSmall, SumFits}
use Rattle.rational.specs.Grid.{Whole, Within}
use Rattle.rational.proofs.Linear.{with1, with2, with3}
use Rattle.rational.proofs.Laws.{le_trans, le_refl, mul_le_mul, add_mul, mul_assoc as mul_assoc_q, one_mul}
use Rattle.rational.proofs.Integers.{mul_whole, int_add, nat_le, nat_nonneg}
use Rattle.rational.proofs.Grid.{whole_weaken, whole_sub, whole_mul, within_sub, within_mul, within_nonneg, within_weaken}
use Rattle.rational.proofs.Sizes.{largest_part, small_on_grid, sum_on_grid}
use Rattle.upp_limits.specs.Limits.{Sizes, gauge_of}
use Rattle.upp_limits.specs.Sized.{IsValue, IsSlope, AreSizes, grid_of, times_largest}
use Rattle.upp_limits.proofs.GaugeProduct.{whole_part_of, time_part_of, slope_part_of}

-- the largest value times the grid is at most b, and the steepness times the grid of slopes
pub record IsNarrow (z : Sizes) (b : ℕ) : Type 0 where
  pub grid : z.largest * grid_of z ≤ b
  pub times : z.largest * z.dt ≤ b
  pub slopes : z.steepness * z.ds ≤ b

narrow_from : (z : Sizes) (end : ℚ) (b : ℕ) → AreSizes z end → gauge_of z < 64 * b → IsNarrow z b
unfolding gauge_of
narrow_from z end b a h =
    let l = whole_part_of z.largest z.steepness z.dv z.dt z.ds a.steepness a.ds in
    let t = time_part_of z.largest z.steepness z.dv z.dt z.ds a.steepness a.dv a.ds in
    let s = slope_part_of z.largest z.steepness z.dv z.dt z.ds a.largest a.dv a.dt a.ds in
    record { grid = omega (arith, l, h); times = omega (arith, t, h); slopes = omega (arith, s, h) }

-- below 2 ^ 128, and below 2 ^ 120
pub narrow_gauge : (z : Sizes) (end : ℚ) → AreSizes z end → gauge_of z < 2 ^ 128 → IsNarrow z (2 ^ 122)
narrow_gauge z end a h = narrow_from z end (2 ^ 122) a (omega (arith, h))

pub narrow_limit : (z : Sizes) (end : ℚ) → AreSizes z end → gauge_of z < 2 ^ 120 → IsNarrow z (2 ^ 114)
narrow_limit z end a h = narrow_from z end (2 ^ 114) a (omega (arith, h))

-- ---- numbers on the common grid, within so many times the largest value
pub grid_pos : (z : Sizes) (end : ℚ) → AreSizes z end → 0 < grid_of z
grid_pos z end a = mul-pos (mul-pos a.dv a.dt) a.ds

pub scaled_fits : (k v d m : ℕ) → k * (v * d) ≤ m → (int (pos k) *ℚ int (pos v)) *ℚ int (pos d) ≤ℚ int (pos m)
scaled_fits k v d m h =
    let e : (int (pos k) *ℚ int (pos v)) *ℚ int (pos d) ≡ int (pos (k * v * d)) = ap (λ x. x *ℚ int (pos d)) (mul_whole (pos k) (pos v) 0) ∙ mul_whole (pos (k * v)) (pos d) 0 in
    subst (λ x. x ≤ℚ int (pos m)) (sym e) (nat_le (k * v * d) m (omega (arith, h)))

at_least_one : (z : Sizes) (end : ℚ) (b : ℕ) → AreSizes z end → IsNarrow z b → grid_of z ≤ b
at_least_one z end b a n =
    let l : 1 * grid_of z ≤ z.largest * grid_of z = mul-le-mul_right (grid_of z) a.largest in
    let g = n.grid in
    omega (arith, l, g)

-- up to 31 times the largest value the parts are small
pub small_number : (z : Sizes) (end : ℚ) (k : ℕ) (q : ℚ) → AreSizes z end → IsNarrow z (2 ^ 122) → k ≤ 31 → Whole (grid_of z) q → Within (times_largest k z) q → IsSmall q
small_number z end k q a n h w i =
    let g = n.grid in
    let one = at_least_one z end (2 ^ 122) a n in
    let m : k * (z.largest * grid_of z) ≤ 31 * (z.largest * grid_of z) = mul-le-mul_right (z.largest * grid_of z) h in
    small_on_grid (grid_of z) (times_largest k z) q (grid_pos z end a) (omega (arith, one)) (scaled_fits k z.largest (grid_of z) largest_part (omega (arith, m, g))) w i

-- and so are those of a sum, of k and j times the largest value together
pub small_sum : (z : Sizes) (end : ℚ) (k j : ℕ) (p q : ℚ) → AreSizes z end → IsNarrow z (2 ^ 122) → k + j ≤ 31 → Whole (grid_of z) p → Whole (grid_of z) q
    → Within (times_largest k z) p → Within (times_largest j z) q → SumFits p q
small_sum z end k j p q a n h wp wq ip iq =
    let g = n.grid in
    let one = at_least_one z end (2 ^ 122) a n in
    let m : (k + j) * (z.largest * grid_of z) ≤ 31 * (z.largest * grid_of z) = mul-le-mul_right (z.largest * grid_of z) h in
    let e : times_largest k z +ℚ times_largest j z ≡ times_largest (k + j) z = sym (add_mul (int (pos k)) (int (pos j)) (int (pos z.largest))) ∙ ap (λ x. x *ℚ int (pos z.largest)) (int_add (pos k) (pos j)) in
    sum_on_grid (grid_of z) (times_largest k z) (times_largest j z) p q (grid_pos z end a) (omega (arith, one))
    (subst (λ x. x *ℚ int (pos (grid_of z)) ≤ℚ int (pos largest_part)) (sym e) (scaled_fits (k + j) z.largest (grid_of z) largest_part (omega (arith, m, g)))) wp wq ip iq

-- ---- the classes
value_divides : (z : Sizes) → z.dv ∣ grid_of z
value_divides z = subst (λ n. z.dv ∣ n) (sym (mul_assoc z.dv z.dt z.ds)) (dvd-mul_right z.dv (z.dt * z.ds))

pub slope_time_divides : (z : Sizes) → z.ds * z.dt ∣ grid_of z
slope_time_divides z = subst (λ n. z.ds * z.dt ∣ n) (regroup z.dv z.dt z.ds) (dvd-mul_left (z.ds * z.dt) z.dv)
  where
    regroup : (v t s : ℕ) → v * (s * t) ≡ v * t * s
    regroup v t s = omega arith

-- a value: on the grid, within the largest
pub value_whole : (z : Sizes) (v : ℚ) → IsValue z v → Whole (grid_of z) v
value_whole z v h = whole_weaken z.dv (grid_of z) v (value_divides z) h.whole

pub value_within : (z : Sizes) (v : ℚ) → IsValue z v → Within (times_largest 1 z) v
value_within z v h = subst (λ m. Within m v) (sym (one_mul (int (pos z.largest)))) h.within

-- a slope times a time up to the window's end
pub run_whole : (z : Sizes) (s x : ℚ) → IsSlope z s → Whole z.dt x → Whole (grid_of z) (s *ℚ x)
run_whole z s x h w = whole_weaken (z.ds * z.dt) (grid_of z) (s *ℚ x) (slope_time_divides z) (whole_mul z.ds z.dt s x h.whole w)

pub half_bound : (v y : ℚ) → int (pos 0) ≤ℚ v → Within v (int (pos 2) *ℚ y) → Within v y
half_bound v y h w =
    let l = w.low in
    let u = w.high in
    record { low = with2 v y (λ c. omega (arith, c.le, c.lt, c.same)); high = with2 v y (λ c. omega (arith, c.le, c.lt, c.same)) }

pub run_within : (z : Sizes) (end s x : ℚ) → AreSizes z end → IsSlope z s → int (pos 0) ≤ℚ x → x ≤ℚ end → Within (int (pos z.largest)) (s *ℚ x)
run_within z end s x a h some l =
    let S = int (pos z.steepness) in
    let V = int (pos z.largest) in
    let r : S *ℚ x ≤ℚ S *ℚ end = mul_le_mul S (nat_nonneg z.steepness) l in
    let b : S *ℚ x ≤ℚ V = le_trans r a.reach in
    let m : Within (S *ℚ x) ((int (pos 2) *ℚ s) *ℚ x) = within_mul S x (int (pos 2) *ℚ s) x h.within (within_nonneg x x some (le_refl x)) in
    let n : Within V ((int (pos 2) *ℚ s) *ℚ x) = within_weaken (S *ℚ x) V ((int (pos 2) *ℚ s) *ℚ x) b m in
    half_bound V (s *ℚ x) (nat_nonneg z.largest) (subst (λ y. Within V y) (mul_assoc_q (int (pos 2)) s x) n)

-- the value of a line at 0, from its value at a time and its slope
pub record LineParts (z : Sizes) (k s x : ℚ) : Type 0 where
  pub icept_whole : Whole (grid_of z) k
  pub icept_within : Within (times_largest 2 z) k
  pub run_whole : Whole (grid_of z) (s *ℚ x)
  pub run_within : Within (times_largest 1 z) (s *ℚ x)

difference_is : (k y v : ℚ) → k +ℚ y ≡ v → v -ℚ y ≡ k
difference_is k y v e = with3 k y v (λ c. omega (arith, c.le, c.lt, c.same))

pub two_times : (v : ℚ) → v +ℚ v ≡ int (pos 2) *ℚ v
two_times v = with1 v (λ c. omega (arith, c.le, c.lt, c.same))

pub line_parts : (z : Sizes) (end k s x : ℚ) → AreSizes z end → IsSlope z s → Whole z.dt x → int (pos 0) ≤ℚ x → x ≤ℚ end → IsValue z (k +ℚ s *ℚ x) → LineParts z k s x
line_parts z end k s x a h w some l v =
    let y = s *ℚ x in
    let V = int (pos z.largest) in
    let wy = run_whole z s x h w in
    let iy = run_within z end s x a h some l in
    let e = difference_is k y (k +ℚ y) refl in
    record {
      icept_whole = subst (λ q. Whole (grid_of z) q) e (whole_sub (grid_of z) (k +ℚ y) y (value_whole z (k +ℚ y) v) wy);
      icept_within = subst (λ m. Within m k) (two_times V) (subst (λ q. Within (V +ℚ V) q) e (within_sub V V (k +ℚ y) y v.within iy));
      run_whole = wy;
      run_within = subst (λ m. Within m y) (sym (one_mul V)) iy;
    }

-- a slope
pub small_slope : (z : Sizes) (end s : ℚ) → AreSizes z end → IsNarrow z (2 ^ 122) → IsSlope z s → IsSmall s
small_slope z end s a n h =
    let S = int (pos z.steepness) in
    let l = n.slopes in
    let one : 1 * z.ds ≤ z.steepness * z.ds = mul-le-mul_right z.ds a.steepness in
    small_on_grid z.ds S s a.ds (omega (arith, l, one))
    (subst (λ x. x ≤ℚ int (pos largest_part)) (sym (mul_whole (pos z.steepness) (pos z.ds) 0)) (nat_le (z.steepness * z.ds) largest_part (omega (arith, l))))
    h.whole (half_bound S s (nat_nonneg z.steepness) h.within)

-- the grids themselves
pub grids_narrow : (z : Sizes) (end : ℚ) (b : ℕ) → AreSizes z end → IsNarrow z b → (z.dt ≤ b) × (grid_of z ≤ b)
grids_narrow z end b a n =
    let t = n.times in
    let g = n.grid in
    let one : 1 * z.dt ≤ z.largest * z.dt = mul-le-mul_right z.dt a.largest in
    let all : 1 * grid_of z ≤ z.largest * grid_of z = mul-le-mul_right (grid_of z) a.largest in
    (omega (arith, t, one), omega (arith, g, all))
