-- The steps of a scan fit where its gauge is below 2 ^ 120.
use Rattle.std.specs.Prelude.{◌≡◌, ℕ, ◌+◌, ◌*◌, ◌<◌, ◌≤◌, ◌^◌, ◌-◌, pos, Option, Some, None}
use Rattle.std.proofs.Common.{arith, sym, ap, ◌∙◌, subst}
use Prim.Native.Nat.{◌∣◌}
use native.Mathlib.Nat.{dvd-mul_left, mul-pos, mul-le-mul_right}
use Rattle.rational.specs.Rational.{ℚ, neg_ℚ, ◌-ℚ◌, ◌*ℚ◌, ◌≤ℚ◌, int}
use Rattle.rational.specs.Ratio.{SumFits}
use Rattle.rational.specs.Grid.{Whole, Within}
use Rattle.rational.proofs.Grid.{whole_weaken, whole_mul, whole_sub, whole_neg, within_weaken, within_sub, within_neg, within_mul, within_nonneg}
use Rattle.rational.proofs.Sizes.{sum_on_grid, small_on_grid}
use Rattle.rational.proofs.Integers.{nat_le, nat_nonneg, int_mul}
use Rattle.rational.proofs.Laws.{le_trans, mul_assoc}
use Rattle.rational.proofs.Linear.{with1, with2}
use Rattle.upp_limits.specs.Limits.{Sizes}
use Rattle.upp_limits.specs.Sized.{IsSlope, grid_of, times_largest}
use Rattle.upp_normal.specs.Operand.{AreLimited}
use Rattle.upp_normal.proofs.AnswerRoom.{tight, many_more}
use Rattle.upp_limits.proofs.OwnGauge.{end_within}
use Rattle.flow_watch.specs.watch_laws.Marks.{MostFits}
use Rattle.flow_watch.specs.watch_laws.MarkSizes.{IsTime, IsTimeIfAny, MarksFit, KeysFit}
pub use Rattle.upp_normal.proofs.StretchSizes.{time_whole}

-- ---- the grid of sums
pub grid_some : (z : Sizes) (end : ℚ) → AreLimited z end → 0 < grid_of z
grid_some z end A = mul-pos (mul-pos A.sizes.dv A.sizes.dt) A.sizes.ds

pub grid_small : (z : Sizes) (end : ℚ) → AreLimited z end → grid_of z ≤ 2 ^ 127 - 1
grid_small z end A =
    let t = (tight z end A).sums in
    let l = A.sizes.largest in
    let more : 1 * grid_of z ≤ z.largest * grid_of z = mul-le-mul_right (grid_of z) l in
    omega (arith, t, more)

-- k times the largest value over that grid, for k up to 8
pub fits_times : (z : Sizes) (end : ℚ) (k : ℕ) → AreLimited z end → k ≤ 8 → times_largest k z *ℚ int (pos (grid_of z)) ≤ℚ int (pos (2 ^ 127 - 1))
fits_times z end k A h =
    let t = (tight z end A).sums in
    let n = z.largest * grid_of z in
    let few : k * n ≤ 8 * n = mul-le-mul_right n h in
    let all : k * z.largest * grid_of z ≤ 2 ^ 127 - 1 = omega (arith, t, few) in
    let e : times_largest k z *ℚ int (pos (grid_of z)) ≡ int (pos (k * z.largest * grid_of z)) =
    ap (λ x. x *ℚ int (pos (grid_of z))) (int_mul (pos k) (pos z.largest)) ∙ int_mul (pos (k * z.largest)) (pos (grid_of z)) in
    subst (λ x. x ≤ℚ int (pos (2 ^ 127 - 1))) (sym e) (nat_le (k * z.largest * grid_of z) (2 ^ 127 - 1) all)

pub time_within : (z : Sizes) (end t : ℚ) → AreLimited z end → IsTime z end t → Within (times_largest 1 z) t
time_within z end t A h =
    let e : int (pos z.largest) ≡ times_largest 1 z = let x = int (pos z.largest) in with1 x (λ c. omega (arith, c.le, c.lt, c.same)) in
    within_nonneg (times_largest 1 z) t h.low (subst (λ x. t ≤ℚ x) e (le_trans h.high (end_within z end A.sizes A.some)))

pub sum_fits : (z : Sizes) (end : ℚ) (j k : ℕ) (a b : ℚ) → AreLimited z end → j + k ≤ 8 → Whole (grid_of z) a → Whole (grid_of z) b
    → Within (times_largest j z) a → Within (times_largest k z) b → SumFits a b
sum_fits z end j k a b A few wa wb ia ib =
    sum_on_grid (grid_of z) (times_largest j z) (times_largest k z) a b (grid_some z end A) (grid_small z end A)
    (subst (λ x. x *ℚ int (pos (grid_of z)) ≤ℚ int (pos (2 ^ 127 - 1))) (sym (many_more z j k)) (fits_times z end (j + k) A few)) wa wb ia ib

-- ---- marks
pub most_fits : (z : Sizes) (end t : ℚ) (o : Option ℚ) → AreLimited z end → IsTime z end t → IsTimeIfAny z end o → MostFits o t
most_fits z end t None A h k = tt
most_fits z end t (Some y) A h k = sum_fits z end 1 1 t y A (omega arith) (time_whole z t h.whole) (time_whole z y k.whole) (time_within z end t A h) (time_within z end y A k)

pub marks_fit : MarksFit
marks_fit z end r m A R M = record {
  least = sum_fits z end 1 1 m.time r.least A (omega arith) (time_whole z m.time M.time.whole) (time_whole z r.least R.least.whole) (time_within z end m.time A M.time) (time_within z end r.least A R.least);
  most = most_fits z end m.time r.most A M.time R.most;
  gap = sum_fits z end 2 2 m.start_key r.gap A (omega arith) M.key.whole R.gap.whole M.key.within R.gap.within;
}

-- ---- keys
product_within : (z : Sizes) (end s t : ℚ) → AreLimited z end → IsSlope z s → IsTime z end t → Within (times_largest 1 z) (s *ℚ t)
product_within z end s t A S T =
    let early : Within end t = within_nonneg end t T.low T.high in
    let w = within_mul (int (pos z.steepness)) end (int (pos 2) *ℚ s) t S.within early in
    let e : (int (pos 2) *ℚ s) *ℚ t ≡ int (pos 2) *ℚ (s *ℚ t) = mul_assoc (int (pos 2)) s t in
    let r = A.sizes.reach in
    let twice : Within (int (pos z.largest)) (int (pos 2) *ℚ (s *ℚ t)) = subst (λ x. Within (int (pos z.largest)) x) e (within_weaken (int (pos z.steepness) *ℚ end) (int (pos z.largest)) ((int (pos 2) *ℚ s) *ℚ t) r w) in
    half_within (int (pos z.largest)) (s *ℚ t) (nat_nonneg z.largest) twice
  where
    half_within : (v x : ℚ) → int (pos 0) ≤ℚ v → Within v (int (pos 2) *ℚ x) → Within (int (pos 1) *ℚ v) x
    half_within v x some w =
        let a = w.low in
        let b = w.high in
        record { low = with2 v x (λ c. omega (arith, c.le, c.lt, c.same)); high = with2 v x (λ c. omega (arith, c.le, c.lt, c.same)) }

product_whole : (z : Sizes) (end s t : ℚ) → IsSlope z s → IsTime z end t → Whole (grid_of z) (s *ℚ t)
product_whole z end s t S T =
    whole_weaken (z.ds * z.dt) (grid_of z) (s *ℚ t) (subst (λ (n : ℕ). z.ds * z.dt ∣ n) same (dvd-mul_left (z.ds * z.dt) z.dv)) (whole_mul z.ds z.dt s t S.whole T.whole)
  where
    same : z.dv * (z.ds * z.dt) ≡ z.dv * z.dt * z.ds
    same = omega arith

pub keys_fit : KeysFit
keys_fit z end w s t A W S T =
    let p = product_within z end s t A S T in
    let q = product_whole z end s t S T in
    record {
      product = small_on_grid (grid_of z) (times_largest 1 z) (s *ℚ t) (grid_some z end A) (grid_small z end A) (fits_times z end 1 A (omega arith)) q p;
      difference = sum_fits z end 1 1 w (neg_ℚ (s *ℚ t)) A (omega arith) W.whole (whole_neg (grid_of z) (s *ℚ t) q) W.within (within_neg (times_largest 1 z) (s *ℚ t) p);
      is = record {
        whole = whole_sub (grid_of z) w (s *ℚ t) W.whole q;
        within = subst (λ x. Within x (w -ℚ s *ℚ t)) (many_more z 1 1) (within_sub (times_largest 1 z) (times_largest 1 z) w (s *ℚ t) W.within p);
      };
    }
