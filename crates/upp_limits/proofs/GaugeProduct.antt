-- The product of a gauge is at least each of its parts.
use Rattle.std.specs.Prelude.{◌≡◌, ℕ, suc, ◌*◌, ◌-◌, ◌<◌, ◌≤◌, ◌^◌, max, ℤ, pos, ◌*ℤ◌, ◌≤ℤ◌, negsuc, nat_abs}
use Rattle.std.proofs.Common.{arith, ap, ◌∙◌, subst}
use Rattle.std.proofs.lemmas.Int.{ints}
use native.Mathlib.Nat.{mul-le-mul_left}
use Rattle.rational.specs.Rational.{ℚ, den, int, ◌*ℚ◌, ◌≤ℚ◌, frac}
use Rattle.rational.specs.Fractions.{frac_self}
use Rattle.rational.proofs.Over.{le_frac}
use Rattle.rational.specs.Ints.{mul_comm_z}
use Rattle.rational.specs.Gauge.{Kept, cap, bound_of}
use Rattle.rational.proofs.Integers.{mul_whole}
use Rattle.rational.proofs.Laws.{num_nonneg}
use Rattle.rational.proofs.Grid.{den_bound}
use Rattle.upp_limits.specs.declared.gathered.Gathered.{Gathered}
use Rattle.min_plus.specs.WholeUp.{whole_up}
use Rattle.upp_limits.specs.Limits.{Numbers, Sizes, joined, time_alone, twice, sizes_of, gauge_of}
use Rattle.upp_limits.specs.Sized.{AreSizes}
use Rattle.upp_limits.specs.Gathered.{Gathers}
use Rattle.upp_limits.proofs.Gathering.{kept_max}
use Rattle.rational.proofs.Gauges.{le_times}

grown : (m a b : ℕ) → m ≤ a → 0 < b → m ≤ a * b
grown m a b h k = let l = le_times a b k in omega arith

-- V dv dt ds ds S is the whole: what is at most V dv dt ds is at most the gauge's 64th part
pub whole_part_of : (V S dv dt ds : ℕ) → 0 < S → 0 < ds → V * dv * dt * ds ≤ V * S * dv * dt * ds * ds
whole_part_of V S dv dt ds s d =
    let a : V * dv * dt * ds ≤ V * dv * dt * ds * S = le_times (V * dv * dt * ds) S s in
    let b : V * dv * dt * ds * S ≤ V * dv * dt * ds * S * ds = le_times (V * dv * dt * ds * S) ds d in
    omega (arith, a, b)

pub steep_part_of : (V S dv dt ds : ℕ) → 0 < V → 0 < dv → 0 < dt → 0 < ds → S ≤ V * S * dv * dt * ds * ds
steep_part_of V S dv dt ds v a b c =
    let h : S ≤ S * V = le_times S V v in
    grown S (V * S * dv * dt * ds) ds (grown S (V * S * dv * dt) ds (grown S (V * S * dv) dt (grown S (V * S) dv (omega (arith, h)) a) b) c) c

pub time_part_of : (V S dv dt ds : ℕ) → 0 < S → 0 < dv → 0 < ds → V * dt ≤ V * S * dv * dt * ds * ds
time_part_of V S dv dt ds s a c =
    let h : V * dt ≤ V * dt * dv = le_times (V * dt) dv a in
    let k : V * dt * dv ≤ V * dt * dv * ds = le_times (V * dt * dv) ds c in
    let l = whole_part_of V S dv dt ds s c in
    omega (arith, h, k, l)

pub slope_part_of : (V S dv dt ds : ℕ) → 0 < V → 0 < dv → 0 < dt → 0 < ds → S * ds ≤ V * S * dv * dt * ds * ds
slope_part_of V S dv dt ds v a b c =
    let h : S * ds ≤ S * ds * V = le_times (S * ds) V v in
    let r = grown (S * ds) (V * S * ds * dv * dt) ds (grown (S * ds) (V * S * ds * dv) dt (grown (S * ds) (V * S * ds) dv (omega (arith, h)) a) b) c in
    omega (arith, r)

-- ---- what makes a gauge too large
pub steep_gauge : (z : Sizes) (end : ℚ) → AreSizes z end → 2 ^ 128 - 1 ≤ z.steepness → 2 ^ 128 ≤ gauge_of z
unfolding gauge_of
steep_gauge z end a h =
    let l = steep_part_of z.largest z.steepness z.dv z.dt z.ds a.largest a.dv a.dt a.ds in
    omega (arith, l)

-- steepness times the end, without its denominator
crossed : (s : ℕ) (num : ℤ) (d v : ℕ) → pos 0 ≤ℤ num → frac (num *ℤ pos s) d ≤ℚ frac (pos v) 0 → s * nat_abs num ≤ v * suc d
crossed s (pos n) d v h l =
    let k : pos (n * s * 1) ≤ℤ pos (v * suc d) = (le_frac (pos (n * s)) d (pos v) 0).0 l in
    omega (arith, ints, k)
crossed s (negsuc n) d v h l = absurd (omega (arith, ints))

pub far_gauge : (z : Sizes) (end : ℚ) → AreSizes z end → int (pos 0) ≤ℚ end → 2 ^ 128 ≤ z.steepness * nat_abs end.num → 2 ^ 128 ≤ gauge_of z
unfolding gauge_of
far_gauge z end a some h =
    let e : int (pos z.steepness) *ℚ end ≡ frac (end.num *ℤ pos z.steepness) end.pre =
    ap (λ y. int (pos z.steepness) *ℚ y) (frac_self end) ∙ mul_whole (pos z.steepness) end.num end.pre ∙ ap (λ k. frac k end.pre) (mul_comm_z (pos z.steepness) end.num) in
    let l = crossed z.steepness end.num end.pre z.largest (num_nonneg end some) (subst (λ y. y ≤ℚ int (pos z.largest)) e a.reach) in
    let d : den end ≤ z.dt = den_bound z.dt end a.dt a.window in
    let m : z.largest * den end ≤ z.largest * z.dt = mul-le-mul_left z.largest d in
    let t = time_part_of z.largest z.steepness z.dv z.dt z.ds a.steepness a.dv a.ds in
    omega (arith, l, m, t, h)

-- ---- the sizes that were gathered
cap_top : (s n : ℕ) → Kept s n → s ≡ 2 ^ 128 - 1 → 2 ^ 128 - 1 ≤ n
unfolding cap
cap_top s n k e = let i = k.is in omega (arith, i, e)

cap_below : (s n : ℕ) → Kept s n → (s ≡ 2 ^ 128 - 1 → ⊥) → s ≡ n
unfolding cap
cap_below s n k h = let i = k.is in omega (arith, i, h)

pub gathered_steep : (g : Gathered) (end : ℚ) (n : Numbers) → AreSizes (sizes_of end n) end → Gathers g (joined (time_alone end) n) → g.steepness ≡ 2 ^ 128 - 1
    → 2 ^ 128 ≤ gauge_of (sizes_of end n)
gathered_steep g end n a h e = steep_gauge (sizes_of end n) end a (cap_top g.steepness (bound_of (twice n.slopes)) h.steepness e)

pub gathered_far : (g : Gathered) (end : ℚ) (n : Numbers) → AreSizes (sizes_of end n) end → Gathers g (joined (time_alone end) n) → (g.steepness ≡ 2 ^ 128 - 1 → ⊥)
    → int (pos 0) ≤ℚ end → 2 ^ 128 ≤ g.steepness * nat_abs end.num → 2 ^ 128 ≤ gauge_of (sizes_of end n)
gathered_far g end n a h e some l =
    let s = cap_below g.steepness (bound_of (twice n.slopes)) h.steepness e in
    far_gauge (sizes_of end n) end a some (subst (λ k. 2 ^ 128 ≤ k * nat_abs end.num) s l)

-- the largest value, and steepness times the end
pub gathered_largest : (g : Gathered) (end : ℚ) (n : Numbers) (r m : ℕ) → Gathers g (joined (time_alone end) n) → (g.steepness ≡ 2 ^ 128 - 1 → ⊥)
    → r ≡ whole_up (int (pos g.steepness) *ℚ end) → r < 2 ^ 128 → m ≡ max g.largest r → Kept m (sizes_of end n).largest
gathered_largest g end n r m h e i l f =
    let s = cap_below g.steepness (bound_of (twice n.slopes)) h.steepness e in
    let j : r ≡ whole_up (int (pos (bound_of (twice n.slopes))) *ℚ end) = subst (λ k. r ≡ whole_up (int (pos k) *ℚ end)) s i in
    rw f (subst (λ k. Kept (max g.largest r) (max (bound_of n.values) k)) j (kept_max g.largest (bound_of n.values) r h.largest l))

-- what is kept of a number that is small enough is the number
pub kept_small : (b n : ℕ) → Kept b n → n ≤ 2 ^ 122 → b ≡ n
unfolding cap
kept_small b n k h = let i = k.is in omega (arith, i, h)
