-- The sizes of the first copies and of a bound of the others: the same grids as of all copies, and no smaller a gauge.
use Rattle.std.specs.Prelude.{◌≡◌, ℕ, ◌+◌, ◌*◌, ◌≤◌, pos, max, [], ◌∷◌, ◌++◌}
use Rattle.std.specs.List.{AllByRecursion}
use Rattle.std.proofs.Common.{arith, sym, ap, subst, append-nil}
use Rattle.std.proofs.Math.Nat.{le-max_left, le-max_right, max-le}
use native.Mathlib.Nat.{mul-le-mul_left, mul-le-mul_right}
use Rattle.rational.specs.Rational.{ℚ, ◌+ℚ◌, ◌*ℚ◌, ◌≤ℚ◌, int}
use Rattle.rational.specs.Grid.{Whole, Within}
use Rattle.rational.specs.Gauge.{common_den, bound_of, size_up}
use Rattle.rational.proofs.Grid.{whole_int}
use Rattle.rational.proofs.Integers.{int_add, nat_le, nat_le_out}
use Rattle.upp_curve.specs.Curve.{SpecCurve}
use Rattle.min_plus.specs.WholeUp.{whole_up}
use Rattle.upp_limits.specs.Periods.{HasPeriod}
use Rattle.upp_limits.specs.Limits.{Numbers, Sizes, joined, twice, value_alone, curve_numbers, sizes_of, gauge_of}
use Rattle.upp_limits.specs.Sized.{grid_of}
use Rattle.upp_limits.specs.ClosedForm.{first_numbers}
use Rattle.upp_limits.specs.Covered.{IsMostRise}
use Rattle.upp_limits.proofs.Every.{every_append, every_left, every_weaken}
use Rattle.upp_limits.proofs.CommonDen.{common_den_each, bound_each, bound_pos, bound_least, same_common_den, size_up_within}
use Rattle.upp_limits.proofs.ClosedForms.{IsGrid, IsFilled, Holds, whole_filled, within_filled, holds_joined, holds_left, holds_right}
use Rattle.upp_limits.proofs.SameSizes.{Equals, any, every_any, any_grid, any_filled, den_times, den_slopes, bound_slopes}
use Rattle.upp_limits.proofs.Gathering.{bound_more}
use Rattle.upp_limits.proofs.Carried.{Carries, whole_carried, within_carried, first_to_all, all_to_first}

-- b has the numbers of a, and values as far from them as M lets
pub record Covers (M : ℕ) (a b : Numbers) : Type 1 where
  pub there : (T V W S : ℚ → Type 0) → IsGrid T → IsFilled W → Carries V W M → Holds T V S a → Holds T W S b
  pub back : (T V S : ℚ → Type 0) → Holds T V S b → Holds T V S a

pub covers_self : (M : ℕ) (a : Numbers) → Covers M a a
covers_self M a = record {
  there = λ T V W S g f C h. keep_values T V W S C h;
  back = λ T V S h. h;
}
  where
    keep_values : (T V W S : ℚ → Type 0) → Carries V W M → Holds T V S a → Holds T W S a
    keep_values T V W S C h = record { times = h.times; values = every_weaken C.keep a.values h.values; slopes = h.slopes }

pub covers_joined : (M : ℕ) (a b c d : Numbers) → Covers M a b → Covers M c d → Covers M (joined a c) (joined b d)
covers_joined M a b c d p q = record {
  there = λ T V W S g f C h. holds_joined T W S b d (p.there T V W S g f C (holds_left T V S a c h)) (q.there T V W S g f C (holds_right T V S a c h));
  back = λ T V S h. holds_joined T V S a c (p.back T V S (holds_left T V S b d h)) (q.back T V S (holds_right T V S b d h));
}

pub covers_curve : (M : ℕ) (end : ℚ) (c : SpecCurve) → HasPeriod c.tail → IsMostRise c.tail end M → Covers M (first_numbers end c) (curve_numbers end c)
covers_curve M end c some most = record {
  there = λ T V W S g f C h. first_to_all T V W S M end c g f C some most h;
  back = λ T V S h. all_to_first T V S end c some h;
}

-- ---- times and slopes
no_values : Numbers → Numbers
no_values n = record { times = n.times; values = []; slopes = n.slopes }

any_carried : (M : ℕ) → Carries any any M
unfolding any
any_carried M = record { keep = λ x h. h; later = λ x c n k w h. tt }

covers_equals : (M : ℕ) (a b : Numbers) → Covers M a b → Equals (no_values a) (no_values b)
unfolding no_values
covers_equals M a b p = record {
  there = λ T V S g f h.
      let k = p.there T any any S g any_filled (any_carried M) record { times = h.times; values = every_any a.values; slopes = h.slopes } in
      record { times = k.times; values = tt; slopes = k.slopes };
  back = λ T V S g f h.
      let k = p.back T any S record { times = h.times; values = every_any b.values; slopes = h.slopes } in
      record { times = k.times; values = tt; slopes = k.slopes };
}

-- ---- values
values_there : (M : ℕ) (a b : Numbers) (V W : ℚ → Type 0) → Covers M a b → IsFilled W → Carries V W M → AllByRecursion V a.values → AllByRecursion W b.values
values_there M a b V W p f C h = (p.there any V W any any_grid f C record { times = every_any a.times; values = h; slopes = every_any a.slopes }).values

values_back : (M : ℕ) (a b : Numbers) (V : ℚ → Type 0) → Covers M a b → AllByRecursion V b.values → AllByRecursion V a.values
values_back M a b V p h = (p.back any V any record { times = every_any b.times; values = h; slopes = every_any b.slopes }).values

-- one value more, which is whole
covered_den : (M m : ℕ) (a b : Numbers) → Covers M a b → common_den (a.values ++ int (pos m) ∷ []) ≡ common_den b.values
covered_den M m a b p =
    let whole = a.values ++ int (pos m) ∷ [] in
    let d = common_den b.values in
    let e = common_den whole in
    same_common_den whole b.values
    (every_append (Whole d) a.values (int (pos m) ∷ []) (values_back M a b (Whole d) p (common_den_each b.values)) (whole_int d (pos m), tt))
    (values_there M a b (Whole e) (Whole e) p (whole_filled e) (whole_carried e M) (every_left (Whole e) a.values (int (pos m) ∷ []) (common_den_each whole)))

-- which is no less than the bound and M together
own_size : (m : ℕ) → m ≤ size_up (int (pos m))
own_size m = nat_le_out m (size_up (int (pos m))) (size_up_within (int (pos m))).high

covered_bound : (M m : ℕ) (a b : Numbers) → Covers M a b → bound_of a.values + M ≤ m → bound_of b.values ≤ bound_of (a.values ++ int (pos m) ∷ [])
covered_bound M m a b p h =
    let n = bound_of (a.values ++ int (pos m) ∷ []) in
    let i = bound_of a.values in
    let e = bound_more a.values (int (pos m)) in
    let l = le-max_right i (size_up (int (pos m))) in
    let k = own_size m in
    let far : i + M ≤ n = omega (arith, e, l, k, h) in
    let near : i ≤ n = omega (arith, far) in
    let more : int (pos i) +ℚ int (pos M) ≤ℚ int (pos n) = subst (λ x. x ≤ℚ int (pos n)) (sym (int_add (pos i) (pos M))) (nat_le (i + M) n far) in
    bound_least n b.values (bound_pos (a.values ++ int (pos m) ∷ []))
    (values_there M a b (Within (int (pos i))) (Within (int (pos n))) p (within_filled (int (pos n)))
    (within_carried (int (pos i)) (int (pos n)) M (nat_le i n near) more)
    (bound_each a.values i (omega arith)))

-- ---- the gauge
pub record IsNoLess (z y : Sizes) : Type 0 where
  pub dt : y.dt ≡ z.dt
  pub grid : grid_of y ≡ grid_of z
  pub gauge : gauge_of z ≤ gauge_of y

pub more_gauge : (v w s dv dt ds : ℕ) → v ≤ w → 64 * (v * s * dv * dt * ds * ds) ≤ 64 * (w * s * dv * dt * ds * ds)
more_gauge v w s dv dt ds h =
    let a : v * s ≤ w * s = mul-le-mul_right s h in
    let b : v * s * dv ≤ w * s * dv = mul-le-mul_right dv a in
    let c : v * s * dv * dt ≤ w * s * dv * dt = mul-le-mul_right dt b in
    let d : v * s * dv * dt * ds ≤ w * s * dv * dt * ds = mul-le-mul_right ds c in
    let e : v * s * dv * dt * ds * ds ≤ w * s * dv * dt * ds * ds = mul-le-mul_right ds d in
    mul-le-mul_left 64 e

-- five numbers that are equal but for a larger largest
no_less : (z y : Sizes) → y.dv ≡ z.dv → y.dt ≡ z.dt → y.ds ≡ z.ds → y.steepness ≡ z.steepness → z.largest ≤ y.largest → IsNoLess z y
unfolding gauge_of
no_less z y dv dt ds s v = record {
  dt = dt;
  grid = rw (dv, dt, ds) (refl_of (z.dv * z.dt * z.ds));
  gauge = rw (dv, dt, ds, s) (more_gauge z.largest y.largest z.steepness z.dv z.dt z.ds v);
}
  where
    refl_of : (n : ℕ) → n ≡ n
    refl_of n = omega arith

pub covered_sizes : (M m : ℕ) (end : ℚ) (a b : Numbers) → Covers M a b → bound_of a.values + M ≤ m → IsNoLess (sizes_of end b) (sizes_of end (joined a (value_alone (int (pos m)))))
unfolding no_values
covered_sizes M m end a b p h =
    let q = covers_equals M a b p in
    let w = joined a (value_alone (int (pos m))) in
    let t : common_den (end ∷ w.times) ≡ common_den (end ∷ b.times) = rw (append-nil a.times) (den_times end (no_values a) (no_values b) q) in
    let ds : common_den w.slopes ≡ common_den b.slopes = rw (append-nil a.slopes) (den_slopes (no_values a) (no_values b) q) in
    let s : bound_of (twice w.slopes) ≡ bound_of (twice b.slopes) = rw (append-nil a.slopes) (bound_slopes (no_values a) (no_values b) q) in
    let far : whole_up (int (pos (bound_of (twice w.slopes))) *ℚ end) ≡ whole_up (int (pos (bound_of (twice b.slopes))) *ℚ end) = ap (λ n. whole_up (int (pos n) *ℚ end)) s in
    no_less (sizes_of end b) (sizes_of end w) (covered_den M m a b p) t ds s (larger (bound_of b.values) (bound_of w.values) _ _ far (covered_bound M m a b p h))
  where
    larger : (i j r q : ℕ) → q ≡ r → i ≤ j → max i r ≤ max j q
    larger i j r q e h =
        let l = le-max_left j q in
        let k = le-max_right j q in
        max-le (omega (arith, l, h)) (omega (arith, k, e))
