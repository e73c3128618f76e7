-- One number more: how the sizes that are kept follow those of the numbers.
use Rattle.std.specs.Prelude.{◌≡◌, ℕ, ◌+◌, ◌*◌, ◌/◌, ◌%◌, ◌<◌, ◌^◌, max, pos, ◌*ℤ◌, nat_abs, List, [], ◌∷◌, ◌++◌}
use Rattle.std.proofs.Common.{arith, sym, ap, ◌∙◌, refl, subst, append-nil, inl, inr}
use Rattle.std.proofs.Math.Nat.{le-max_left}
use Rattle.rational.specs.Ints.{mul_comm_z}
use Rattle.rational.specs.Rational.{ℚ, den, int, ◌*ℚ◌, frac}
use Rattle.rational.specs.Fractions.{frac_self, abs-mul}
use Rattle.rational.specs.Gauge.{Kept, cap, lcm, common_den, common_den_from, bound_of, size_up}
use Rattle.rational.proofs.Integers.{mul_whole}
use native.Mathlib.Nat.{div-mul_cancel, dvd_refl}
use Rattle.fraction128.proofs.Coprime.{gcd_self}
use Rattle.rational.proofs.Gauges.{kept_one, cap_cases, top}
use Rattle.upp_limits.specs.declared.gathered.Gathered.{Gathered}
use Rattle.upp_limits.specs.Limits.{Numbers, no_numbers, joined, twice, time_alone, value_alone, slope_alone}
use Rattle.upp_limits.specs.Gathered.{Gathers}
use Rattle.upp_limits.proofs.CommonDen.{den_from_append}
use Rattle.upp_limits.proofs.Rounding.{size_exact, size_over}

-- ---- lists with one number more
den_one : (n : ℕ) (x : ℚ) → common_den_from n (x ∷ []) ≡ lcm (den x) n
unfolding common_den_from
den_one n x = refl

pub den_more : (xs : List ℚ) (x : ℚ) → common_den (xs ++ x ∷ []) ≡ lcm (den x) (common_den xs)
den_more xs x = den_from_append 1 xs (x ∷ []) ∙ den_one (common_den xs) x

pub bound_more : (xs : List ℚ) (x : ℚ) → bound_of (xs ++ x ∷ []) ≡ max (bound_of xs) (size_up x)
unfolding bound_of
bound_more [] x = omega arith
bound_more (y ∷ ys) x = let e = bound_more ys x in omega arith

pub twice_more : (xs : List ℚ) (x : ℚ) → twice (xs ++ x ∷ []) ≡ twice xs ++ (int (pos 2) *ℚ x) ∷ []
twice_more [] x = refl
twice_more (y ∷ ys) x = ap (λ zs. (int (pos 2) *ℚ y) ∷ zs) (twice_more ys x)

-- ---- kept numbers
pub kept_max : (a m s : ℕ) → Kept a m → s < 2 ^ 128 → Kept (max a s) (max m s)
unfolding cap
kept_max a m s k h =
    let e = k.is in
    let some = k.some in
    record { is = omega arith; some = let l = le-max_left m s in omega arith }

-- ---- a multiple of two equal numbers
lcm_self : (n : ℕ) → lcm n n ≡ n
lcm_self n = ap (λ g. n / g * n) (gcd_self n) ∙ div-mul_cancel n (dvd_refl n)

pub same_lcm : (a b n : ℕ) → a ≡ b → (b ≡ top → ⊥) → Kept b n → Kept b (lcm a n)
same_lcm a b n e h k =
    let exact : cap n ≡ n = elim (cap_cases n) [ inl p ↦ p.0 | inr p ↦ absurd (h (k.is ∙ p.0)) ] in
    let a_is : a ≡ n = e ∙ (k.is ∙ exact) in
    let one : lcm a n ≡ n = ap (λ m. lcm m n) a_is ∙ lcm_self n in
    record { is = k.is ∙ ap cap (sym one); some = rw one k.some }

-- ---- twice a size
twice_frac : (x : ℚ) → int (pos 2) *ℚ x ≡ frac (x.num *ℤ pos 2) x.pre
twice_frac x = ap (λ y. int (pos 2) *ℚ y) (frac_self x) ∙ mul_whole (pos 2) x.num x.pre ∙ ap (λ z. frac z x.pre) (mul_comm_z (pos 2) x.num)

twice_size : (x : ℚ) (t : ℕ) → t ≡ nat_abs x.num → t * 2 ≡ nat_abs (x.num *ℤ pos 2)
twice_size x t e = ap (λ n. n * 2) e ∙ sym (abs-mul x.num 2)

-- 2 t / b is exact
pub twice_exact : (x : ℚ) (t b : ℕ) → t ≡ nat_abs x.num → b ≡ den x → t * 2 % b ≡ 0 → t * 2 / b ≡ size_up (int (pos 2) *ℚ x)
twice_exact x t b e f h = size_exact (x.num *ℤ pos 2) x.pre (t * 2) b (twice_size x t e) f h ∙ ap size_up (sym (twice_frac x))

-- that of a whole number
pub twice_whole : (x : ℚ) (top bottom : ℕ) → top ≡ nat_abs x.num → bottom ≡ den x → bottom ≡ 1 → top * 2 ≡ size_up (int (pos 2) *ℚ x)
twice_whole x top bottom t b one =
    let m : top * 2 % 1 ≡ 0 = omega arith in
    let d : top * 2 / 1 ≡ top * 2 = omega arith in
    sym (ap (λ n. top * 2 / n) one ∙ d) ∙ twice_exact x top bottom t b (ap (λ n. top * 2 % n) one ∙ m)

-- or not
pub twice_over : (x : ℚ) (t b : ℕ) → t ≡ nat_abs x.num → b ≡ den x → (t * 2 % b ≡ 0 → ⊥) → t * 2 / b + 1 ≡ size_up (int (pos 2) *ℚ x)
twice_over x t b e f h = size_over (x.num *ℤ pos 2) x.pre (t * 2) b (twice_size x t e) f h ∙ ap size_up (sym (twice_frac x))

-- ---- the sizes with one number more
pub gathers_nothing : Gathers record { dv = 1; dt = 1; ds = 1; steepness = 1; largest = 1 } no_numbers
unfolding common_den_from bound_of
gathers_nothing = record { dv = kept_one; dt = kept_one; ds = kept_one; steepness = kept_one; largest = kept_one }

pub gathers_time : (g : Gathered) (n : Numbers) (x : ℚ) (dt : ℕ) → Gathers g n → Kept dt (lcm (den x) (common_den n.times))
    → Gathers record { dv = g.dv; dt = dt; ds = g.ds; steepness = g.steepness; largest = g.largest } (joined n (time_alone x))
gathers_time g n x dt h k = record {
  dv = rw (append-nil n.values) h.dv;
  dt = rw (den_more n.times x) k;
  ds = rw (append-nil n.slopes) h.ds;
  steepness = rw (append-nil n.slopes) h.steepness;
  largest = rw (append-nil n.values) h.largest;
}

pub gathers_value : (g : Gathered) (n : Numbers) (x : ℚ) (dv s m : ℕ) → Gathers g n → Kept dv (lcm (den x) (common_den n.values)) → s ≡ size_up x → s < 2 ^ 128
    → m ≡ max g.largest s → Gathers record { dv = dv; dt = g.dt; ds = g.ds; steepness = g.steepness; largest = m } (joined n (value_alone x))
gathers_value g n x dv s m h k e l f = record {
  dv = rw (den_more n.values x) k;
  dt = rw (append-nil n.times) h.dt;
  ds = rw (append-nil n.slopes) h.ds;
  steepness = rw (append-nil n.slopes) h.steepness;
  largest = rw (bound_more n.values x, f) (subst (λ i. Kept (max g.largest s) (max (bound_of n.values) i)) e (kept_max g.largest (bound_of n.values) s h.largest l));
}

pub gathers_slope : (g : Gathered) (n : Numbers) (x : ℚ) (ds s m : ℕ) → Gathers g n → Kept ds (lcm (den x) (common_den n.slopes)) → s ≡ size_up (int (pos 2) *ℚ x) → s < 2 ^ 128
    → m ≡ max g.steepness s → Gathers record { dv = g.dv; dt = g.dt; ds = ds; steepness = m; largest = g.largest } (joined n (slope_alone x))
gathers_slope g n x ds s m h k e l f = record {
  dv = rw (append-nil n.values) h.dv;
  dt = rw (append-nil n.times) h.dt;
  ds = rw (den_more n.slopes x) k;
  steepness = rw (twice_more n.slopes x, bound_more (twice n.slopes) (int (pos 2) *ℚ x), f)
      (subst (λ i. Kept (max g.steepness s) (max (bound_of (twice n.slopes)) i)) e (kept_max g.steepness (bound_of (twice n.slopes)) s h.steepness l));
  largest = rw (append-nil n.values) h.largest;
}

-- nothing more
pub gathers_same : (g : Gathered) (n : Numbers) → Gathers g n → Gathers g (joined n no_numbers)
gathers_same g n h = record {
  dv = rw (append-nil n.values) h.dv;
  dt = rw (append-nil n.times) h.dt;
  ds = rw (append-nil n.slopes) h.ds;
  steepness = rw (append-nil n.slopes) h.steepness;
  largest = rw (append-nil n.values) h.largest;
}
