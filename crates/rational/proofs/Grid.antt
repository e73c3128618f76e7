-- Numbers on a grid and within a bound: sums, products and quotients of such numbers, and how large their parts are.
use Rattle.std.specs.Prelude.{◌≡◌, ◌≢◌, ℕ, zero, suc, ◌*◌, ◌/◌, ◌<◌, ◌≤◌, ℤ, pos, negsuc, ◌+ℤ◌, ◌*ℤ◌, neg_ℤ, nat_abs}
use Rattle.std.proofs.Common.{arith, sym, ap, ap₂, ◌∙◌, refl, subst, inl, inr}
use Prim.Native.Nat.{◌∣◌}
use Rattle.std.proofs.lemmas.Int.{ints}
use native.Mathlib.Nat.{dvd-mul_left, dvd-mul_right, dvd-zero, le_of_dvd, mul-div_cancel', mul-le-mul_left}
use native.Mathlib.Nat.{le_of_mul-le-mul_right, zero-lt-suc}
use Rattle.rational.specs.Euclid.{divides_other}
use Rattle.rational.specs.Rational.{ℚ, den, ◌+ℚ◌, ◌-ℚ◌, ◌*ℚ◌, ◌/ℚ◌, neg_ℚ, ◌≤ℚ◌, int, frac}
use Rattle.rational.specs.Fractions.{frac_self, frac-same}
use Rattle.rational.specs.Fractions.{frac-same_out, abs-mul}
use Rattle.rational.specs.Floor.{floor}
use Rattle.rational.proofs.Floor.{floor_le, floor_near}
use Rattle.rational.specs.Rational.{both}
use Rattle.rational.proofs.Parts.{neg-abs}
use Rattle.rational.specs.Grid.{Whole, Within}
use Rattle.rational.proofs.Over.{add_over, neg_over, mul_frac}
use Rattle.rational.proofs.Integers.{mul_whole, nat_nonneg, nat_le_out}
use Rattle.rational.proofs.Laws.{add_mul, sub_mul, mul_assoc, mul_comm as mul_comm_q, mul_neg, neg_mul, mul_add}
use Rattle.rational.proofs.Laws.{mul_sub, mul_nonneg, mul_le_mul_right, div_mul, le_trans}
use Rattle.rational.proofs.Linear.{with1, with2, with3, with4}
use Rattle.rational.specs.MinMax.{max_q}
use Rattle.rational.proofs.MinMax.{max_q_one}

-- ---- on a grid
-- a whole number stands on every grid
pub whole_int : (d : ℕ) (z : ℤ) → Whole d (int z)
whole_int d z = record { steps = z *ℤ pos d; is = mul_whole z (pos d) 0 }

-- a fraction stands on the grid of its denominator
pub whole_frac : (a : ℤ) (d : ℕ) → Whole (suc d) (frac a d)
whole_frac a d = record {
  steps = a;
  is = mul_comm_q (frac a d) (int (pos (suc d))) ∙ mul_whole (pos (suc d)) a d ∙ frac-same _ _ _ _ (omega (arith, ints));
}

pub whole_den : (q : ℚ) → Whole (den q) q
whole_den q = subst (λ x. Whole (den q) x) (sym (frac_self q)) (whole_frac q.num q.pre)

-- the numerator over d of a number on the grid
whole_cross : (d : ℕ) (q : ℚ) (w : Whole d q) → q.num *ℤ pos d ≡ w.steps *ℤ pos (den q)
whole_cross d q w =
    let e : frac (q.num *ℤ pos d) (both q.pre 0) ≡ frac w.steps 0 = sym (ap (λ x. x *ℚ int (pos d)) (frac_self q) ∙ mul_frac q.num q.pre (pos d) 0) ∙ w.is in
    over_one (q.num *ℤ pos d) w.steps q.pre (frac-same_out _ _ _ _ e)
  where
    over_one : (a z : ℤ) (p : ℕ) → a *ℤ pos 1 ≡ z *ℤ pos (suc (both p 0)) → a ≡ z *ℤ pos (suc p)
    over_one a z p e = omega (arith, ints, e)

-- it is so exactly where the denominator divides d
pub whole_divides : (d : ℕ) (q : ℚ) → Whole d q → den q ∣ d
whole_divides d q w = go d (ap nat_abs (whole_cross d q w))
  where
    go : (d : ℕ) → nat_abs (q.num *ℤ pos d) ≡ nat_abs (w.steps *ℤ pos (den q)) → den q ∣ d
    go zero e = dvd-zero (den q)
    go (suc d) e =
        divides_other (nat_abs q.num) (den q) (suc d) (zero-lt-suc d) q.lowest
        (subst (λ n. den q ∣ n) (sym (sym (abs-mul q.num (suc d)) ∙ e ∙ abs-mul w.steps (den q))) (dvd-mul_left (den q) (nat_abs w.steps)))

-- and stays so on a finer grid
pub whole_weaken : (d e : ℕ) (q : ℚ) → d ∣ e → Whole d q → Whole e q
whole_weaken d e q h w =
    let k = e / d in
    let is : d * k ≡ e = mul-div_cancel' d h in
    record {
      steps = w.steps *ℤ pos k;
      is = ap (λ n. q *ℚ int (pos n)) (sym is) ∙ ap (λ x. q *ℚ x) (sym (mul_whole (pos d) (pos k) 0)) ∙ sym (mul_assoc q (int (pos d)) (int (pos k)))
          ∙ ap (λ x. x *ℚ int (pos k)) w.is ∙ mul_whole w.steps (pos k) 0;
    }

pub whole_from_divides : (d : ℕ) (q : ℚ) → den q ∣ d → Whole d q
whole_from_divides d q h = whole_weaken (den q) d q h (whole_den q)

-- two grids have a common one
pub whole_both : (d e : ℕ) (q : ℚ) → Whole d q → Whole (d * e) q
whole_both d e q w = whole_weaken d (d * e) q (dvd-mul_right d e) w

-- ---- sums and products
pub steps_add : (d : ℕ) (a b : ℚ) (v : Whole d a) (w : Whole d b) → (a +ℚ b) *ℚ int (pos d) ≡ int (v.steps +ℤ w.steps)
steps_add d a b v w = add_mul a b (int (pos d)) ∙ ap₂ (λ (x y : ℚ). x +ℚ y) v.is w.is ∙ add_over v.steps w.steps 0

pub whole_add : (d : ℕ) (a b : ℚ) → Whole d a → Whole d b → Whole d (a +ℚ b)
whole_add d a b v w = record { steps = v.steps +ℤ w.steps; is = steps_add d a b v w }

pub whole_neg : (d : ℕ) (a : ℚ) → Whole d a → Whole d (neg_ℚ a)
whole_neg d a w = record {
  steps = neg_ℤ w.steps;
  is = neg_mul a (int (pos d)) ∙ ap neg_ℚ w.is ∙ neg_over w.steps 0;
}

pub whole_sub : (d : ℕ) (a b : ℚ) → Whole d a → Whole d b → Whole d (a -ℚ b)
unfolding ◌-ℚ◌
whole_sub d a b v w = whole_add d a (neg_ℚ b) v (whole_neg d b w)

pub whole_mul : (d e : ℕ) (a b : ℚ) → Whole d a → Whole e b → Whole (d * e) (a *ℚ b)
whole_mul d e a b v w = record {
  steps = v.steps *ℤ w.steps;
  is = ap (λ x. (a *ℚ b) *ℚ x) (sym (mul_whole (pos d) (pos e) 0)) ∙ regroup a b (int (pos d)) (int (pos e)) ∙ ap₂ (λ (x y : ℚ). x *ℚ y) v.is w.is
      ∙ mul_whole v.steps w.steps 0;
}
  where
    regroup : (a b d e : ℚ) → (a *ℚ b) *ℚ (d *ℚ e) ≡ (a *ℚ d) *ℚ (b *ℚ e)
    regroup a b d e =
        mul_assoc a b (d *ℚ e) ∙ ap (λ x. a *ℚ x) (sym (mul_assoc b d e) ∙ ap (λ x. x *ℚ e) (mul_comm_q b d) ∙ mul_assoc d b e) ∙ sym (mul_assoc a d (b *ℚ e))

-- a whole number of times
pub whole_times : (d : ℕ) (z : ℤ) (a : ℚ) → Whole d a → Whole d (int z *ℚ a)
whole_times d z a w = record {
  steps = z *ℤ w.steps;
  is = mul_assoc (int z) a (int (pos d)) ∙ ap (λ x. int z *ℚ x) w.is ∙ mul_whole z w.steps 0;
}

-- ---- a quotient of two numbers on one grid: the grid falls out
pub whole_ratio : (d : ℕ) (a b : ℚ) (v : Whole d a) (w : Whole d b) → b ≢ int (pos 0)
    → (a /ℚ b) *ℚ int w.steps ≡ int v.steps
whole_ratio d a b v w h =
    ap (λ x. (a /ℚ b) *ℚ x) (sym w.is) ∙ sym (mul_assoc (a /ℚ b) b (int (pos d))) ∙ ap (λ x. x *ℚ int (pos d)) (div_mul a b h) ∙ v.is

-- for the steps p of a and r of b: a / b stands on the grid of r's size, and p's size bounds its numerator
pub record Quotient (q : ℚ) (p r : ℤ) : Type 0 where
  pub whole : Whole (nat_abs r) q
  pub size : nat_abs whole.steps ≡ nat_abs p

pub whole_div : (d : ℕ) (a b : ℚ) (v : Whole d a) (w : Whole d b) → b ≢ int (pos 0) → Quotient (a /ℚ b) v.steps w.steps
whole_div d a b v w h = by_sign w.steps (whole_ratio d a b v w h)
  where
    by_sign : (r : ℤ) → (a /ℚ b) *ℚ int r ≡ int v.steps → Quotient (a /ℚ b) v.steps r
    by_sign (pos n) e = record { whole = record { steps = v.steps; is = e }; size = refl }
    by_sign (negsuc n) e = record {
      whole = record { steps = neg_ℤ v.steps; is = turn (a /ℚ b) n v.steps e };
      size = neg-abs v.steps;
    }
      where
        turn : (q : ℚ) (n : ℕ) (p : ℤ) → q *ℚ int (negsuc n) ≡ int p → q *ℚ int (pos (suc n)) ≡ int (neg_ℤ p)
        turn q n p e =
            ap (λ x. q *ℚ x) (sym (neg_over (negsuc n) 0)) ∙ mul_neg q (int (negsuc n)) ∙ ap neg_ℚ e ∙ neg_over p 0

-- ---- within a bound
pub within_some : (v q : ℚ) → Within v q → int (pos 0) ≤ℚ v
within_some v q w = with2 v q (λ c. omega (arith, c.le, c.lt, c.same))

pub within_weaken : (v w q : ℚ) → v ≤ℚ w → Within v q → Within w q
within_weaken v w q h i = record {
  low = with3 v w q (λ c. omega (arith, c.le, c.lt, c.same));
  high = with3 v w q (λ c. omega (arith, c.le, c.lt, c.same));
}

-- a number that is not below 0 is within a bound that it does not pass
pub within_nonneg : (v q : ℚ) → int (pos 0) ≤ℚ q → q ≤ℚ v → Within v q
within_nonneg v q h k = record { low = with2 v q (λ c. omega (arith, c.le, c.lt, c.same)); high = k }

pub within_neg : (v q : ℚ) → Within v q → Within v (neg_ℚ q)
within_neg v q w = record {
  low = with2 v q (λ c. omega (arith, c.le, c.lt, c.same));
  high = with2 v q (λ c. omega (arith, c.le, c.lt, c.same));
}

pub within_add : (v w a b : ℚ) → Within v a → Within w b → Within (v +ℚ w) (a +ℚ b)
within_add v w a b i j = record {
  low = with4 v w a b (λ c. omega (arith, c.le, c.lt, c.same));
  high = with4 v w a b (λ c. omega (arith, c.le, c.lt, c.same));
}

pub within_sub : (v w a b : ℚ) → Within v a → Within w b → Within (v +ℚ w) (a -ℚ b)
within_sub v w a b i j = record {
  low = with4 v w a b (λ c. omega (arith, c.le, c.lt, c.same));
  high = with4 v w a b (λ c. omega (arith, c.le, c.lt, c.same));
}

-- (v + a) (w - b) and (v - a) (w + b) are not below 0, and neither are (v - a) (w - b) and (v + a) (w + b)
pub within_mul : (v w a b : ℚ) → Within v a → Within w b → Within (v *ℚ w) (a *ℚ b)
within_mul v w a b i j =
    let va : int (pos 0) ≤ℚ v -ℚ a = with2 v a (λ c. omega (arith, c.le, c.lt, c.same)) in
    let va' : int (pos 0) ≤ℚ v +ℚ a = with2 v a (λ c. omega (arith, c.le, c.lt, c.same)) in
    let wb : int (pos 0) ≤ℚ w -ℚ b = with2 w b (λ c. omega (arith, c.le, c.lt, c.same)) in
    let wb' : int (pos 0) ≤ℚ w +ℚ b = with2 w b (λ c. omega (arith, c.le, c.lt, c.same)) in
    let m1 = simp (mul_sub, add_mul) at (mul_nonneg va' wb) in
    let m2 = simp (mul_add, sub_mul) at (mul_nonneg va wb') in
    let m3 = simp (mul_sub, sub_mul) at (mul_nonneg va wb) in
    let m4 = simp (mul_add, add_mul) at (mul_nonneg va' wb') in
    record {
      low = with4 (v *ℚ w) (a *ℚ w) (v *ℚ b) (a *ℚ b) (λ c. omega (arith, c.le, c.lt, c.same));
      high = with4 (v *ℚ w) (a *ℚ w) (v *ℚ b) (a *ℚ b) (λ c. omega (arith, c.le, c.lt, c.same));
    }

-- ---- the parts of a number on a grid
pub den_bound : (d : ℕ) (q : ℚ) → 0 < d → Whole d q → den q ≤ d
den_bound d q some w = le_of_dvd some (whole_divides d q w)

pub num_bound : (d : ℕ) (q : ℚ) → 0 < d → (w : Whole d q) → nat_abs q.num ≤ nat_abs w.steps
num_bound d q some w =
    let e : nat_abs q.num * d ≡ nat_abs w.steps * den q = sym (abs-mul q.num d) ∙ ap nat_abs (whole_cross d q w) ∙ abs-mul w.steps (den q) in
    let l : nat_abs w.steps * den q ≤ nat_abs w.steps * d = mul-le-mul_left (nat_abs w.steps) (den_bound d q some w) in
    le_of_mul-le-mul_right (subst (λ n. n ≤ nat_abs w.steps * d) (sym e) l) some

-- the steps of a number within v are at most v d
pub steps_bound : (d : ℕ) (v q : ℚ) (w : Whole d q) → Within v q → int (pos (nat_abs w.steps)) ≤ℚ v *ℚ int (pos d)
steps_bound d v q w i =
    let some = nat_nonneg d in
    let high = subst (λ x. x ≤ℚ v *ℚ int (pos d)) w.is (mul_le_mul_right (int (pos d)) some i.high) in
    let low = subst (λ x. neg_ℚ v *ℚ int (pos d) ≤ℚ x) w.is (mul_le_mul_right (int (pos d)) some i.low) in
    let e = neg_mul v (int (pos d)) in
    by_sign w.steps (v *ℚ int (pos d)) (subst (λ x. x ≤ℚ int w.steps) e low) high
  where
    by_sign : (z : ℤ) (m : ℚ) → neg_ℚ m ≤ℚ int z → int z ≤ℚ m → int (pos (nat_abs z)) ≤ℚ m
    by_sign (pos n) m l h = h
    by_sign (negsuc n) m l h = with1 m (λ c. omega (arith, c.le, c.lt, c.same))

-- a whole number that bounds v d bounds the numerator
pub num_within : (d : ℕ) (v q : ℚ) (n : ℕ) → 0 < d → Whole d q → Within v q → v *ℚ int (pos d) ≤ℚ int (pos n)
    → nat_abs q.num ≤ n
num_within d v q n some w i h =
    let l = num_bound d q some w in
    let s = nat_le_out (nat_abs w.steps) n (le_trans (steps_bound d v q w i) h) in
    omega (arith, ints)

-- rounding down goes at most 1 further
pub within_floor : (v q : ℚ) → Within v q → Within (v +ℚ int (pos 1)) (int (floor q))
within_floor v q w =
    let f = int (floor q) in
    let under = floor_le q in
    let near = floor_near q in
    record {
      low = with3 v q f (λ c. omega (arith, c.le, c.lt, c.same));
      high = with3 v q f (λ c. omega (arith, c.le, c.lt, c.same));
    }

pub max_whole : (d : ℕ) (a b : ℚ) → Whole d a → Whole d b → Whole d (max_q a b)
max_whole d a b wa wb = elim (max_q_one a b) [
  | inl e ↦ subst (Whole d) (sym e) wa
  | inr e ↦ subst (Whole d) (sym e) wb
]
