-- A time and a period on their common grid, and the quotient and the rest of the two there.
use Rattle.std.specs.Prelude.{◌≡◌, ◌≢◌, ℕ, zero, suc, ◌+◌, ◌*◌, ◌/◌, ◌%◌, ◌<◌, ◌≤◌, ◌^◌, ℤ, pos, ◌*ℤ◌, nat_abs}
use Rattle.std.proofs.Common.{arith, sym, ap, ap₂, ◌∙◌, refl, subst}
use Prim.Native.Nat.{◌∣◌}
use Rattle.std.proofs.Math.Nat.{div-mul_cancel, div-add-mod, mod-lt}
use Rattle.rational.specs.Rational.{ℚ, den, int, ◌+ℚ◌, ◌-ℚ◌, ◌*ℚ◌, ◌/ℚ◌, ◌≤ℚ◌, ◌<ℚ◌}
use Rattle.rational.specs.Fractions.{frac_self}
use Rattle.rational.specs.Ratio.{ratio}
use Rattle.rational.specs.Gauge.{lcm}
use Rattle.rational.specs.Whole.{whole_part}
use Rattle.rational.proofs.Linear.{with3}
use Rattle.rational.proofs.Laws.{num_nonneg, mul_pos, mul_assoc, div_mul, not_zero, mul_cancel, le_of_mul, lt_of_mul, le_of_lt, sub_mul, add_mul, nonneg_int}
use Rattle.rational.proofs.Integers.{int_mul, int_add, nat_le, nat_lt, nat_lt_out}
use Rattle.rational.proofs.Quotients.{frac_is_div}
use Rattle.rational.proofs.Multiples.{lcm_left, lcm_right, lcm_pos}
use Rattle.rational.proofs.Gauges.{den_pos}
use Rattle.min_plus.specs.Functions.{zero_q}
use Rattle.upp_curve.proofs.StairValues.{whole_ratio}
use Rattle.curve_library.specs.Shares.{IsQuotient, SharesFit, AreShares}

nat_some : (n : ℕ) → 0 < n → zero_q <ℚ int (pos n)
nat_some n h = nat_lt 0 n h

pub frac_times : (a : ℤ) (n : ℕ) → 0 < n → ratio a (pos n) *ℚ int (pos n) ≡ int a
frac_times a zero h = absurd (omega (arith, h))
frac_times a (suc d) h = ap (λ x. x *ℚ int (pos (suc d))) (frac_is_div a d) ∙ div_mul (int a) (int (pos (suc d))) (not_zero (int (pos (suc d))) (nat_some (suc d) h))

times_den : (q : ℚ) → q *ℚ int (pos (den q)) ≡ int q.num
times_den q = ap (λ x. x *ℚ int (pos (den q))) (frac_self q) ∙ frac_times q.num (den q) (den_pos q)

on_multiple : (q : ℚ) (k g : ℕ) → k * den q ≡ g → q *ℚ int (pos g) ≡ int (q.num *ℤ pos k)
on_multiple q k g e =
    let swapped : den q * k ≡ g = omega (arith, e) in
    ap (λ n. q *ℚ int (pos n)) (sym swapped) ∙ ap (λ x. q *ℚ x) (sym (int_mul (pos (den q)) (pos k))) ∙ sym (mul_assoc q (int (pos (den q))) (int (pos k)))
    ∙ ap (λ x. x *ℚ int (pos k)) (times_den q) ∙ int_mul q.num (pos k)

-- a number from 0 on, in steps of 1 / g
pub steps_on : (q : ℚ) (g : ℕ) → zero_q ≤ℚ q → den q ∣ g → q *ℚ int (pos g) ≡ int (pos (nat_abs q.num * (g / den q)))
steps_on q g h d = on_multiple q (g / den q) g (div-mul_cancel (den q) d) ∙ ap (λ z. int (z *ℤ pos (g / den q))) (nonneg_int q.num (num_nonneg q h))

-- ---- a time and a period on one grid
pub record OnOneGrid (J P : ℚ) (g A B : ℕ) : Type 0 where
  pub grid : 0 < g
  pub time : J *ℚ int (pos g) ≡ int (pos A)
  pub period : P *ℚ int (pos g) ≡ int (pos B)

pub on_one_grid : (J P : ℚ) (g A B : ℕ) → zero_q ≤ℚ J → zero_q <ℚ P → g ≡ lcm (den J) (den P) → A ≡ nat_abs J.num * (g / den J) → B ≡ nat_abs P.num * (g / den P) → OnOneGrid J P g A B
on_one_grid J P g A B h k e a b = record {
  grid = subst (λ n. 0 < n) (sym e) (lcm_pos (den J) (den P) (den_pos J) (den_pos P));
  time = steps_on J g h (subst (λ n. den J ∣ n) (sym e) (lcm_left (den J) (den P))) ∙ ap (λ n. int (pos n)) (sym a);
  period = steps_on P g (le_of_lt k) (subst (λ n. den P ∣ n) (sym e) (lcm_right (den J) (den P))) ∙ ap (λ n. int (pos n)) (sym b);
}

pub period_some : (J P : ℚ) (g A B : ℕ) → zero_q <ℚ P → OnOneGrid J P g A B → 0 < B
period_some J P g A B k G = nat_lt_out 0 B (subst (λ x. zero_q <ℚ x) G.period (mul_pos k (nat_some g G.grid)))

-- so many periods on the grid
periods_on : (J P : ℚ) (g A B n : ℕ) → OnOneGrid J P g A B → (int (pos n) *ℚ P) *ℚ int (pos g) ≡ int (pos (n * B))
periods_on J P g A B n G = mul_assoc (int (pos n)) P (int (pos g)) ∙ ap (λ x. int (pos n) *ℚ x) G.period ∙ int_mul (pos n) (pos B)

split : (n B r A : ℕ) → n * B + r ≡ A → int (pos A) ≡ int (pos (n * B)) +ℚ int (pos r)
split n B r A e = ap (λ m. int (pos m)) (sym e) ∙ sym (int_add (pos (n * B)) (pos r))

pub count_is : (J P : ℚ) (g A B n r : ℕ) → zero_q <ℚ P → OnOneGrid J P g A B → n * B + r ≡ A → r < B → whole_part (J /ℚ P) ≡ n
count_is J P g A B n r some G e l =
    let m = int (pos n) *ℚ P in
    let u = int (pos g) in
    let p = periods_on J P g A B n G in
    let t = split n B r A e in
    let y = int (pos (n * B)) in
    let z = int (pos r) in
    let low : y ≤ℚ int (pos A) = nat_le (n * B) A (omega (arith, e)) in
    let high : int (pos A) <ℚ y +ℚ int (pos B) = subst (λ x. x <ℚ y +ℚ int (pos B)) (sym t) (let k = nat_lt r B l in with3 y z (int (pos B)) (λ c. omega (arith, c.le, c.lt, c.same))) in
    whole_ratio P J n some
    (le_of_mul u m J (nat_some g G.grid) (subst (λ x. x ≤ℚ J *ℚ u) (sym p) (subst (λ x. y ≤ℚ x) (sym G.time) low)))
    (lt_of_mul u J (m +ℚ P) (nat_some g G.grid)
    (subst (λ x. x <ℚ (m +ℚ P) *ℚ u) (sym G.time) (subst (λ x. int (pos A) <ℚ x) (sym (add_mul m P u ∙ ap (λ x. x +ℚ P *ℚ u) p ∙ ap (λ x. y +ℚ x) G.period)) high)))

pub rest_is : (J P x : ℚ) (g A B n r : ℕ) → OnOneGrid J P g A B → n * B + r ≡ A → x *ℚ int (pos g) ≡ int (pos r) → x ≡ J -ℚ int (pos n) *ℚ P
rest_is J P x g A B n r G e k =
    let m = int (pos n) *ℚ P in
    let u = int (pos g) in
    let y = int (pos (n * B)) in
    let t = split n B r A e in
    mul_cancel x (J -ℚ m) u (not_zero u (nat_some g G.grid))
    (k ∙ taken (int (pos A)) y (int (pos r)) t ∙ sym (sub_mul J m u ∙ ap (λ z. z -ℚ m *ℚ u) G.time ∙ ap (λ z. int (pos A) -ℚ z) (periods_on J P g A B n G)))
  where
    taken : (a y r : ℚ) → a ≡ y +ℚ r → r ≡ a -ℚ y
    taken a y r e = with3 a y r (λ c. omega (arith, c.le, c.lt, c.same, e))

-- ---- what the code finds
pub shares_are : (J P x : ℚ) (g B n r : ℕ) → zero_q ≤ℚ J → zero_q <ℚ P → g ≡ lcm (den J) (den P) → B ≡ nat_abs P.num * (g / den P) → g < 2 ^ 127 → B < 2 ^ 127
    → IsQuotient (nat_abs J.num * (g / den J)) B (n, r) → x *ℚ int (pos g) ≡ int (pos r) → AreShares J P record { count = n; rest = x }
shares_are J P x g B n r h k e b fits_g fits_b Q f =
    let A = nat_abs J.num * (g / den J) in
    let G = on_one_grid J P g A B h k e refl b in
    let c = count_is J P g A B n r k G Q.is Q.below in
    record {
      count = sym c;
      rest = rest_is J P x g A B n r G Q.is f ∙ ap (λ m. J -ℚ int (pos m) *ℚ P) (sym c);
      fits = record {
        grid = subst (λ m. m < 2 ^ 127) e fits_g;
        step = subst (λ m. nat_abs P.num * (m / den P) < 2 ^ 127) e (subst (λ m. m < 2 ^ 127) b fits_b);
        count = subst (λ m. m < 2 ^ 127) (sym c) Q.size;
      };
    }

pub count_far : (J P : ℚ) (g B : ℕ) → zero_q ≤ℚ J → zero_q <ℚ P → g ≡ lcm (den J) (den P) → B ≡ nat_abs P.num * (g / den P) → 2 ^ 127 ≤ nat_abs J.num * (g / den J) / B → SharesFit J P → ⊥
count_far J P g B h k e b far F =
    let A = nat_abs J.num * (g / den J) in
    let G = on_one_grid J P g A B h k e refl b in
    let some = period_some J P g A B k G in
    let q = div-add-mod A B in
    let c = count_is J P g A B (A / B) (A % B) k G (omega (arith, q)) (mod-lt A some) in
    let f = F.count in
    omega (arith, far, f, c)

pub step_some : (J P : ℚ) (g B : ℕ) → zero_q ≤ℚ J → zero_q <ℚ P → g ≡ lcm (den J) (den P) → B ≡ nat_abs P.num * (g / den P) → 0 < B
step_some J P g B h k e b = period_some J P g (nat_abs J.num * (g / den J)) B k (on_one_grid J P g (nat_abs J.num * (g / den J)) B h k e refl b)

pub grid_some : (x : ℚ) (g : ℕ) → x ≡ int (pos g) → 0 < g → x ≢ zero_q
grid_some x g e h k = not_zero (int (pos g)) (nat_some g h) (sym e ∙ k)

pub div_times : (x y z : ℚ) (n g : ℕ) → 0 < g → z ≡ x /ℚ y → x ≡ int (pos n) → y ≡ int (pos g) → z *ℚ int (pos g) ≡ int (pos n)
div_times x y z n g h e f k = ap (λ w. w *ℚ int (pos g)) (e ∙ ap₂ (λ (a b : ℚ). a /ℚ b) f k) ∙ div_mul (int (pos n)) (int (pos g)) (not_zero (int (pos g)) (nat_some g h))
