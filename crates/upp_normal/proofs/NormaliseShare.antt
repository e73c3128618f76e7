-- A share of a number: its size, and that it stands on a grid.
use Rattle.std.specs.Prelude.{◌≡◌, ℕ, zero, suc, ◌*◌, ◌<◌, ◌≤◌, ◌^◌, ◌%◌, ℤ, pos, ◌*ℤ◌, nat_abs, Result, Err, IsOk}
use Rattle.std.specs.Result.{is_ok}
use Rattle.std.proofs.Common.{arith, sym, ap, ◌∙◌, subst, true≢false}
use Prim.Native.Nat.{◌∣◌}
use native.Mathlib.Nat.{mod-eq-zero_of_dvd, dvd_of_mod-eq-zero}
use Rattle.rational.specs.Rational.{ℚ, ◌*ℚ◌, ◌/ℚ◌, int, frac, den, both}
use Rattle.rational.specs.Fractions.{frac_self, frac-same, frac_is, abs-mul}
use Rattle.rational.specs.Ints.{mul_assoc_z}
use Rattle.rational.specs.Ratio.{IsSmall}
use Rattle.rational.specs.Grid.{Whole}
use Rattle.rational.proofs.Grid.{den_bound, whole_divides, whole_int, whole_from_divides}
use Rattle.rational.proofs.Integers.{nat_lt}
use Rattle.rational.proofs.Laws.{mul_cancel, div_mul}
use Rattle.rational.proofs.Linear.{with1}
use Rattle.rational.proofs.Over.{mul_frac}
use Rattle.rational.proofs.Whole.{not_zero}

pub parts_some : (n : ℕ) → 0 < n → int (pos n) ≡ int (pos 0) → ⊥
parts_some n h = not_zero (int (pos n)) (nat_lt 0 n h)

-- ---- 0 shared
zero_of : (x : ℚ) → x.num ≡ pos 0 → x ≡ int (pos 0)
zero_of x e = frac_self x ∙ ap (λ z. frac z x.pre) e ∙ frac-same (pos 0) x.pre (pos 0) 0 (ap pos (omega arith))

pub zero_share : (x : ℚ) (n : ℕ) → 0 < n → x.num ≡ pos 0 → x ≡ x /ℚ int (pos n)
zero_share x n h e =
    let z : x ≡ int (pos 0) = zero_of x e in
    let o : int (pos 0) *ℚ int (pos n) ≡ int (pos 0) = with1 (int (pos n)) (λ c. omega (arith, c.le, c.lt, c.same)) in
    mul_cancel x (x /ℚ int (pos n)) (int (pos n)) (parts_some n h) (ap (λ y. y *ℚ int (pos n)) z ∙ o ∙ sym z ∙ sym (div_mul x (int (pos n)) (parts_some n h)))

-- ---- the size of a share
share_frac : (x : ℚ) (m : ℕ) → x /ℚ int (pos (suc m)) ≡ frac x.num (both x.pre m)
share_frac x m =
    let n = int (pos (suc m)) in
    let whole : frac x.num (both x.pre m) *ℚ n ≡ x =
    mul_frac x.num (both x.pre m) (pos (suc m)) 0
    ∙ frac-same (x.num *ℤ pos (suc m)) (both (both x.pre m) 0) x.num x.pre (cross x.num x.pre m)
    ∙ sym (frac_self x) in
    mul_cancel (x /ℚ n) (frac x.num (both x.pre m)) n (parts_some (suc m) (omega arith)) (div_mul x n (parts_some (suc m) (omega arith)) ∙ sym whole)
  where
    cross : (z : ℤ) (d m : ℕ) → (z *ℤ pos (suc m)) *ℤ pos (suc d) ≡ z *ℤ pos (suc (both (both d m) 0))
    cross z d m =
        let k : suc m * suc d ≡ suc (both (both d m) 0) = omega arith in
        mul_assoc_z z (pos (suc m)) (pos (suc d)) ∙ ap (λ n. z *ℤ pos n) k

less_top : (z w : ℤ) (k : ℕ) → z ≡ w *ℤ pos (suc k) → nat_abs w ≤ nat_abs z
less_top z w k e =
    let a : nat_abs z ≡ nat_abs w * suc k = ap nat_abs e ∙ abs-mul w (suc k) in
    omega (arith, a)

share_top : (x : ℚ) (n : ℕ) → 0 < n → nat_abs (x /ℚ int (pos n)).num ≤ nat_abs x.num
share_top x zero h = absurd (omega arith)
share_top x (suc m) h =
    let (k, top, bottom) = frac_is x.num (both x.pre m) in
    subst (λ q. nat_abs q.num ≤ nat_abs x.num) (sym (share_frac x m)) (less_top x.num (frac x.num (both x.pre m)).num k top)

pub share_small : (x : ℚ) (n g : ℕ) → 0 < n → 0 < g → g < 2 ^ 127 → nat_abs x.num < 2 ^ 127 → Whole g (x /ℚ int (pos n)) → IsSmall (x /ℚ int (pos n))
share_small x n g some grid small top W =
    let q = x /ℚ int (pos n) in
    let t = share_top x n some in
    let b : den q ≤ g = den_bound g q grid W in
    record { top = omega arith; bottom = omega arith }

pub not_on_grid : (q s : ℚ) (g d r : ℕ) → s ≡ q → d ≡ den s → g % d ≡ r → (r ≡ 0 → ⊥) → ¬ (Whole g q)
not_on_grid q s g d r same bottom rest n W =
    n (sym rest ∙ ap (λ m. g % m) bottom ∙ mod-eq-zero_of_dvd (den s) (subst (λ z. den z ∣ g) (sym same) (whole_divides g q W)))

-- a refusal is no value
pub not_ok : {A E : Type 0} (r : Result A E) (e : E) → r ≡ Err e → IsOk r → ⊥
not_ok r e is h = true≢false (sym h ∙ ap is_ok is)

pub zero_on_grid : (x : ℚ) (g : ℕ) → x.num ≡ pos 0 → Whole g x
zero_on_grid x g e = subst (Whole g) (sym (zero_of x e)) (whole_int g (pos 0))

pub on_grid : (q s : ℚ) (g d : ℕ) → s ≡ q → d ≡ den s → g % d ≡ 0 → (s ≡ q) × Whole g s
on_grid q s g d same bottom rest = (same, whole_from_divides g s (dvd_of_mod-eq-zero (den s) (ap (λ m. g % m) (sym bottom) ∙ rest)))
