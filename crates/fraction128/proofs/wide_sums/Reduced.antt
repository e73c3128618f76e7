-- What a factor has in common with a number is taken out of both.
use Rattle.std.proofs.Common.{◌≡◌, ℕ, zero, suc, ◌+◌, ◌*◌, ◌/◌, ◌%◌, ◌-◌, ◌^◌, ◌<◌, ◌≤◌, List, [], ◌∷◌, ◌++◌, length, get_or, take, refl, sym, ap, ◌∙◌, subst, arith}
use Rattle.std.specs.Prelude.{min}
use Rattle.std.specs.List.{AllByRecursion}
use Rattle.std.proofs.lemmas.List.{take_more}
use Rattle.std.proofs.Math.Nat.{mul-add-mod_self_left}
use Prim.Native.Nat.{◌∣◌}
use Rattle.std.proofs.Math.Nat.{mod-eq_of_lt}
use Rattle.std.proofs.lemmas.Nat.Gcd.{mod-eq-zero_of_dvd, le_of_dvd}
use native.Mathlib.Nat.{mul-div_cancel', dvd_refl, eq_of_mul-eq-mul_right, div-le_self, pos_of_dvd_of_pos}
use Rattle.rational.specs.Gcd.{gcd}
use Rattle.rational.specs.Gauge.{Kept}
use Rattle.rational.specs.Euclid.{gcd_is, gcd_pos, gcd-mod, lowest_after}
use Rattle.rational.proofs.Gauges.{kept_times, kept_one, cap_small}
use Rattle.rational.proofs.Multiples.{share_pos}
use Rattle.fraction128.proofs.Coprime.{gcd_comm, gcd_one, coprime_parts, coprime_mul, part_divides}
use Rattle.fraction128.specs.wide_sums.Factors.{IsFactor, product, IsReduced}

-- ---- factors
pub factor_at : (fs : List ℕ) (i : ℕ) → AllByRecursion IsFactor fs → i < length fs → IsFactor (get_or fs i 0)
factor_at [] i all h = absurd (omega (arith, h))
factor_at (f ∷ fs) zero all h = all.0
factor_at (f ∷ fs) (suc i) all h = factor_at fs i all.1 (omega (arith, h))

pub product_end : (fs : List ℕ) (f : ℕ) → product (fs ++ f ∷ []) ≡ product fs * f
product_end [] f = omega arith
product_end (x ∷ xs) f = let h = product_end xs f in rw h (omega arith)

pub factors_end : (fs : List ℕ) (f : ℕ) → AllByRecursion IsFactor fs → IsFactor f → AllByRecursion IsFactor (fs ++ f ∷ [])
factors_end [] f all own = (own, tt)
factors_end (x ∷ xs) f all own = (all.0, factors_end xs f all.1 own)

pub product_more : (fs : List ℕ) (i : ℕ) → i < length fs → product (take (i + 1) fs) ≡ product (take i fs) * get_or fs i 0
product_more fs i h = ap product (take_more fs i 0 h) ∙ product_end (take i fs) (get_or fs i 0)

pub product_pos : (fs : List ℕ) → AllByRecursion IsFactor fs → 0 < product fs
product_pos [] all = omega arith
product_pos (f ∷ fs) all = let a = product_pos fs all.1 in let b = all.0.0 in both f (product fs) b a
  where
    both : (m n : ℕ) → 0 < m → 0 < n → 0 < m * n
    both zero n a b = absurd (omega (arith, a))
    both (suc m) n a b = omega (arith, b)

-- ---- divisions
-- what is left of a number by a factor has the same divisors in common with it
pub common_of_rest : (t f q r : ℕ) → t ≡ f * q + r → gcd r f ≡ gcd t f
common_of_rest t f q r e =
    let same : t % f ≡ r % f = ap (λ n. n % f) e ∙ mul-add-mod_self_left f q r in
    gcd_comm_mod r ∙ ap (gcd f) (sym same) ∙ gcd-mod t f
  where
    gcd_comm_mod : (n : ℕ) → gcd n f ≡ gcd f (n % f)
    gcd_comm_mod n = sym (gcd-mod n f)

-- a division by a divisor leaves nothing
exact : (t g q r : ℕ) → 0 < g → g ∣ t → t ≡ g * q + r → r < g → t / g ≡ q
exact t g q r some whole e less =
    let none : r ≡ 0 = sym (mod-eq_of_lt less) ∙ sym (mul-add-mod_self_left g q r) ∙ ap (λ n. n % g) (sym e) ∙ mod-eq-zero_of_dvd g whole in
    let is : g * (t / g) ≡ t = mul-div_cancel' g whole in
    eq_of_mul-eq-mul_right g some (t / g) q (omega (arith, is, e, none))

-- ---- a step
pub reduced_none : (n : ℕ) → IsReduced n 1 n 1
reduced_none n = record { bottom = 1; kept = kept_one; same = refl; lowest = gcd_one n }

pub reduced_more : (n p t b f q r g u v c : ℕ) → IsReduced n p t b → IsFactor f → t ≡ f * q + r → g ≡ gcd r f → t ≡ g * u + v → v < g → c ≡ min (b * (f / g)) (2 ^ 128 - 1)
    → IsReduced n (p * f) u c
reduced_more n p t b f q r g u v c before factor divided common again less is =
    let g_is : g ≡ gcd t f = common ∙ common_of_rest t f q r divided in
    let both = gcd_is t f in
    let some : 0 < g = subst (λ k. 0 < k) (sym g_is) (gcd_pos t f factor.0) in
    let in_t : g ∣ t = subst (λ k. k ∣ t) (sym g_is) both.0 in
    let in_f : g ∣ f = subst (λ k. k ∣ f) (sym g_is) both.1 in
    let own : t / g ≡ u = exact t g u v some in_t again less in
    let share = f / g in
    let back : g * share ≡ f = mul-div_cancel' g in_f in
    let whole : g * u ≡ t = ap (λ k. g * k) (sym own) ∙ mul-div_cancel' g in_t in
    let d = before.bottom in
    let pos_share : 0 < share = subst (λ k. 0 < f / k) (gcd_comm f t ∙ sym g_is) (share_pos f t factor.0) in
    let small : share ≤ f = div-le_self f g in
    let less_f = factor.1 in
    let one = ap (λ k. k * share) before.same in
    let two = ap (λ k. k * (p * share)) whole in
    let three = ap (λ k. u * p * k) back in
    let left = subst (λ k. gcd k (f / gcd t f) ≡ 1) (ap (λ k. t / k) (sym g_is) ∙ own) (lowest_after t f factor.0) in
    record {
      bottom = d * share;
      kept = subst (λ k. Kept k (d * share)) (sym is)
          (kept_times b share d share before.kept record { is = sym (cap_small share (omega (arith, small, less_f))); some = pos_share });
      same = omega (arith, one, two, three);
      lowest = coprime_mul u d share
          (coprime_parts t d u d before.lowest (part_divides t u g (omega (arith, whole))) (dvd_refl d))
          (subst (λ k. gcd u (f / k) ≡ 1) (sym g_is) left);
    }

-- the divisors are ones
pub common_fits : (f r g : ℕ) → IsFactor f → g ≡ gcd r f → IsFactor g
common_fits f r g factor is =
    let whole : g ∣ f = subst (λ k. k ∣ f) (sym is) (gcd_is r f).1 in
    let most = le_of_dvd factor.0 whole in
    let less = factor.1 in
    (pos_of_dvd_of_pos whole factor.0, omega (arith, most, less))
