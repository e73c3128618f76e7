-- A function's rules: one that holds later holds from where another does; periods are closed under difference and so have a common divisor.
use Rattle.std.specs.Prelude.{◌≡◌, ℕ, zero, suc, ◌+◌, ◌*◌, ◌/◌, ◌%◌, ◌<◌, ◌≤◌, ℤ, pos, negsuc, ◌*ℤ◌, ◌≤ℤ◌}
use Rattle.std.proofs.Common.{arith, sym, ap, ◌∙◌, refl, subst, inl, inr}
use Rattle.std.proofs.lemmas.Int.{ints}
use native.Mathlib.Nat.{div-add-mod', div-mul_cancel, le_of_dvd}
use Rattle.rational.specs.Gcd.{gcd, gcd_steps}
use Rattle.rational.specs.Euclid.{gcd_is}
use Rattle.rational.specs.Rational.{ℚ, ◌+ℚ◌, ◌-ℚ◌, ◌*ℚ◌, ◌/ℚ◌, ◌≤ℚ◌, ◌<ℚ◌, int, frac, both}
use Rattle.rational.specs.Fractions.{frac_self, frac-same}
use Rattle.rational.proofs.Over.{lt_frac}
use Rattle.rational.proofs.Over.{mul_frac, both_is, add_over, lt_over}
use Rattle.rational.proofs.Linear.{with1, with2, with3, with4}
use Rattle.rational.proofs.Laws.{antisym, add_comm, add_mul, mul_assoc, mul_comm, mul_cancel, div_mul, le_or_lt, le_of_lt, num_nonneg, mul_nonneg}
use Rattle.rational.specs.Extended.{Ext, ◌+ₑ◌}
use Rattle.rational.specs.declared.Extended.TheVariants.{Fin, Inf}
use Rattle.upp_curve.specs.Steady.{Repeats}
use Rattle.rational.proofs.ExtendedOrder.{add_assoc_ext, add_cancel_ext, fin_same}
use Rattle.rational.proofs.Whole.{not_zero, lt_of_mul, nat_nonneg}
use Rattle.upp_curve.proofs.Repeats.{repeats_times}
use Rattle.min_plus.proofs.Rates.{enough}
use Rattle.rational.proofs.Integers.{nat_lt_out}

pub swap_ext : (x : Ext) (a b : ℚ) → (x +ₑ Fin a) +ₑ Fin b ≡ (x +ₑ Fin b) +ₑ Fin a
swap_ext x a b = add_assoc_ext x a b ∙ ap (λ y. x +ₑ Fin y) (add_comm a b) ∙ sym (add_assoc_ext x b a)

-- a rule that holds from s on holds from r on, where another does
pub rule_extends : (f : ℚ → Ext) (r d c s p q : ℚ) → Repeats f r d c → Repeats f s p q → int (pos 0) <ℚ d → int (pos 0) ≤ℚ p → Repeats f r p q
rule_extends f r d c s p q D P some p_some = record {
  rule = λ t h.
      let (n, l) = enough t s d some in
      by_n t n h l;
}
  where
    by_n : (t : ℚ) (n : ℕ) → r ≤ℚ t → s ≤ℚ t +ℚ int (pos n) *ℚ d → f (t +ℚ p) ≡ f t +ₑ Fin q
    by_n t n h l =
        let T = repeats_times f r d c n (le_of_lt some) D in
        let late : r ≤ℚ t +ℚ p = with3 r t p (λ c. omega (arith, c.le, c.lt, c.same)) in
        let a = T.rule (t +ℚ p) late in
        let b = P.rule (t +ℚ int (pos n) *ℚ d) l in
        let e = T.rule t h in
        let same : (t +ℚ p) +ℚ int (pos n) *ℚ d ≡ (t +ℚ int (pos n) *ℚ d) +ℚ p = with3 t p (int (pos n) *ℚ d) (λ c. omega (arith, c.le, c.lt, c.same)) in
        add_cancel_ext (f (t +ℚ p)) (f t +ₑ Fin q) (int (pos n) *ℚ c)
        (sym a ∙ ap f same ∙ b ∙ ap (λ v. v +ₑ Fin q) e ∙ swap_ext (f t) (int (pos n) *ℚ c) q)

-- the difference of two periods is one
pub repeats_less : (f : ℚ → Ext) (r x a y b : ℚ) → Repeats f r x a → Repeats f r y b → y ≤ℚ x → Repeats f r (x -ℚ y) (a -ℚ b)
repeats_less f r x a y b X Y h = record {
  rule = λ t l.
      let late : r ≤ℚ t +ℚ (x -ℚ y) = with4 r t x y (λ c. omega (arith, c.le, c.lt, c.same)) in
      let same : (t +ℚ (x -ℚ y)) +ℚ y ≡ t +ℚ x = with3 t x y (λ c. omega (arith, c.le, c.lt, c.same)) in
      let back : (a -ℚ b) +ℚ b ≡ a = with2 a b (λ c. omega (arith, c.le, c.lt, c.same)) in
      add_cancel_ext (f (t +ℚ (x -ℚ y))) (f t +ₑ Fin (a -ℚ b)) b
      (sym (Y.rule (t +ℚ (x -ℚ y)) late) ∙ ap f same ∙ X.rule t l ∙ sym (add_assoc_ext (f t) (a -ℚ b) b ∙ ap (λ z. f t +ₑ Fin z) back));
}

-- whole numbers
pub int_add : (a b : ℕ) → int (pos (a + b)) ≡ int (pos a) +ℚ int (pos b)
int_add a b = sym (add_over (pos a) (pos b) 0)

pub int_mul : (a b : ℕ) → int (pos (a * b)) ≡ int (pos a) *ℚ int (pos b)
int_mul a b = frac-same (pos (a * b)) 0 (pos a *ℤ pos b) (both 0 0) (ap pos (omega arith)) ∙ sym (mul_frac (pos a) 0 (pos b) 0)

rest_times : (a b : ℕ) (e : ℚ) → int (pos a) *ℚ e -ℚ int (pos (a / suc b)) *ℚ (int (pos (suc b)) *ℚ e) ≡ int (pos (a % suc b)) *ℚ e
rest_times a b e =
    let q = a / suc b in
    let k : a ≡ q * suc b + a % suc b = sym (div-add-mod' a (suc b)) in
    let x : int (pos a) *ℚ e ≡ int (pos q) *ℚ (int (pos (suc b)) *ℚ e) +ℚ int (pos (a % suc b)) *ℚ e =
    ap (λ n. int (pos n) *ℚ e) k ∙ ap (λ z. z *ℚ e) (int_add (q * suc b) (a % suc b) ∙ ap (λ z. z +ℚ int (pos (a % suc b))) (int_mul q (suc b)))
    ∙ add_mul _ _ e ∙ ap (λ z. z +ℚ int (pos (a % suc b)) *ℚ e) (mul_assoc (int (pos q)) (int (pos (suc b))) e) in
    with3 (int (pos a) *ℚ e) (int (pos q) *ℚ (int (pos (suc b)) *ℚ e)) (int (pos (a % suc b)) *ℚ e) (λ c. omega (arith, c.le, c.lt, c.same))

-- so the greatest common divisor of two, on one grid, is a period
gcd_rule : (k a b : ℕ) (f : ℚ → Ext) (r e u v : ℚ) → int (pos 0) ≤ℚ e → Repeats f r (int (pos a) *ℚ e) u → Repeats f r (int (pos b) *ℚ e) v
    → (w : ℚ) × Repeats f r (int (pos (gcd_steps k a b)) *ℚ e) w
unfolding gcd_steps
gcd_rule zero a b f r e u v h A B = (u, A)
gcd_rule (suc k) a zero f r e u v h A B = (u, A)
gcd_rule (suc k) a (suc b) f r e u v h A B =
    let q = a / suc b in
    let Q = repeats_times f r (int (pos (suc b)) *ℚ e) v q (mul_nonneg (nat_nonneg (suc b)) h) B in
    let eq = rest_times a b e in
    let some : int (pos 0) ≤ℚ int (pos (a % suc b)) *ℚ e = mul_nonneg (nat_nonneg (a % suc b)) h in
    let x = int (pos a) *ℚ e in
    let y = int (pos q) *ℚ (int (pos (suc b)) *ℚ e) in
    let z = int (pos (a % suc b)) *ℚ e in
    let l : y ≤ℚ x = with3 x y z (λ c. omega (arith, c.le, c.lt, c.same)) in
    let R = repeats_less f r x u y (int (pos q) *ℚ v) A Q l in
    gcd_rule k (suc b) (a % suc b) f r e v (u -ℚ int (pos q) *ℚ v) h B (subst (λ d. Repeats f r d (u -ℚ int (pos q) *ℚ v)) eq R)

-- ---- two fractions on one grid
whole_times : (a m : ℕ) → int (pos a) *ℚ frac (pos 1) m ≡ frac (pos a) m
whole_times a m = mul_frac (pos a) 0 (pos 1) m ∙ frac-same _ _ _ _ (ap pos (omega arith))

on_grid : (n : ℤ) (d m : ℕ) → pos 0 ≤ℤ n → (a : ℕ) × (frac n d ≡ int (pos a) *ℚ frac (pos 1) (both d m))
on_grid (negsuc n) d m h = absurd (omega (arith, ints))
on_grid (pos n) d m h = (n * suc m, frac-same (pos n) d (pos (n * suc m)) (both d m) (ap pos (grid n (suc d) (suc m) (suc (both d m)) (both_is d m))) ∙ sym (whole_times (n * suc m) (both d m)))
  where
    grid : (n d m k : ℕ) → k ≡ d * m → n * k ≡ n * m * d
    grid n d m k e = rw e (omega arith)

both_comm : (d m : ℕ) → both d m ≡ both m d
both_comm d m = omega arith

grid_pos : (m : ℕ) → int (pos 0) <ℚ frac (pos 1) m
grid_pos m = (lt_frac (pos 0) 0 (pos 1) m).1 (omega (arith, ints))

pub common_grid : (x y : ℚ) → int (pos 0) ≤ℚ x → int (pos 0) ≤ℚ y → (e : ℚ) × (a : ℕ) × (b : ℕ) × (int (pos 0) <ℚ e) × (x ≡ int (pos a) *ℚ e) × (y ≡ int (pos b) *ℚ e)
common_grid x y h k =
    let (a, p) = on_grid x.num x.pre y.pre (num_nonneg x h) in
    let (b, q) = on_grid y.num y.pre x.pre (num_nonneg y k) in (
      frac (pos 1) (both x.pre y.pre),
      a,
      b,
      grid_pos (both x.pre y.pre),
      frac_self x ∙ p,
      frac_self y ∙ q ∙ ap (λ m. int (pos b) *ℚ frac (pos 1) m) (both_comm y.pre x.pre),
    )

-- ---- the least period by whole fractions of it is the least of all
-- rises of one period differ only where no value is finite
all_inf : (f : ℚ → Ext) (r d c w : ℚ) → Repeats f r d c → Repeats f r d w → (c ≡ w → ⊥) → (t : ℚ) → r ≤ℚ t → f t ≡ Inf
all_inf f r d c w C W n t h = go (f t) refl
  where
    go : (v : Ext) → f t ≡ v → f t ≡ Inf
    go Inf e = e
    go (Fin v) e =
        let k : Fin (v +ℚ c) ≡ Fin (v +ℚ w) = ap (λ z. z +ₑ Fin c) (sym e) ∙ sym (C.rule t h) ∙ W.rule t h ∙ ap (λ z. z +ₑ Fin w) e in
        let l = fin_same k in
        absurd (n (with3 v c w (λ c. omega (arith, c.le, c.lt, c.same))))

pub one_rise : (f : ℚ → Ext) (r d c w : ℚ) → Repeats f r d c → Repeats f r d w → (((t : ℚ) → r ≤ℚ t → f t ≡ Inf) → ⊥) → c ≡ w
one_rise f r d c w C W some = elim (le_or_lt c w) [
  | inr l ↦ absurd (some (all_inf f r d c w C W (λ e. with2 c w (λ c. omega (arith, c.le, c.lt, c.same)))))
  | inl h ↦ elim (le_or_lt w c) [
    | inr l ↦ absurd (some (all_inf f r d c w C W (λ e. with2 c w (λ c. omega (arith, c.le, c.lt, c.same)))))
    | inl k ↦ antisym (h, k)
  ]
]

parts_two : (k g a b : ℕ) → k * g ≡ a → g ≤ b → b < a → 2 ≤ k
parts_two zero g a b e h l = absurd (omega arith)
parts_two (suc zero) g a b e h l = absurd (omega arith)
parts_two (suc (suc k)) g a b e h l = omega arith

int_some : (k : ℕ) → 2 ≤ k → int (pos 0) <ℚ int (pos k)
int_some k h = (lt_over (pos 0) (pos k) 0).1 (omega (arith, ints))

divide_back : (x d k : ℚ) → int (pos 0) <ℚ k → k *ℚ x ≡ d → d /ℚ k ≡ x
divide_back x d k some e = mul_cancel (d /ℚ k) x k (not_zero k some) (div_mul d k (not_zero k some) ∙ sym e ∙ mul_comm k x)

pub no_shorter : (f : ℚ → Ext) (r d c p q : ℚ) → int (pos 0) <ℚ p → p <ℚ d
    → ((n : ℕ) → 2 ≤ n → ¬ (Repeats f r (d /ℚ int (pos n)) (c /ℚ int (pos n))))
    → (((t : ℚ) → r ≤ℚ t → f t ≡ Inf) → ⊥)
    → Repeats f r d c → Repeats f r p q → ⊥
unfolding gcd
no_shorter f r d c p q some less least finite D P =
    let (e, a, b, e_pos, da, pb) = common_grid d p (le_of_lt (with3 (int (pos 0)) p d (λ c. omega (arith, c.le, c.lt, c.same)))) (le_of_lt some) in
    by_grid e a b e_pos da pb
  where
    by_parts : (e : ℚ) (a g k : ℕ) (w : ℚ) → int (pos 0) <ℚ e → d ≡ int (pos a) *ℚ e → k * g ≡ a → 2 ≤ k → Repeats f r (int (pos g) *ℚ e) w → ⊥
    by_parts e a g k w e_pos da kg two G =
        let K = repeats_times f r (int (pos g) *ℚ e) w k (mul_nonneg (nat_nonneg g) (le_of_lt e_pos)) G in
        let kd : int (pos k) *ℚ (int (pos g) *ℚ e) ≡ d = sym (mul_assoc (int (pos k)) (int (pos g)) e) ∙ ap (λ z. z *ℚ e) (sym (int_mul k g) ∙ ap (λ n. int (pos n)) kg) ∙ sym da in
        let repeats_whole : Repeats f r d (int (pos k) *ℚ w) = subst (λ x. Repeats f r x (int (pos k) *ℚ w)) kd K in
        let kc : c ≡ int (pos k) *ℚ w = one_rise f r d c (int (pos k) *ℚ w) D repeats_whole finite in
        let k_pos = int_some k two in
        let dk = divide_back (int (pos g) *ℚ e) d (int (pos k)) k_pos kd in
        let ck = divide_back w c (int (pos k)) k_pos (sym kc) in
        least k two (subst (λ x. Repeats f r x (c /ℚ int (pos k))) (sym dk) (subst (λ y. Repeats f r (int (pos g) *ℚ e) y) (sym ck) G))

    by_grid : (e : ℚ) (a b : ℕ) → int (pos 0) <ℚ e → d ≡ int (pos a) *ℚ e → p ≡ int (pos b) *ℚ e → ⊥
    by_grid e a b e_pos da pb =
        let A : Repeats f r (int (pos a) *ℚ e) c = subst (λ x. Repeats f r x c) da D in
        let B : Repeats f r (int (pos b) *ℚ e) q = subst (λ x. Repeats f r x q) pb P in
        let o : int (pos 0) *ℚ e ≡ int (pos 0) = with1 e (λ c. omega (arith, c.le, c.lt, c.same)) in
        let b_pos : 0 < b = nat_lt_out 0 b (lt_of_mul e (int (pos 0)) (int (pos b)) e_pos (rw (o, ← pb) some)) in
        let b_less : b < a = nat_lt_out b a (lt_of_mul e (int (pos b)) (int (pos a)) e_pos (rw (← pb, ← da) less)) in
        let (w, G) = gcd_rule (suc b) a b f r e c q (le_of_lt e_pos) A B in
        let g = gcd a b in
        let k = a / g in
        let kg : k * g ≡ a = div-mul_cancel g (gcd_is a b).0 in
        let two : 2 ≤ k = parts_two k g a b kg (le_of_dvd b_pos (gcd_is a b).1) b_less in
        by_parts e a g k w e_pos da kg two G
