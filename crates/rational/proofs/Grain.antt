-- What `omega` reads of a rational x: the floor of x (d + 1) as a difference of two naturals, `U d x - V d x`, and
-- the grain `E d x`, which is 0 where that is exact.
use Rattle.std.specs.Prelude.{◌≡◌, ℕ, zero, suc, ◌+◌, ◌*◌, ◌<◌, ◌≤◌, min, ℤ, pos, negsuc, ◌+ℤ◌, ◌*ℤ◌, neg_ℤ, ◌≤ℤ◌, ◌<ℤ◌}
use Rattle.std.proofs.Common.{◌∙◌, sym, ap, ap₂, refl, arith, subst, inl, inr}
use borrow.Author.Differences.{up, down, le_out, neg_is}
use Rattle.std.proofs.lemmas.Int.{ints}
use Rattle.rational.specs.Ints.{diffs, diff_is, diff_same}
use Rattle.rational.specs.Rational.{ℚ, frac, ◌+ℚ◌, ◌-ℚ◌, neg_ℚ, ◌*ℚ◌, ◌≤ℚ◌, ◌<ℚ◌}
use Rattle.rational.specs.Fractions.{frac_self, frac-same, frac-same_out}
use Rattle.rational.specs.Rational.{int}
use Rattle.rational.proofs.Over.{le_over, lt_over, add_over, neg_over}
use Rattle.rational.proofs.Integers.{mul_whole, int_le_out, nat_nonneg}
use Rattle.rational.specs.Floor.{floor, IsWholeAndRest}
use Rattle.rational.proofs.Floor.{rest, whole_of, floor_le, floor_gt, floor_most, floor_below, floor_int}
use Rattle.rational.proofs.Floor.{floor_mono}
use Rattle.rational.proofs.Bootstrap.{rats, over2, over3, over4}
use Rattle.rational.proofs.Laws.{antisym, le_trans, lt_le_trans, le_of_lt, mul_add, mul_neg, mul_le_mul, mul_lt_mul}
use Rattle.rational.proofs.Laws.{le_or_lt, lt_irrefl, mul_comm, mul_assoc}

-- ---- the grain: 0 where x is an integer, and 1 elsewhere
pub grain : ℚ → ℕ
grain x = min 1 (rest x)

exact_z : (a f : ℤ) (d r : ℕ) → IsWholeAndRest a d f r → r ≡ 0 → a *ℤ pos 1 ≡ f *ℤ pos d
exact_z a f d r w h = let e = w.is in omega (arith, ints)

pub floor_exact : (x : ℚ) → grain x ≡ 0 → x ≡ int (floor x)
unfolding grain
floor_exact x h = frac_self x ∙ frac-same x.num x.pre (floor x) 0 (exact_z x.num (floor x) (suc x.pre) (rest x) (whole_of x) (omega arith))

pub grain_le : (x : ℚ) → grain x ≤ 1
unfolding grain
grain_le x = omega arith

-- an integer has no grain: otherwise it would be above its floor
pub grain_int : (z : ℤ) → grain (int z) ≡ 0
unfolding grain
grain_int z = no_rest z
  where
    exact_rest : (a f : ℤ) (r : ℕ) (d : ℕ) (z : ℤ) → IsWholeAndRest a d f r → a *ℤ pos 1 ≡ z *ℤ pos d → f ≡ z → r ≡ 0
    exact_rest a f r d z w e g = let h = w.is in omega (arith, ints, ap (λ k. k *ℤ pos d) g)

    no_rest : (z : ℤ) → min 1 (rest (int z)) ≡ 0
    no_rest z =
        let x = int z in
        let e : x.num *ℤ pos 1 ≡ z *ℤ pos (suc x.pre) = same_cross z in
        let r = exact_rest x.num (floor x) (rest x) (suc x.pre) z (whole_of x) e (floor_int z) in
        omega arith
      where
        same_cross : (z : ℤ) → (int z).num *ℤ pos 1 ≡ z *ℤ pos (suc (int z).pre)
        same_cross z = sym (frac-same_out z 0 (int z).num (int z).pre (frac_self (int z)))

-- ---- sums, negation, order
floor_add_low : (x y : ℚ) → (floor x +ℤ floor y) ≤ℤ floor (x +ℚ y)
floor_add_low x y =
    floor_most _ _ (subst (λ v. v ≤ℚ x +ℚ y) (add_over (floor x) (floor y) 0)
    (let a = floor_le x in let b = floor_le y in over4 x y (int (floor x)) (int (floor y)) (λ c. grind (arith, rats))))

floor_add_high : (x y : ℚ) → floor (x +ℚ y) ≤ℤ (floor x +ℤ floor y +ℤ pos 1)
floor_add_high x y =
    let l : floor (x +ℚ y) <ℤ ((floor x +ℤ pos 1) +ℤ (floor y +ℤ pos 1)) =
    floor_below _ _ (subst (λ v. x +ℚ y <ℚ v) (add_over (floor x +ℤ pos 1) (floor y +ℤ pos 1) 0)
    (let a = floor_gt x in let b = floor_gt y in over4 x y (int (floor x +ℤ pos 1)) (int (floor y +ℤ pos 1)) (λ c. grind (arith, rats)))) in
    omega (arith, ints)

whole_add : (x y : ℚ) → grain x ≡ 0 → grain y ≡ 0 → x +ℚ y ≡ int (floor x +ℤ floor y)
whole_add x y h k = ap₂ (λ (a b : ℚ). a +ℚ b) (floor_exact x h) (floor_exact y k) ∙ add_over (floor x) (floor y) 0

-- a grain is 0 or 1
pub by_grain : {G : Type 0} (x : ℚ) → (grain x ≡ 0 → G) → (grain x ≡ 1 → G) → G
by_grain {G} x f g = go (grain x) refl (grain_le x)
  where
    go : (n : ℕ) → grain x ≡ n → n ≤ 1 → G
    go zero e l = f e
    go (suc zero) e l = g e
    go (suc (suc n)) e l = absurd (omega arith)

sum_exact : (x y : ℚ) → grain x ≡ 0 → grain y ≡ 0 → (grain (x +ℚ y) ≡ 0) × (floor (x +ℚ y) ≡ floor x +ℤ floor y)
sum_exact x y h k =
    let e = whole_add x y h k in
    (ap grain e ∙ grain_int (floor x +ℤ floor y), ap floor e ∙ floor_int (floor x +ℤ floor y))

-- the four facts that are read of a sum
pub sum_all : (x y : ℚ)
    → ((floor x +ℤ floor y) ≤ℤ floor (x +ℚ y)) × (floor (x +ℚ y) ≤ℤ (floor x +ℤ floor y +ℤ pos (grain x + grain y))) × (grain (x +ℚ y) ≤ grain x + grain y)
sum_all x y =
    let low = floor_add_low x y in
    let high = floor_add_high x y in
    let g = grain_le (x +ℚ y) in
    by_grain x
    (λ h. by_grain y
    (λ k. let s = sum_exact x y h k in (low, omega (arith, ints, s.1), omega (arith, s.0)))
    (λ k. (low, omega (arith, ints), omega arith)))
    (λ h. (low, omega (arith, ints), omega arith))

neg_low : (x : ℚ) → (neg_ℤ (floor x) +ℤ neg_ℤ (pos 1)) ≤ℤ floor (neg_ℚ x)
neg_low x =
    let z = neg_ℤ (floor x +ℤ pos 1) in
    let l : z ≤ℤ floor (neg_ℚ x) =
    floor_most _ _ (subst (λ v. v ≤ℚ neg_ℚ x) (neg_over (floor x +ℤ pos 1) 0) (let a = floor_gt x in over2 x (int (floor x +ℤ pos 1)) (λ c. grind (arith, rats)))) in
    omega (arith, ints)

neg_high : (x : ℚ) → floor (neg_ℚ x) ≤ℤ neg_ℤ (floor x)
neg_high x =
    int_le_out _ _ (subst (λ v. int (floor (neg_ℚ x)) ≤ℚ v) (neg_over (floor x) 0) (let a = floor_le x in let b = floor_le (neg_ℚ x) in over3 x (int (floor x)) (int (floor (neg_ℚ x))) (λ c. grind (arith, rats))))

neg_exact : (x : ℚ) → grain x ≡ 0 → (grain (neg_ℚ x) ≡ 0) × (floor (neg_ℚ x) ≡ neg_ℤ (floor x))
neg_exact x h =
    let e : neg_ℚ x ≡ int (neg_ℤ (floor x)) = ap neg_ℚ (floor_exact x h) ∙ neg_over (floor x) 0 in
    (ap grain e ∙ grain_int _, ap floor e ∙ floor_int _)

pub neg_all : (x : ℚ)
    → ((neg_ℤ (floor x)) ≤ℤ (floor (neg_ℚ x) +ℤ pos (grain x))) × (floor (neg_ℚ x) ≤ℤ neg_ℤ (floor x)) × (grain (neg_ℚ x) ≤ grain x)
neg_all x =
    let low = neg_low x in
    let high = neg_high x in
    let g = grain_le (neg_ℚ x) in
    by_grain x (λ h. let s = neg_exact x h in (omega (arith, ints, s.1), high, omega (arith, s.0))) (λ h. (omega (arith, ints), high, omega arith))

pub lt_all : (x y : ℚ) → x <ℚ y → floor x <ℤ (floor y +ℤ pos (grain y))
lt_all x y h =
    let l = floor_mono x y (le_of_lt h) in
    by_grain y
    (λ e. let m = floor_below (floor y) x (subst (λ v. x <ℚ v) (floor_exact y e) h) in omega (arith, ints))
    (λ e. omega (arith, ints))

pub le_back : (x y : ℚ) → (floor x +ℤ pos (grain x)) ≤ℤ floor y → x ≤ℚ y
le_back x y h =
    by_grain x
    (λ e. subst (λ v. v ≤ℚ y) (sym (floor_exact x e)) (le_trans ((le_over (floor x) (floor y) 0).1 (omega (arith, ints))) (floor_le y)))
    (λ e. le_trans (le_of_lt (floor_gt x)) (le_trans ((le_over (floor x +ℤ pos 1) (floor y) 0).1 (omega (arith, ints))) (floor_le y)))

pub lt_back : (x y : ℚ) → floor x <ℤ floor y → x <ℚ y
lt_back x y h =
    lt_le_trans (floor_gt x) (le_trans ((le_over (floor x +ℤ pos 1) (floor y) 0).1 (omega (arith, ints))) (floor_le y))

-- a natural times x
times_exact : (n : ℕ) (x : ℚ) → grain x ≡ 0
    → (grain (int (pos n) *ℚ x) ≡ 0) × (floor (int (pos n) *ℚ x) ≡ pos n *ℤ floor x)
times_exact n x h =
    let e : int (pos n) *ℚ x ≡ int (pos n *ℤ floor x) = ap (λ v. int (pos n) *ℚ v) (floor_exact x h) ∙ mul_whole (pos n) (floor x) 0 in
    (ap grain e ∙ grain_int _, ap floor e ∙ floor_int _)

times_low : (n : ℕ) (x : ℚ) → (pos n *ℤ floor x) ≤ℤ floor (int (pos n) *ℚ x)
times_low n x = floor_most _ _ (subst (λ v. v ≤ℚ int (pos n) *ℚ x) (mul_whole (pos n) (floor x) 0) (mul_le_mul (int (pos n)) (nat_nonneg n) (floor_le x)))

times_high : (n : ℕ) (x : ℚ) → floor (int (pos n) *ℚ x) ≤ℤ (pos n *ℤ (floor x +ℤ pos 1))
times_high n x =
    int_le_out _ _ (le_trans (floor_le (int (pos n) *ℚ x)) (subst (λ v. int (pos n) *ℚ x ≤ℚ v) (mul_whole (pos n) (floor x +ℤ pos 1) 0) (mul_le_mul (int (pos n)) (nat_nonneg n) (le_of_lt (floor_gt x)))))

pub times_all : (n : ℕ) (x : ℚ)
    → ((pos n *ℤ floor x) ≤ℤ floor (int (pos n) *ℚ x)) × (floor (int (pos n) *ℚ x) ≤ℤ (pos n *ℤ floor x +ℤ pos (n * grain x))) × (grain (int (pos n) *ℚ x) ≤ grain x)
times_all n x =
    let low = times_low n x in
    let high = times_high n x in
    let g = grain_le (int (pos n) *ℚ x) in
    by_grain x
    (λ h. let s = times_exact n x h in (low, omega (arith, ints, s.1), omega (arith, s.0)))
    (λ h. let e : n * grain x ≡ n = rw h (omega arith) in (low, rw e (last n (floor x) (floor (int (pos n) *ℚ x)) high), omega arith))
  where
    last : (n : ℕ) (f z : ℤ) → z ≤ℤ (pos n *ℤ (f +ℤ pos 1)) → z ≤ℤ (pos n *ℤ f +ℤ pos n)
    last n f z h = subst (λ v. z ≤ℤ v) (spread n f) h
      where
        spread : (n : ℕ) (f : ℤ) → pos n *ℤ (f +ℤ pos 1) ≡ pos n *ℤ f +ℤ pos n
        spread n f = rw (diff_is f) (simp diffs (diff_same _ _ _ _ (omega arith)))

-- ---- over d + 1
scaled : ℕ → ℚ → ℚ
scaled d x = int (pos (suc d)) *ℚ x

pub some_int : (d : ℕ) → int (pos 0) <ℚ int (pos (suc d))
some_int d = (lt_over (pos 0) (pos (suc d)) 0).1 (omega (arith, ints))

scaled_le : (d : ℕ) (x y : ℚ) → x ≤ℚ y → scaled d x ≤ℚ scaled d y
unfolding scaled
scaled_le d x y h = mul_le_mul (int (pos (suc d))) (le_of_lt (some_int d)) h

scaled_lt : (d : ℕ) (x y : ℚ) → x <ℚ y → scaled d x <ℚ scaled d y
unfolding scaled
scaled_lt d x y h = mul_lt_mul (int (pos (suc d))) (some_int d) h

unscaled_le : (d : ℕ) (x y : ℚ) → scaled d x ≤ℚ scaled d y → x ≤ℚ y
unscaled_le d x y h =
    elim (le_or_lt x y) [ inl k ↦ k | inr k ↦ absurd (lt_irrefl _ (lt_le_trans (scaled_lt d y x k) h)) ]

unscaled_lt : (d : ℕ) (x y : ℚ) → scaled d x <ℚ scaled d y → x <ℚ y
unscaled_lt d x y h =
    elim (le_or_lt y x) [ inl k ↦ absurd (lt_irrefl _ (lt_le_trans h (scaled_le d y x k))) | inr k ↦ k ]

-- what `omega` reads: the two parts of the floor, one of which is 0, and the grain
pub U : ℕ → ℚ → ℕ
U d x = up (floor (scaled d x))

pub V : ℕ → ℚ → ℕ
V d x = down (floor (scaled d x))

pub E : ℕ → ℚ → ℕ
E d x = grain (scaled d x)

pub le_at : (d : ℕ) (a b : ℚ) → a ≤ℚ b → U d a + V d b ≤ U d b + V d a
unfolding U V
le_at d a b h = le_out _ _ (floor_mono _ _ (scaled_le d a b h))

pub lt_at : (d : ℕ) (a b : ℚ) → a <ℚ b → U d a + V d b < U d b + V d a + E d b
unfolding U V E
lt_at d a b h = let l = lt_all _ _ (scaled_lt d a b h) in omega (arith, ints)

pub not_le_at : (d : ℕ) (a b : ℚ) → ¬ (a ≤ℚ b) → U d b + V d a < U d a + V d b + E d a
not_le_at d a b h = lt_at d b a (elim (le_or_lt a b) [ inl k ↦ absurd (h k) | inr k ↦ k ])

pub not_lt_at : (d : ℕ) (a b : ℚ) → ¬ (a <ℚ b) → U d b + V d a ≤ U d a + V d b
not_lt_at d a b h = le_at d b a (elim (le_or_lt b a) [ inl k ↦ k | inr k ↦ absurd (h k) ])

pub same_at : (d : ℕ) (a b : ℚ) → a ≡ b → (U d a ≡ U d b) × (V d a ≡ V d b) × (E d a ≡ E d b)
same_at d a b e = (ap (U d) e, ap (V d) e, ap (E d) e)

pub le_to : (d : ℕ) (a b : ℚ) → U d a + V d b + E d a ≤ U d b + V d a → a ≤ℚ b
unfolding U V E
le_to d a b h = unscaled_le d a b (le_back _ _ (omega (arith, ints)))

pub lt_to : (d : ℕ) (a b : ℚ) → U d a + V d b < U d b + V d a → a <ℚ b
unfolding U V
lt_to d a b h = unscaled_lt d a b (lt_back _ _ (omega (arith, ints)))

pub same_to : (d : ℕ) (a b : ℚ) → (U d a + V d b ≡ U d b + V d a) × (E d a + E d b ≡ 0) → a ≡ b
same_to d a b h = antisym (le_to d a b (omega (arith, h)), le_to d b a (omega (arith, h)))

pub sum_at : (d : ℕ) (a b : ℚ)
    → (V d (a +ℚ b) + U d a + U d b ≤ U d (a +ℚ b) + V d a + V d b) × (U d (a +ℚ b) + V d a + V d b ≤ V d (a +ℚ b) + U d a + U d b + E d a + E d b) × (E d (a +ℚ b) ≤ E d a + E d b)
unfolding U V E scaled
sum_at d a b = rw (mul_add (int (pos (suc d))) a b) (let s = sum_all (int (pos (suc d)) *ℚ a) (int (pos (suc d)) *ℚ b) in (omega (arith, ints, s.0), omega (arith, ints, s.1), s.2))

pub neg_at : (d : ℕ) (a : ℚ)
    → (V d (neg_ℚ a) + V d a ≤ U d (neg_ℚ a) + U d a + E d a) × (U d (neg_ℚ a) + U d a ≤ V d (neg_ℚ a) + V d a) × (E d (neg_ℚ a) ≤ E d a)
unfolding U V E scaled
neg_at d a = rw (mul_neg (int (pos (suc d))) a) (let s = neg_all (int (pos (suc d)) *ℚ a) in (omega (arith, ints, s.0), omega (arith, ints, s.1), s.2))

pub sub_at : (d : ℕ) (a b : ℚ)
    → (V d (a -ℚ b) + U d a + V d b ≤ U d (a -ℚ b) + V d a + U d b + E d b) × (U d (a -ℚ b) + V d a + U d b ≤ V d (a -ℚ b) + U d a + V d b + E d a + E d b) × (E d (a -ℚ b) ≤ E d a + E d b)
unfolding ◌-ℚ◌
sub_at d a b = let s = sum_at d a (neg_ℚ b) in let n = neg_at d b in (omega (arith, s, n), omega (arith, s, n), omega (arith, s, n))

pub times_at : (d n : ℕ) (a : ℚ)
    → (V d (frac (pos n) 0 *ℚ a) + n * U d a ≤ U d (frac (pos n) 0 *ℚ a) + n * V d a) × (U d (frac (pos n) 0 *ℚ a) + n * V d a ≤ V d (frac (pos n) 0 *ℚ a) + n * U d a + n * E d a) × (E d (frac (pos n) 0 *ℚ a) ≤ E d a)
unfolding U V E scaled
times_at d n a =
    let D = int (pos (suc d)) in
    let swap : D *ℚ (int (pos n) *ℚ a) ≡ int (pos n) *ℚ (D *ℚ a) = sym (mul_assoc D (int (pos n)) a) ∙ ap (λ v. v *ℚ a) (mul_comm D (int (pos n))) ∙ mul_assoc (int (pos n)) D a in
    rw swap (let s = times_all n (D *ℚ a) in (omega (arith, ints, s.0), omega (arith, ints, s.1), s.2))

whole_scaled : (z : ℤ) (d : ℕ) → scaled d (frac z 0) ≡ int (pos (suc d) *ℤ z)
unfolding scaled
whole_scaled z d = mul_whole (pos (suc d)) z 0

pub whole_at : (d n : ℕ) → (U d (frac (pos n) 0) ≡ n * suc d) × (V d (frac (pos n) 0) ≡ 0) × (E d (frac (pos n) 0) ≡ 0)
unfolding U V E
whole_at d n =
    let e = whole_scaled (pos n) d in
    let f = ap floor e ∙ floor_int _ in
    (ap up f ∙ omega arith, ap down f, ap grain e ∙ grain_int _)

pub minus_at : (d n : ℕ)
    → (U d (frac (negsuc n) 0) ≡ 0) × (V d (frac (negsuc n) 0) ≡ suc n * suc d) × (E d (frac (negsuc n) 0) ≡ 0)
unfolding U V E
minus_at d n =
    let e = whole_scaled (negsuc n) d in
    let f = ap floor e ∙ floor_int _ in
    let m = neg_is (pos (suc d * suc n)) in
    (ap up f ∙ m.0, ap down f ∙ m.1 ∙ omega arith, ap grain e ∙ grain_int _)

pub exact_at : (d : ℕ) (a : ℤ) (x : ℚ) → x ≡ frac a d → E d x ≡ 0
unfolding E scaled
exact_at d a x p =
    let e : int (pos (suc d)) *ℚ x ≡ int a = ap (λ v. int (pos (suc d)) *ℚ v) p ∙ mul_whole (pos (suc d)) a d ∙ frac-same _ _ _ _ (rw (diff_is a) (simp diffs (diff_same _ _ _ _ (omega arith)))) in
    ap grain e ∙ grain_int a
