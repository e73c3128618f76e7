-- The cross products of two times fit a `Long`, and compare as the times do.
use Rattle.std.specs.Prelude.{◌≡◌, ℕ, suc, ◌+◌, ◌*◌, ◌^◌, ◌<◌, ◌≤◌, ◌↔◌, pos, ◌<ℤ◌, nat_abs}
use Rattle.std.proofs.Common.{arith, sym, ap, ap₂, ◌∙◌, refl, subst}
use Rattle.std.proofs.lemmas.Int.{ints}
use native.Mathlib.Nat.{mul-le-mul_left, mul-lt-mul_of_pos_right}
use Rattle.rational.specs.Rational.{ℚ, den, frac, both, int, ◌+ℚ◌, ◌*ℚ◌, ◌≤ℚ◌, ◌<ℚ◌}
use Rattle.rational.proofs.Over.{lt_frac}
use Rattle.rational.proofs.Integers.{mul_whole, nat_nonneg}
use Rattle.rational.proofs.Linear.{with2}
use Rattle.rational.proofs.Over.{add_frac, both_is}
use Rattle.rational.proofs.Laws.{lt_irrefl, le_of_lt, le_lt_trans, lt_le_trans, mul_nonneg, nonneg_frac}

product_below : (m n M N : ℕ) → m < M → n < N → m * n < M * N
product_below m n M N h k =
    let some : 0 < N = omega arith in
    let a : m * n ≤ m * N = mul-le-mul_left m (omega arith) in
    let b : m * N < M * N = mul-lt-mul_of_pos_right h some in
    omega (arith, a, b)

pub end_is : (u b q x y z : ℕ) → u < 2 ^ 127 → b < 2 ^ 127 → q < 2 ^ 127
    → x ≡ u → (x * b < 2 ^ 512 → y ≡ x * b) → (y * q < 2 ^ 512 → z ≡ y * q) → z ≡ u * b * q
end_is u b q x y z hu hb hq e f g =
    let ub : u * b < 2 ^ 127 * 2 ^ 127 = product_below u b (2 ^ 127) (2 ^ 127) hu hb in
    let ubq : u * b * q < 2 ^ 127 * 2 ^ 127 * 2 ^ 127 = product_below (u * b) q (2 ^ 127 * 2 ^ 127) (2 ^ 127) ub hq in
    let xb : x * b ≡ u * b = ap (λ n. n * b) e in
    let y_is : y ≡ u * b = f (omega (arith, ub, xb)) ∙ xb in
    let yq : y * q ≡ u * b * q = ap (λ n. n * q) y_is in
    g (omega (arith, ubq, yq)) ∙ yq

pub sum_is : (a b n p q v x0 x1 x2 y0 y1 s z : ℕ) → a < 2 ^ 127 → b < 2 ^ 127 → n < 2 ^ 128 → p < 2 ^ 127 → q < 2 ^ 127 → v < 2 ^ 127
    → x0 ≡ n → (x0 * p < 2 ^ 512 → x1 ≡ x0 * p) → (x1 * b < 2 ^ 512 → x2 ≡ x1 * b)
    → y0 ≡ a → (y0 * q < 2 ^ 512 → y1 ≡ y0 * q) → (y1 + x2 < 2 ^ 512 → s ≡ y1 + x2) → (s * v < 2 ^ 512 → z ≡ s * v)
    → z ≡ (a * q + n * p * b) * v
sum_is a b n p q v x0 x1 x2 y0 y1 s z ha hb hn hp hq hv e0 e1 e2 f0 f1 g h =
    let np : n * p < 2 ^ 128 * 2 ^ 127 = product_below n p (2 ^ 128) (2 ^ 127) hn hp in
    let npb : n * p * b < 2 ^ 128 * 2 ^ 127 * 2 ^ 127 = product_below (n * p) b (2 ^ 128 * 2 ^ 127) (2 ^ 127) np hb in
    let aq : a * q < 2 ^ 127 * 2 ^ 127 = product_below a q (2 ^ 127) (2 ^ 127) ha hq in
    let sum : a * q + n * p * b < 2 ^ 383 = omega (arith, npb, aq) in
    let whole : (a * q + n * p * b) * v < 2 ^ 383 * 2 ^ 127 = product_below (a * q + n * p * b) v (2 ^ 383) (2 ^ 127) sum hv in
    let x0p : x0 * p ≡ n * p = ap (λ k. k * p) e0 in
    let x1_is : x1 ≡ n * p = e1 (omega (arith, np, x0p)) ∙ x0p in
    let x1b : x1 * b ≡ n * p * b = ap (λ k. k * b) x1_is in
    let x2_is : x2 ≡ n * p * b = e2 (omega (arith, npb, x1b)) ∙ x1b in
    let y0q : y0 * q ≡ a * q = ap (λ k. k * q) f0 in
    let y1_is : y1 ≡ a * q = f1 (omega (arith, aq, y0q)) ∙ y0q in
    let s_is : s ≡ a * q + n * p * b = g (omega (arith, sum, x2_is, y1_is)) ∙ ap₂ (λ (i j : ℕ). i + j) y1_is x2_is in
    let sv : s * v ≡ (a * q + n * p * b) * v = ap (λ k. k * v) s_is in
    h (omega (arith, whole, sv)) ∙ sv

-- ---- the times
times_is : (a : ℕ) (b : ℕ) (n : ℕ) (p : ℕ) (q : ℕ) → frac (pos a) b +ℚ int (pos n) *ℚ frac (pos p) q ≡ frac (pos (a * suc q + n * p * suc b)) (both b q)
times_is a b n p q =
    ap (λ z. frac (pos a) b +ℚ z) (mul_whole (pos n) (pos p) q) ∙ add_frac (pos a) b (pos (n * p)) q

crossed_before : (s b q u v : ℕ) → (frac (pos s) (both b q) <ℚ frac (pos u) v) ↔ (s * suc v < u * suc b * suc q)
crossed_before s b q u v = (
  λ h. let l : pos (s * suc v) <ℤ pos (u * suc (both b q)) = (lt_frac (pos s) (both b q) (pos u) v).0 h in omega (arith, ints, ap (λ n. u * n) (both_is b q)),
  λ h. (lt_frac (pos s) (both b q) (pos u) v).1 (let l : s * suc v < u * suc (both b q) = omega (arith, ap (λ n. u * n) (both_is b q)) in lt_pos l),
)
  where
    lt_pos : {m n : ℕ} → m < n → pos m <ℤ pos n
    lt_pos h = omega (arith, ints)

crossed_after : (s b q u v : ℕ) → (frac (pos u) v <ℚ frac (pos s) (both b q)) ↔ (u * suc b * suc q < s * suc v)
crossed_after s b q u v = (
  λ h. let l : pos (u * suc (both b q)) <ℤ pos (s * suc v) = (lt_frac (pos u) v (pos s) (both b q)).0 h in omega (arith, ints, ap (λ n. u * n) (both_is b q)),
  λ h. (lt_frac (pos u) v (pos s) (both b q)).1 (let l : u * suc (both b q) < s * suc v = omega (arith, ap (λ n. u * n) (both_is b q)) in lt_pos l),
)
  where
    lt_pos : {m n : ℕ} → m < n → pos m <ℤ pos n
    lt_pos h = omega (arith, ints)

nonneg_time : (x d : ℚ) (n : ℕ) → int (pos 0) ≤ℚ x → int (pos 0) ≤ℚ d → int (pos 0) ≤ℚ x +ℚ int (pos n) *ℚ d
nonneg_time x d n h k =
    let m : int (pos 0) ≤ℚ int (pos n) *ℚ d = mul_nonneg (nat_nonneg n) k in
    with2 x (int (pos n) *ℚ d) (λ c. omega (arith, c.le, c.lt, c.same))

copy_frac : (x d : ℚ) (n : ℕ) → int (pos 0) ≤ℚ x → int (pos 0) ≤ℚ d
    → x +ℚ int (pos n) *ℚ d ≡ frac (pos (nat_abs x.num * den d + n * nat_abs d.num * den x)) (both x.pre d.pre)
copy_frac x d n h k =
    ap₂ (λ (y e : ℚ). y +ℚ int (pos n) *ℚ e) (nonneg_frac x h) (nonneg_frac d k) ∙ times_is (nat_abs x.num) x.pre n (nat_abs d.num) d.pre

-- the sum s and the product e compare as the copy's start and the end
pub before_is : (x d end : ℚ) (n s e : ℕ) → int (pos 0) ≤ℚ x → int (pos 0) ≤ℚ d → int (pos 0) ≤ℚ end
    → s ≡ (nat_abs x.num * den d + n * nat_abs d.num * den x) * den end → e ≡ nat_abs end.num * den x * den d
    → (s < e) ↔ (x +ℚ int (pos n) *ℚ d <ℚ end)
before_is x d end n s e h k l p q =
    let c = crossed_before (nat_abs x.num * den d + n * nat_abs d.num * den x) x.pre d.pre (nat_abs end.num) end.pre in
    let f = copy_frac x d n h k in
    let g = nonneg_frac end l in (
      λ i. subst (λ y. x +ℚ int (pos n) *ℚ d <ℚ y) (sym g) (subst (λ y. y <ℚ frac (pos (nat_abs end.num)) end.pre) (sym f) (c.1 (rw (p, q) at i))),
      λ i. rw (p, q) (c.0 (subst (λ y. y <ℚ frac (pos (nat_abs end.num)) end.pre) f (subst (λ y. x +ℚ int (pos n) *ℚ d <ℚ y) g i))),
    )

pub after_is : (x d end : ℚ) (n s e : ℕ) → int (pos 0) ≤ℚ x → int (pos 0) ≤ℚ d → int (pos 0) ≤ℚ end
    → s ≡ (nat_abs x.num * den d + n * nat_abs d.num * den x) * den end → e ≡ nat_abs end.num * den x * den d
    → (e < s) ↔ (end <ℚ x +ℚ int (pos n) *ℚ d)
after_is x d end n s e h k l p q =
    let c = crossed_after (nat_abs x.num * den d + n * nat_abs d.num * den x) x.pre d.pre (nat_abs end.num) end.pre in
    let f = copy_frac x d n h k in
    let g = nonneg_frac end l in (
      λ i. subst (λ y. y <ℚ x +ℚ int (pos n) *ℚ d) (sym g) (subst (λ y. frac (pos (nat_abs end.num)) end.pre <ℚ y) (sym f) (c.1 (rw (p, q) at i))),
      λ i. rw (p, q) (c.0 (subst (λ y. frac (pos (nat_abs end.num)) end.pre <ℚ y) f (subst (λ y. y <ℚ x +ℚ int (pos n) *ℚ d) g i))),
    )

pub not_before : (x d end : ℚ) (n : ℕ) → int (pos 0) ≤ℚ x → int (pos 0) ≤ℚ d → end <ℚ int (pos 0) → ¬ (x +ℚ int (pos n) *ℚ d <ℚ end)
not_before x d end n h k l m = lt_irrefl (int (pos 0)) (lt_trans (le_lt_trans (nonneg_time x d n h k) m) l)
  where
    lt_trans : {a b c : ℚ} → a <ℚ b → b <ℚ c → a <ℚ c
    lt_trans i j = le_lt_trans (le_of_lt i) j

pub surely_after : (x d end : ℚ) (n : ℕ) → int (pos 0) ≤ℚ x → int (pos 0) ≤ℚ d → end <ℚ int (pos 0) → end <ℚ x +ℚ int (pos n) *ℚ d
surely_after x d end n h k l = lt_le_trans l (nonneg_time x d n h k)

-- the numbers from which the code makes the two
pub sum_parts : (x d end : ℚ) (n a b p q v : ℕ) → a ≡ nat_abs x.num → b ≡ den x → p ≡ nat_abs d.num → q ≡ den d → v ≡ den end
    → (a * q + n * p * b) * v ≡ (nat_abs x.num * den d + n * nat_abs d.num * den x) * den end
sum_parts x d end n a b p q v ea eb ep eq ev = rw (ea, eb, ep, eq, ev) refl

pub end_parts : (x d end : ℚ) (u b q : ℕ) → u ≡ nat_abs end.num → b ≡ den x → q ≡ den d → u * b * q ≡ nat_abs end.num * den x * den d
end_parts x d end u b q eu eb eq = rw (eu, eb, eq) refl
