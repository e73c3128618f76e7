-- Stairs without jitter: their values at all times, and their convolution and deconvolution, worked out by hand.
use Rattle.std.specs.Prelude.{◌≡◌, ℕ, zero, suc, ◌+◌, ◌*◌, ◌<◌, ◌≤◌, pos, ◌⊎◌}
use Rattle.std.proofs.Common.{arith, sym, ap, ◌∙◌, subst, inl, inr, refl}
use Rattle.std.proofs.lemmas.Int.{ints}
use Rattle.rational.specs.Rational.{ℚ, ◌+ℚ◌, ◌-ℚ◌, ◌*ℚ◌, ◌≤ℚ◌, ◌<ℚ◌, ◌/ℚ◌, int, frac}
use Rattle.rational.specs.Fractions.{same_parts}
use Rattle.rational.specs.Extended.{Ext, ◌≤ₑ◌, ◌+ₑ◌, ◌-ₑ◌}
use Rattle.rational.specs.declared.Extended.TheVariants.{Fin}
use Rattle.rational.specs.MinMax.{max_q}
use Rattle.rational.specs.Whole.{whole_part, periods}
use Rattle.rational.proofs.Linear.{with1, with2, with3, with4, with5, with6, with8}
use Rattle.rational.proofs.Laws.{le_refl, mul_zero, mul_comm, mul_add, mul_one, zero_mul, one_mul, div_mul, frac_nonneg}
use Rattle.rational.proofs.MinMax.{le_q_not, max_q_ge_left, max_q_ge_right}
use Rattle.rational.proofs.Over.{le_q_out}
use Rattle.rational.proofs.Bounds.{least_member, largest_member}
use Rattle.rational.proofs.Integers.{nat_next, nat_lt, nat_lt_out, nat_le}
use Rattle.rational.proofs.Whole.{nat_nonneg, not_zero, lt_of_mul, whole_small, periods_low, periods_high}
use Rattle.min_plus.specs.Functions.{zero_q, FiniteTime}
use Rattle.min_plus.specs.Convolution.{IsDeconvolution, Split, IsConvolution}
use Rattle.upp_curve.specs.affine_segment.Reading.{read, piece_in}
use Rattle.upp_curve.specs.Curve.{value_at, repeated}
use Rattle.upp_curve.specs.Kinds.{stair, rate_latency}
use Rattle.upp_curve.specs.WorkedRows.{whole}
use Rattle.upp_curve.specs.WorkedStairs.{StairFormula, TwoStairs, StairLeaves}
use Rattle.upp_curve.proofs.KindValues.{on_line, service_is}
use Rattle.min_plus.specs.Formulas.{IsService}
use Rattle.upp_curve.proofs.Rules.{int_add, int_mul}
use Rattle.upp_curve.proofs.Worked.{computing}
use Rattle.rational.proofs.ExtendedOrder.{fin_same}

-- ---- the value at each time
no_jitter : (d : ℚ) → zero_q <ℚ d → whole_part (zero_q /ℚ d) ≡ 0
no_jitter d h =
    let e : (zero_q /ℚ d) *ℚ d ≡ zero_q = div_mul zero_q d (not_zero d h) in
    let o : int (pos 1) *ℚ d ≡ d = one_mul d in
    whole_small (zero_q /ℚ d) (lt_of_mul d (zero_q /ℚ d) (int (pos 1)) h (rw (e, o) h))

pub stair_is : (p d t : ℚ) → zero_q <ℚ p → zero_q <ℚ d → zero_q ≤ℚ t
    → value_at (stair p d zero_q) t ≡ Fin (p *ℚ int (pos (suc (periods zero_q d t))))
unfolding value_at repeated read piece_in
stair_is p d t some h start =
    let z : zero_q -ℚ zero_q *ℚ d ≡ zero_q = let w = zero_mul d in with1 (zero_q *ℚ d) (λ c. omega (arith, c.le, c.lt, c.same)) in
    let one : p *ℚ int (pos 1) ≡ p = mul_one p in
    let N = int (pos (periods zero_q d t)) in
    let low : zero_q ≤ℚ t -ℚ N *ℚ d = let l = periods_low zero_q d t h start in with2 t (N *ℚ d) (λ c. omega (arith, c.le, c.lt, c.same)) in
    let line = on_line zero_q p p zero_q (t -ℚ N *ℚ d) (let w = mul_zero zero_q in with2 p (zero_q *ℚ zero_q) (λ c. omega (arith, c.le, c.lt, c.same))) low in
    rw (le_q_not p zero_q some, no_jitter d h, z, le_q_out zero_q zero_q (le_refl zero_q), one)
    (ap (λ v. v +ₑ Fin (N *ℚ p)) line ∙ ap Fin (flat_sum (t -ℚ N *ℚ d) (periods zero_q d t)))
  where
    flat_sum : (x : ℚ) (n : ℕ) → (p +ℚ zero_q *ℚ x) +ℚ int (pos n) *ℚ p ≡ p *ℚ int (pos (suc n))
    flat_sum x n =
        let a = zero_mul x in
        let b = mul_comm (int (pos n)) p in
        let c : p *ℚ int (pos (suc n)) ≡ p *ℚ int (pos n) +ℚ p *ℚ int (pos 1) = ap (λ k. p *ℚ k) (nat_next n) ∙ mul_add p (int (pos n)) (int (pos 1)) in
        one_more (zero_q *ℚ x) (int (pos n) *ℚ p) (p *ℚ int (pos n)) (p *ℚ int (pos (suc n))) (p *ℚ int (pos 1)) a b c (mul_one p)
      where
        one_more : (z a b c o : ℚ) → z ≡ zero_q → a ≡ b → c ≡ b +ℚ o → o ≡ p → (p +ℚ z) +ℚ a ≡ c
        one_more z a b c o e f g h = with6 p z a b c o (λ c. omega (arith, c.le, c.lt, c.same))

pub stair_formula : StairFormula
unfolding periods
stair_formula p d t some h start =
    let same : t -ℚ zero_q ≡ t +ℚ zero_q = with1 t (λ c. omega (arith, c.le, c.lt, c.same)) in
    stair_is p d t some h start ∙ ap (λ x. Fin (p *ℚ int (pos (suc (whole_part (x /ℚ d)))))) same

-- after n whole periods
record Steps (k d : ℕ) (x : ℚ) : Type 0 where
  n : ℕ
  is : value_at (stair (whole k) (whole d) (whole 0)) x ≡ Fin (whole k +ℚ whole k *ℚ whole n)
  low : whole d *ℚ whole n ≤ℚ x
  high : x <ℚ whole d *ℚ whole n +ℚ whole d

steps_at : (k d : ℕ) (x : ℚ) → zero_q <ℚ whole k → zero_q <ℚ whole d → zero_q ≤ℚ x → Steps k d x
steps_at k d x some h start =
    let n = periods zero_q (whole d) x in
    let l = periods_low zero_q (whole d) x h start in
    let u = periods_high zero_q (whole d) x h in
    let m = mul_comm (whole n) (whole d) in
    let c : whole k *ℚ whole (suc n) ≡ whole k +ℚ whole k *ℚ whole n =
    let a : whole k *ℚ whole (suc n) ≡ whole k *ℚ whole n +ℚ whole k *ℚ whole 1 = ap (λ z. whole k *ℚ z) (nat_next n) ∙ mul_add (whole k) (whole n) (whole 1) in
    let b = mul_one (whole k) in
    total (whole k) (whole k *ℚ whole (suc n)) (whole k *ℚ whole n) (whole k *ℚ whole 1) a b in
    record {
      n = n;
      is = stair_is (whole k) (whole d) x some h start ∙ ap Fin c;
      low = low_of (whole n *ℚ whole d) (whole d *ℚ whole n) m l;
      high = high_of (whole n *ℚ whole d) (whole d *ℚ whole n) (whole d) m u;
    }
  where
    total : (k a b c : ℚ) → a ≡ b +ℚ c → c ≡ k → a ≡ k +ℚ b
    total k a b c e f = with4 k a b c (λ c. omega (arith, c.le, c.lt, c.same))

    low_of : (a b : ℚ) → a ≡ b → zero_q +ℚ a ≤ℚ x → b ≤ℚ x
    low_of a b e l = with3 a b x (λ c. omega (arith, c.le, c.lt, c.same))

    high_of : (a b d : ℚ) → a ≡ b → x <ℚ zero_q +ℚ a +ℚ d → x <ℚ b +ℚ d
    high_of a b d e l = with4 a b d x (λ c. omega (arith, c.le, c.lt, c.same))

some_of : (n : ℕ) → 0 < n → zero_q <ℚ whole n
some_of n h = nat_lt 0 n h

-- ---- what leaves a server
late : IsService (whole 100) (whole 256) (value_at (rate_latency (whole 100) (whole 256)))
late = service_is (whole 100) (whole 256) (nat_nonneg 100) (nat_nonneg 256)

none_or_some : (n : ℕ) → (whole n ≡ whole 0) ⊎ (whole 1 ≤ℚ whole n)
none_or_some zero = inl refl
none_or_some (suc n) = inr (nat_le 1 (suc n) (omega arith))

-- v is at least what is there before the first step, and at least what is left at a later one
record IsHigh (t v : ℚ) : Type 0 where
  first : whole 4000 ≤ℚ v
  later : whole 100 *ℚ t ≤ℚ v +ℚ whole 66400

under : (t v u m : ℚ) (n : ℕ) → IsHigh t v → whole 1000 *ℚ whole n ≤ℚ t +ℚ u → zero_q ≤ℚ m → u -ℚ whole 256 ≤ℚ m
    → (whole 4000 +ℚ whole 4000 *ℚ whole n) -ℚ whole 100 *ℚ m ≤ℚ v
under t v u m n h low a b = elim (none_or_some n) [
  | inl e ↦ first v m (whole n) h.first e a
  | inr l ↦ later t v u m (whole n) h.later l low b
]
  where
    first : (v m n : ℚ) → whole 4000 ≤ℚ v → n ≡ whole 0 → zero_q ≤ℚ m → (whole 4000 +ℚ whole 4000 *ℚ n) -ℚ whole 100 *ℚ m ≤ℚ v
    first v m n h e a = with3 v m n (λ c. omega (arith, c.le, c.lt, c.same))

    later : (t v u m n : ℚ) → whole 100 *ℚ t ≤ℚ v +ℚ whole 66400 → whole 1 ≤ℚ n → whole 1000 *ℚ n ≤ℚ t +ℚ u → u -ℚ whole 256 ≤ℚ m
        → (whole 4000 +ℚ whole 4000 *ℚ n) -ℚ whole 100 *ℚ m ≤ℚ v
    later t v u m n h l low b = with5 t v u m n (λ c. omega (arith, c.le, c.lt, c.same))

-- the value is taken at u
leaves : (t v u : ℚ) (level : ℚ) → zero_q ≤ℚ t → IsHigh t v → zero_q ≤ℚ u → value_at (rate_latency (whole 100) (whole 256)) u ≡ Fin level
    → value_at (stair (whole 4000) (whole 1000) (whole 0)) (t +ℚ u) -ₑ level ≡ Fin v
    → IsDeconvolution (value_at (stair (whole 4000) (whole 1000) (whole 0))) (value_at (rate_latency (whole 100) (whole 256))) t (Fin v)
leaves t v u level start high on is value =
    subst (λ w. IsDeconvolution f g t w) value (largest_member {I = FiniteTime g} (λ x. f (t +ℚ x.at) -ₑ x.level) taken (λ x. rw value (at_most x)))
  where
    f : ℚ → Ext
    f x = value_at (stair (whole 4000) (whole 1000) (whole 0)) x

    g : ℚ → Ext
    g x = value_at (rate_latency (whole 100) (whole 256)) x

    taken : FiniteTime g
    taken = record { at = u; nonneg = on; level = level; is = is }

    less : (x t : ℚ) → zero_q ≤ℚ x → zero_q ≤ℚ t → zero_q ≤ℚ t +ℚ x
    less x t a b = with2 x t (λ c. omega (arith, c.le, c.lt, c.same))

    at_most : (x : FiniteTime g) → f (t +ℚ x.at) -ₑ x.level ≤ₑ Fin v
    at_most x =
        let S = steps_at 4000 1000 (t +ℚ x.at) (some_of 4000 (omega arith)) (some_of 1000 (omega arith)) (less x.at t x.nonneg start) in
        let e = fin_same (sym (late.is x.at x.nonneg) ∙ x.is) in
        let m = max_q zero_q (x.at -ℚ whole 256) in
        rw (S.is, ← e) (under t v x.at m S.n high S.low (max_q_ge_left zero_q (x.at -ℚ whole 256)) (max_q_ge_right zero_q (x.at -ℚ whole 256)))

level_257 : value_at (rate_latency (whole 100) (whole 256)) (whole 257) ≡ Fin (whole 100)
unfolding computing
level_257 = ap Fin (same_parts _ _ refl refl)

left_257 : value_at (stair (whole 4000) (whole 1000) (whole 0)) (whole 743 +ℚ whole 257) -ₑ whole 100 ≡ Fin (whole 7900)
unfolding computing
left_257 = ap Fin (same_parts _ _ refl refl)

level_256 : value_at (rate_latency (whole 100) (whole 256)) (whole 256) ≡ Fin (whole 0)
unfolding computing
level_256 = ap Fin (same_parts _ _ refl refl)

left_256 : value_at (stair (whole 4000) (whole 1000) (whole 0)) (whole 744 +ℚ whole 256) -ₑ whole 0 ≡ Fin (whole 8000)
unfolding computing
left_256 = ap Fin (same_parts _ _ refl refl)

pub stair_leaves : StairLeaves
stair_leaves = record {
  at_743 = leaves (whole 743) (whole 7900) (whole 257) (whole 100) (nat_nonneg 743)
      record { first = with1 (whole 0) (λ c. omega (arith, c.le, c.lt, c.same)); later = with1 (whole 0) (λ c. omega (arith, c.le, c.lt, c.same)) } (nat_nonneg 257) level_257 left_257;
  at_744 = leaves (whole 744) (whole 8000) (whole 256) (whole 0) (nat_nonneg 744)
      record { first = with1 (whole 0) (λ c. omega (arith, c.le, c.lt, c.same)); later = with1 (whole 0) (λ c. omega (arith, c.le, c.lt, c.same)) } (nat_nonneg 256) level_256 left_256;
}

-- ---- two stairs
-- n steps of 2 and m of 3 leave less than a step of each to t
far : (t n m : ℕ) (s u : ℚ) → s +ℚ u ≡ whole t → s <ℚ whole 2 *ℚ whole n +ℚ whole 2 → u <ℚ whole 3 *ℚ whole m +ℚ whole 3 → t < 2 * n + 3 * m + 5
far t n m s u e a b =
    let p = int_mul 2 n in
    let q = int_mul 3 m in
    let r : whole (2 * n + 3 * m + 5) ≡ (whole (2 * n) +ℚ whole (3 * m)) +ℚ whole 5 = int_add (2 * n + 3 * m) 5 ∙ ap (λ z. z +ℚ whole 5) (int_add (2 * n) (3 * m)) in
    nat_lt_out t (2 * n + 3 * m + 5) (sums s u (whole t) (whole n) (whole m) (whole (2 * n)) (whole (3 * m)) (whole (2 * n + 3 * m + 5)) e a b p q r)
  where
    sums : (s u t n m p q k : ℚ) → s +ℚ u ≡ t → s <ℚ whole 2 *ℚ n +ℚ whole 2 → u <ℚ whole 3 *ℚ m +ℚ whole 3 → p ≡ whole 2 *ℚ n → q ≡ whole 3 *ℚ m
        → k ≡ (p +ℚ q) +ℚ whole 5 → t <ℚ k
    sums s u t n m p q k e a b x y z = with8 s u t n m p q k (λ c. omega (arith, c.le, c.lt, c.same))

-- whatever number of steps leaves less than a step of each to t, k packets are there
abbrev AreThere : ℕ → ℕ → Type 0
AreThere t k = (n m : ℕ) → t < 2 * n + 3 * m + 5 → k ≤ n + m + 2

packets : (k n m : ℕ) → k ≤ n + m + 2 → whole k ≤ℚ (whole 1 +ℚ whole 1 *ℚ whole n) +ℚ (whole 1 +ℚ whole 1 *ℚ whole m)
packets k n m h =
    let l = nat_le k (n + m + 2) h in
    let e : whole (n + m + 2) ≡ (whole n +ℚ whole m) +ℚ whole 2 = int_add (n + m) 2 ∙ ap (λ z. z +ℚ whole 2) (int_add n m) in
    sums (whole k) (whole n) (whole m) (whole (n + m + 2)) l e
  where
    sums : (k n m j : ℚ) → k ≤ℚ j → j ≡ (n +ℚ m) +ℚ whole 2 → k ≤ℚ (whole 1 +ℚ whole 1 *ℚ n) +ℚ (whole 1 +ℚ whole 1 *ℚ m)
    sums k n m j l e = with4 k n m j (λ c. omega (arith, c.le, c.lt, c.same))

abbrev twos : ℚ → Ext
twos x = value_at (stair (whole 1) (whole 2) (whole 0)) x

abbrev threes : ℚ → Ext
threes x = value_at (stair (whole 1) (whole 3) (whole 0)) x

together : (t k : ℕ) → AreThere t k → (s : Split (whole t)) → twos s.first +ₑ threes s.second ≡ Fin (whole k)
    → IsConvolution (value_at (stair (whole 1) (whole 2) (whole 0))) (value_at (stair (whole 1) (whole 3) (whole 0))) (whole t) (Fin (whole k))
together t k there s value =
    subst (λ w. IsConvolution (value_at (stair (whole 1) (whole 2) (whole 0))) (value_at (stair (whole 1) (whole 3) (whole 0))) (whole t) w) value
    (least_member {I = Split (whole t)} (λ x. twos x.first +ₑ threes x.second) s (λ x. rw value (at_least x)))
  where
    at_least : (x : Split (whole t)) → Fin (whole k) ≤ₑ twos x.first +ₑ threes x.second
    at_least x =
        let S = steps_at 1 2 x.first (some_of 1 (omega arith)) (some_of 2 (omega arith)) x.first_nonneg in
        let T = steps_at 1 3 x.second (some_of 1 (omega arith)) (some_of 3 (omega arith)) x.second_nonneg in
        rw (S.is, T.is) (packets k S.n T.n (there S.n T.n (far t S.n T.n x.first x.second x.whole S.high T.high)))

split_4 : Split (whole 4)
unfolding computing
split_4 = record {
  first = frac (pos 3) 1;
  second = frac (pos 5) 1;
  first_nonneg = frac_nonneg (pos 3) 1 (omega (arith, ints));
  second_nonneg = frac_nonneg (pos 5) 1 (omega (arith, ints));
  whole = same_parts _ _ refl refl;
}

split_5 : Split (whole 5)
unfolding computing
split_5 = record { first = whole 1; second = whole 4; first_nonneg = nat_nonneg 1; second_nonneg = nat_nonneg 4; whole = same_parts _ _ refl refl }

split_8 : Split (whole 8)
unfolding computing
split_8 = record { first = whole 1; second = whole 7; first_nonneg = nat_nonneg 1; second_nonneg = nat_nonneg 7; whole = same_parts _ _ refl refl }

sum_4 : twos (frac (pos 3) 1) +ₑ threes (frac (pos 5) 1) ≡ Fin (whole 2)
unfolding computing
sum_4 = ap Fin (same_parts _ _ refl refl)

sum_5 : twos (whole 1) +ₑ threes (whole 4) ≡ Fin (whole 3)
unfolding computing
sum_5 = ap Fin (same_parts _ _ refl refl)

sum_8 : twos (whole 1) +ₑ threes (whole 7) ≡ Fin (whole 4)
unfolding computing
sum_8 = ap Fin (same_parts _ _ refl refl)

pub two_stairs : TwoStairs
unfolding split_4 split_5 split_8 frac
two_stairs = record {
  at_4 = together 4 2 (λ n m h. omega arith) split_4 sum_4;
  at_5 = together 5 3 (λ n m h. omega arith) split_5 sum_5;
  at_8 = together 8 4 (λ n m h. omega arith) split_8 sum_8;
}
