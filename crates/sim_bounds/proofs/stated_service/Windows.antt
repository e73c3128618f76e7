-- How long a gate is open at least in a window of some length.
use Rattle.std.proofs.Common.{◌≡◌, ℕ, ◌+◌, ap, ◌∙◌, subst, arith, inl, inr}
use Rattle.std.specs.Prelude.{pos}
use Rattle.std.proofs.lemmas.Bool.{cases_order}
use Rattle.rational.specs.Rational.{ℚ, int, ◌+ℚ◌, ◌-ℚ◌, ◌*ℚ◌, ◌/ℚ◌, ◌≤ℚ◌, ◌<ℚ◌}
use Rattle.rational.specs.MinMax.{min_q, max_q}
use Rattle.rational.specs.Whole.{whole_part}
use Rattle.rational.proofs.Linear.{with2, with3, with4, with5}
use Rattle.rational.proofs.Laws.{le_refl, le_trans, le_of_lt, lt_le_trans, mul_sub, add_mul, antisym, mul_nonneg}
use Rattle.rational.proofs.MinMax.{min_q_le_right, min_q_ge, min_q_mono, max_q_le}
use Rattle.rational.proofs.Quotients.{div_le}
use Rattle.rational.proofs.Integers.{nat_nonneg}
use Rattle.min_plus.specs.WholeUp.{whole_up}
use Rattle.upp_limits.proofs.Rounding.{whole_up_least}
use Rattle.run_laws.specs.Cards.{whole}
use Rattle.run_laws.proofs.Sizes.{whole_sum}
use Rattle.sim_bounds.proofs.OpenTime.{cycles, IsInCycle, in_cycle, cycle_order, fewer, gate_time, gate_lipschitz}

-- ---- open time never falls
rises : (c s : ℚ) → int (pos 0) <ℚ s → s ≤ℚ c → (x y : ℚ) → int (pos 0) ≤ℚ x → x ≤ℚ y → gate_time c s x ≤ℚ gate_time c s y
rises c s some within x y from l =
    let long : int (pos 0) <ℚ c = lt_le_trans some within in
    let m = cycles c x in let n = cycles c y in
    let a = in_cycle c x long from in
    let b = in_cycle c y long (le_trans from l) in
    elim (cases_order m n) [
      | inl e ↦ same (whole m *ℚ s) (whole n *ℚ s) (whole m *ℚ c) (whole n *ℚ c) (ap (λ k. whole k *ℚ s) e) (ap (λ k. whole k *ℚ c) e)
      | inr d ↦ elim d [
        | inl less ↦
            let p = fewer s m n (le_of_lt some) (omega (arith, less)) in
            let q = min_q_le_right (x -ℚ whole m *ℚ c) s in
            let begun = b.begun in
            let r : int (pos 0) ≤ℚ min_q (y -ℚ whole n *ℚ c) s =
            min_q_ge (y -ℚ whole n *ℚ c) s (int (pos 0)) (with2 y (whole n *ℚ c) (λ o. omega (arith, o.le, o.lt, o.same))) (le_of_lt some) in
            with5 (whole m *ℚ s) (whole n *ℚ s) s (min_q (x -ℚ whole m *ℚ c) s) (min_q (y -ℚ whole n *ℚ c) s) (λ o. omega (arith, o.le, o.lt, o.same))
        | inr more ↦ absurd (let k = cycle_order c x y m n long a b l in omega (arith, k, more))
      ]
    ]
  where
    same : (ms ns mc nc : ℚ) → ms ≡ ns → mc ≡ nc → ms +ℚ min_q (x -ℚ mc) s ≤ℚ ns +ℚ min_q (y -ℚ nc) s
    same ms ns mc nc e f =
        let p = min_q_mono (x -ℚ mc) s (y -ℚ nc) s (with4 x y mc nc (λ o. omega (arith, o.le, o.lt, o.same))) (le_refl s) in
        with4 ms ns (min_q (x -ℚ mc) s) (min_q (y -ℚ nc) s) (λ o. omega (arith, o.le, o.lt, o.same))

-- ---- k cycles later it is k slots more
whole_times : (m n : ℕ) (d : ℚ) → whole (m + n) *ℚ d ≡ whole m *ℚ d +ℚ whole n *ℚ d
whole_times m n d = ap (λ x. x *ℚ d) (whole_sum m n) ∙ add_mul (whole m) (whole n) d

moved : (c s : ℚ) → int (pos 0) <ℚ s → s ≤ℚ c → (t : ℚ) → int (pos 0) ≤ℚ t → (k : ℕ) → gate_time c s (t +ℚ whole k *ℚ c) ≡ gate_time c s t +ℚ whole k *ℚ s
moved c s some within t from k =
    let long : int (pos 0) <ℚ c = lt_le_trans some within in
    let n = cycles c t in
    let u = t +ℚ whole k *ℚ c in
    let far = mul_nonneg (nat_nonneg k) (le_of_lt long) in
    let late : int (pos 0) ≤ℚ u = with2 t (whole k *ℚ c) (λ o. omega (arith, o.le, o.lt, o.same)) in
    let a = in_cycle c t long from in
    let b = in_cycle c u long late in
    let sum = whole_times n k c in
    let begun = a.begun in
    let goes_on = a.goes_on in
    let here : IsInCycle c u (n + k) = record {
      begun = with4 t (whole n *ℚ c) (whole k *ℚ c) (whole (n + k) *ℚ c) (λ o. omega (arith, o.le, o.lt, o.same));
      goes_on = with5 t c (whole n *ℚ c) (whole k *ℚ c) (whole (n + k) *ℚ c) (λ o. omega (arith, o.le, o.lt, o.same));
    } in
    let one = cycle_order c u u (cycles c u) (n + k) long b here (le_refl u) in
    let two = cycle_order c u u (n + k) (cycles c u) long here b (le_refl u) in
    let same : cycles c u ≡ n + k = omega (arith, one, two) in
    let slots : whole (cycles c u) *ℚ s ≡ whole n *ℚ s +ℚ whole k *ℚ s = ap (λ i. whole i *ℚ s) same ∙ whole_times n k s in
    let rest : u -ℚ whole (cycles c u) *ℚ c ≡ t -ℚ whole n *ℚ c =
    ap (λ i. u -ℚ whole i *ℚ c) same ∙ antisym (with4 t (whole n *ℚ c) (whole k *ℚ c) (whole (n + k) *ℚ c) (λ o. omega (arith, o.le, o.lt, o.same))) in
    ap (λ x. x +ℚ min_q (u -ℚ whole (cycles c u) *ℚ c) s) slots ∙ ap (λ x. (whole n *ℚ s +ℚ whole k *ℚ s) +ℚ min_q x s) rest
    ∙ swapped (whole n *ℚ s) (whole k *ℚ s) (min_q (t -ℚ whole n *ℚ c) s)
  where
    swapped : (x y z : ℚ) → (x +ℚ y) +ℚ z ≡ (x +ℚ z) +ℚ y
    swapped x y z = antisym (with3 x y z (λ o. omega (arith, o.le, o.lt, o.same)))

-- ---- a window of y: it holds floor (y / c) whole cycles, and is closed for at most ceil (y / c) times the rest of one
pub window_open : (c s : ℚ) → int (pos 0) <ℚ s → s ≤ℚ c → (a b : ℚ) → int (pos 0) ≤ℚ a → a ≤ℚ b
    → gate_time c s a +ℚ max_q (int (pos (whole_part ((b -ℚ a) /ℚ c))) *ℚ s) ((b -ℚ a) -ℚ int (pos (whole_up ((b -ℚ a) /ℚ c))) *ℚ (c -ℚ s)) ≤ℚ gate_time c s b
window_open c s some within a b from l =
    let long : int (pos 0) <ℚ c = lt_le_trans some within in
    let y = b -ℚ a in
    let y0 : int (pos 0) ≤ℚ y = with2 a b (λ o. omega (arith, o.le, o.lt, o.same)) in
    let n = whole_part (y /ℚ c) in
    let m = whole_up (y /ℚ c) in
    let low = (in_cycle c y long y0).begun in
    let high : y ≤ℚ whole m *ℚ c = (div_le y c (whole m) long).0 (whole_up_least (y /ℚ c)) in
    let n0 = mul_nonneg (nat_nonneg n) (le_of_lt long) in
    let m0 = mul_nonneg (nat_nonneg m) (le_of_lt long) in
    let one : gate_time c s a +ℚ whole n *ℚ s ≤ℚ gate_time c s b =
    subst (λ x. x ≤ℚ gate_time c s b) (moved c s some within a from n)
    (rises c s some within (a +ℚ whole n *ℚ c) b (with2 a (whole n *ℚ c) (λ o. omega (arith, o.le, o.lt, o.same))) (with3 a b (whole n *ℚ c) (λ o. omega (arith, o.le, o.lt, o.same)))) in
    let far = gate_lipschitz c s some within b (a +ℚ whole m *ℚ c) (le_trans from l) (with3 a b (whole m *ℚ c) (λ o. omega (arith, o.le, o.lt, o.same))) in
    let is = moved c s some within a from m in
    let parts = mul_sub (whole m) c s in
    let two : gate_time c s a +ℚ (y -ℚ whole m *ℚ (c -ℚ s)) ≤ℚ gate_time c s b =
    last (gate_time c s a) (gate_time c s b) (gate_time c s (a +ℚ whole m *ℚ c)) (whole m *ℚ c) (whole m *ℚ s) (whole m *ℚ (c -ℚ s)) far is parts in
    let both : max_q (whole n *ℚ s) (y -ℚ whole m *ℚ (c -ℚ s)) ≤ℚ gate_time c s b -ℚ gate_time c s a =
    max_q_le (whole n *ℚ s) (y -ℚ whole m *ℚ (c -ℚ s)) (gate_time c s b -ℚ gate_time c s a)
    (with3 (gate_time c s a) (gate_time c s b) (whole n *ℚ s) (λ o. omega (arith, o.le, o.lt, o.same)))
    (with5 (gate_time c s a) (gate_time c s b) a b (whole m *ℚ (c -ℚ s)) (λ o. omega (arith, o.le, o.lt, o.same))) in
    with3 (gate_time c s a) (gate_time c s b) (max_q (whole n *ℚ s) (y -ℚ whole m *ℚ (c -ℚ s))) (λ o. omega (arith, o.le, o.lt, o.same))
  where
    last : (ga gb gm mc ms mr : ℚ) → gm ≤ℚ gb +ℚ ((a +ℚ mc) -ℚ b) → gm ≡ ga +ℚ ms → mr ≡ mc -ℚ ms → ga +ℚ ((b -ℚ a) -ℚ mr) ≤ℚ gb
    last ga gb gm mc ms mr h e f = Rattle.rational.proofs.Linear.with8 ga gb gm mc ms mr a b (λ o. omega (arith, o.le, o.lt, o.same))
