-- The excess of parts by their steps: the first burst where no step is faster, else where the last that is faster meets the next; none where each is faster.
use Rattle.std.specs.Prelude.{◌≡◌, ℕ, zero, suc, ◌+◌, ◌-◌, ◌*◌, ◌<◌, ◌≤◌, List, get_or, length, nat_lt, Bool, true}
use Rattle.std.proofs.Common.{arith, sym, ap, subst, ◌∙◌, inl, inr}
use Rattle.std.proofs.lemmas.Bool.Decides.{nat_tests}
use Rattle.rational.specs.Rational.{ℚ, ◌+ℚ◌, ◌-ℚ◌, ◌*ℚ◌, ◌/ℚ◌, ◌≤ℚ◌, ◌<ℚ◌}
use Rattle.rational.proofs.Laws.{le_or_lt, le_refl, mul_comm, mul_assoc, mul_add, mul_sub, add_mul, mul_zero, mul_le_mul, mul_le_mul_right, div_mul, not_zero}
use Rattle.rational.proofs.Quotients.{div_nonneg, times_above}
use Rattle.rational.proofs.Integers.{nat_nonneg}
use Rattle.rational.proofs.Linear.{with2, with4, with5, with6, with7, with8}
use Rattle.min_plus.specs.Functions.{zero_q, whole}
use Rattle.arrival_lines.specs.Grid.{grain, bits, speed, line_value, parts_value}
use Rattle.arrival_lines.specs.Steps.{AreSteps, AreSlowing}
use Rattle.arrival_lines.specs.Excess.{IsExcess, IsEndless}
use Rattle.arrival_lines.specs.declared.grid.Line.{Line}
use Rattle.arrival_lines.specs.declared.grid.Part.{Part}
use Rattle.arrival_lines.proofs.Cut.{cut_bounds, slower_bounds}
use Rattle.arrival_lines.proofs.Units.{grain_some, bits_nonneg, bits_le, speed_add, speed_le, speed_nonneg, speed_some, weighed_less}

-- x is less than g above the height at the time t at which two lines meet
near_meeting : (a b s q x g t : ℚ) → zero_q ≤ℚ s → zero_q <ℚ q → (s +ℚ q) *ℚ t ≡ b -ℚ a → (s +ℚ q) *ℚ x <ℚ (s *ℚ a +ℚ q *ℚ b) +ℚ (s +ℚ q) *ℚ g
    → x <ℚ (a +ℚ q *ℚ t) +ℚ g
near_meeting a b s q x g t hs hq meet less = elim (le_or_lt ((a +ℚ q *ℚ t) +ℚ g) x) [
  | inr l ↦ l
  | inl h ↦
      let w_on : zero_q ≤ℚ s +ℚ q = with2 s q (λ c. omega (arith, c.le, c.lt, c.same)) in
      let k = mul_le_mul (s +ℚ q) w_on h in
      let e1 = mul_add (s +ℚ q) (a +ℚ q *ℚ t) g in
      let e2 = mul_add (s +ℚ q) a (q *ℚ t) in
      let e3 = add_mul s q a in
      let e4 : (s +ℚ q) *ℚ (q *ℚ t) ≡ q *ℚ b -ℚ q *ℚ a =
      sym (mul_assoc (s +ℚ q) q t) ∙ ap (λ z. z *ℚ t) (mul_comm (s +ℚ q) q) ∙ mul_assoc q (s +ℚ q) t ∙ ap (λ z. q *ℚ z) meet ∙ mul_sub q b a in
      absurd (clash ((s +ℚ q) *ℚ x) ((s +ℚ q) *ℚ ((a +ℚ q *ℚ t) +ℚ g)) ((s +ℚ q) *ℚ (a +ℚ q *ℚ t)) ((s +ℚ q) *ℚ g) ((s +ℚ q) *ℚ a) (s *ℚ a) (q *ℚ a) (q *ℚ b) k
      (e1 ∙ ap (λ z. z +ℚ (s +ℚ q) *ℚ g) e2) e3 e4 less)
]
  where
    clash : (wx all v wg wa sa qa qb : ℚ) → all ≤ℚ wx → all ≡ (wa +ℚ ((s +ℚ q) *ℚ (q *ℚ t))) +ℚ wg → wa ≡ sa +ℚ qa → (s +ℚ q) *ℚ (q *ℚ t) ≡ qb -ℚ qa → wx <ℚ (sa +ℚ qb) +ℚ wg → ⊥
    clash wx all v wg wa sa qa qb k e e3 e4 less =
        let y = (s +ℚ q) *ℚ (q *ℚ t) in
        with8 wx all y wg wa sa qa qb (λ c. omega (arith, c.le, c.lt, c.same))

-- the same by the numbers of the lines, at the time at which they meet
module _ (a b fast slow rate x : ℕ) (low : slow ≤ rate) (high : rate < fast) (up : a ≤ b)
    (least : x * ((rate - slow) + (fast - rate)) < a * (rate - slow) + b * (fast - rate) + ((rate - slow) + (fast - rate))) where
  s : ℕ
  s = rate - slow

  q : ℕ
  q = fast - rate

  gap : ℚ
  gap = speed (rate - slow) +ℚ speed (fast - rate)

  gap_some : zero_q <ℚ speed (rate - slow) +ℚ speed (fast - rate)
  gap_some =
      let y = speed (rate - slow) in
      let z = speed (fast - rate) in
      let h = speed_nonneg (rate - slow) in
      let k = speed_some (fast - rate) (omega (arith, high)) in
      with2 y z (λ c. omega (arith, c.le, c.lt, c.same))

  meets : ℚ
  meets = (bits b -ℚ bits a) /ℚ (speed (rate - slow) +ℚ speed (fast - rate))

  meets_on : zero_q ≤ℚ (bits b -ℚ bits a) /ℚ (speed (rate - slow) +ℚ speed (fast - rate))
  meets_on =
      let h = bits_le a b up in
      let y = bits a in
      let z = bits b in
      div_nonneg (bits b -ℚ bits a) (speed (rate - slow) +ℚ speed (fast - rate)) gap_some (with2 y z (λ c. omega (arith, c.le, c.lt, c.same)))

  meets_is : (speed (rate - slow) +ℚ speed (fast - rate)) *ℚ ((bits b -ℚ bits a) /ℚ (speed (rate - slow) +ℚ speed (fast - rate))) ≡ bits b -ℚ bits a
  meets_is =
      mul_comm (speed (rate - slow) +ℚ speed (fast - rate)) _ ∙ div_mul (bits b -ℚ bits a) (speed (rate - slow) +ℚ speed (fast - rate)) (not_zero _ gap_some)

  up_is : speed fast ≡ speed rate +ℚ speed (fast - rate)
  up_is = let e : fast ≡ rate + (fast - rate) = omega (arith, high) in ap speed e ∙ speed_add rate (fast - rate)

  down_is : speed rate ≡ speed slow +ℚ speed (rate - slow)
  down_is = let e : rate ≡ slow + (rate - slow) = omega (arith, low) in ap speed e ∙ speed_add slow (rate - slow)

  pub meeting : (t : ℚ) × (zero_q ≤ℚ t) × (bits a +ℚ speed fast *ℚ t ≡ bits b +ℚ speed slow *ℚ t) × (bits x +ℚ speed rate *ℚ t <ℚ (bits a +ℚ speed fast *ℚ t) +ℚ grain)
  meeting = at_time ((bits b -ℚ bits a) /ℚ (speed (rate - slow) +ℚ speed (fast - rate))) meets_on meets_is
    where
      at_time : (t : ℚ) → zero_q ≤ℚ t → (speed (rate - slow) +ℚ speed (fast - rate)) *ℚ t ≡ bits b -ℚ bits a
          → (t : ℚ) × (zero_q ≤ℚ t) × (bits a +ℚ speed fast *ℚ t ≡ bits b +ℚ speed slow *ℚ t) × (bits x +ℚ speed rate *ℚ t <ℚ (bits a +ℚ speed fast *ℚ t) +ℚ grain)
      at_time t on e =
          let fu = ap (λ z. z *ℚ t) up_is ∙ add_mul (speed rate) (speed (fast - rate)) t in
          let du = ap (λ z. z *ℚ t) down_is ∙ add_mul (speed slow) (speed (rate - slow)) t in
          let gu = sym (add_mul (speed (rate - slow)) (speed (fast - rate)) t) ∙ e in
          let n = near_meeting (bits a) (bits b) (speed (rate - slow)) (speed (fast - rate)) (bits x) grain t (speed_nonneg (rate - slow)) (speed_some (fast - rate) (omega (arith, high))) e (weighed_less a b (rate - slow) (fast - rate) x least) in
          (t, on, same (bits a) (bits b) (speed fast *ℚ t) (speed slow *ℚ t) (speed rate *ℚ t) (speed (fast - rate) *ℚ t) (speed (rate - slow) *ℚ t) fu du gu, near (bits x) (bits a) (speed rate *ℚ t) (speed (fast - rate) *ℚ t) (speed fast *ℚ t) grain n fu)
        where
          same : (k m f l r u v : ℚ) → f ≡ r +ℚ u → r ≡ l +ℚ v → v +ℚ u ≡ m -ℚ k → k +ℚ f ≡ m +ℚ l
          same k m f l r u v h1 h2 h3 = with7 k m f l r u v (λ c. omega (arith, c.le, c.lt, c.same))

          near : (y k r u f g : ℚ) → y <ℚ (k +ℚ u) +ℚ g → f ≡ r +ℚ u → y +ℚ r <ℚ (k +ℚ f) +ℚ g
          near y k r u f g h e = with6 y k r u f g (λ c. omega (arith, c.le, c.lt, c.same))

pub excess_first : (parts : List Part) (lines : List Line) (rate : ℕ) (d : Line) → AreSteps parts lines → (get_or lines 0 d).rate ≤ rate
    → IsExcess parts rate (get_or lines 0 d).burst
excess_first parts lines rate d are slow = record {
  over = λ t on. slower_bounds (get_or lines 0 d).burst (get_or lines 0 d).rate rate t (parts_value parts t) on slow ((are.each 0 d are.some).above.above t on);
  at = zero_q;
  on = le_refl zero_q;
  near =
      let h = are.first d in
      let m = mul_zero (speed (get_or lines 0 d).rate) in
      let n = mul_zero (speed rate) in
      joined (bits (get_or lines 0 d).burst) (speed (get_or lines 0 d).rate *ℚ zero_q) (speed rate *ℚ zero_q) (parts_value parts zero_q) grain m n h grain_some;
}
  where
    joined : (b p r s g : ℚ) → p ≡ zero_q → r ≡ zero_q → b +ℚ p ≤ℚ s → zero_q <ℚ g → b +ℚ r <ℚ s +ℚ g
    joined b p r s g m n h k = with5 b p r s g (λ c. omega (arith, c.le, c.lt, c.same))

pub excess_cut : (parts : List Part) (lines : List Line) (rate x k : ℕ) (d : Line) → AreSteps parts lines → suc k < length lines
    → let a = get_or lines k d in let b = get_or lines (suc k) d in rate < a.rate → b.rate ≤ rate
    → a.burst * (rate - b.rate) + b.burst * (a.rate - rate) ≤ x * ((rate - b.rate) + (a.rate - rate))
    → x * ((rate - b.rate) + (a.rate - rate)) < a.burst * (rate - b.rate) + b.burst * (a.rate - rate) + ((rate - b.rate) + (a.rate - rate))
    → IsExcess parts rate x
excess_cut parts lines rate x k d are inside fast slow above least =
    let a = get_or lines k d in
    let b = get_or lines (suc k) d in
    let (t, on, same, near) = meeting a.burst b.burst a.rate b.rate rate x slow fast (are.rising k d inside) least in
    record {
      over = λ u from. cut_bounds a.burst b.burst a.rate b.rate rate x u (parts_value parts u) slow fast above ((are.each k d (omega arith)).above.above u from) ((are.each (suc k) d inside).above.above u from);
      at = t;
      on = on;
      near = joined (bits x +ℚ speed rate *ℚ t) (line_value a t) (parts_value parts t) grain near (are.meet t k d on inside same);
    }
  where
    joined : (y l s g : ℚ) → y <ℚ l +ℚ g → l ≤ℚ s → y <ℚ s +ℚ g
    joined y l s g h k = with4 y l s g (λ c. omega (arith, c.le, c.lt, c.same))

-- by the places of the two
pub excess_at : (parts : List Part) (lines : List Line) (rate k : ℕ) (d : Line) → k ≡ 0 → AreSteps parts lines → (get_or lines k d).rate ≤ rate
    → IsExcess parts rate (get_or lines k d).burst
excess_at parts lines rate k d e are =
    subst (λ (n : ℕ). (get_or lines n d).rate ≤ rate → IsExcess parts rate (get_or lines n d).burst) (sym e) (excess_first parts lines rate d are)

pub excess_between : (parts : List Part) (lines : List Line) (rate x j k : ℕ) (d : Line) → k ≡ suc j → AreSteps parts lines → k < length lines
    → let a = get_or lines j d in let b = get_or lines k d in rate < a.rate → b.rate ≤ rate
    → a.burst * (rate - b.rate) + b.burst * (a.rate - rate) ≤ x * ((rate - b.rate) + (a.rate - rate))
    → x * ((rate - b.rate) + (a.rate - rate)) < a.burst * (rate - b.rate) + b.burst * (a.rate - rate) + ((rate - b.rate) + (a.rate - rate))
    → IsExcess parts rate x
excess_between parts lines rate x j k d e are = subst Cut (sym e) (excess_cut parts lines rate x j d are)
  where
    Cut : ℕ → Type 0
    Cut n =
        let a = get_or lines j d in
        let b = get_or lines n d in
        n < length lines → rate < a.rate → b.rate ≤ rate
        → a.burst * (rate - b.rate) + b.burst * (a.rate - rate) ≤ x * ((rate - b.rate) + (a.rate - rate))
        → x * ((rate - b.rate) + (a.rate - rate)) < a.burst * (rate - b.rate) + b.burst * (a.rate - rate) + ((rate - b.rate) + (a.rate - rate))
        → IsExcess parts rate x

pub endless : (parts : List Part) (lines : List Line) (rate : ℕ) → AreSteps parts lines → ((k : ℕ) (d : Line) → k < length lines → rate < (get_or lines k d).rate) → IsEndless parts rate
endless parts lines rate are fast = λ y. far y (times_above y (speed 1) (speed_some 1 (omega arith)))
  where
    far : (y : ℚ) → ((n : ℕ) × (y <ℚ whole n *ℚ speed 1)) → (t : ℚ) × (zero_q ≤ℚ t) × (y +ℚ speed rate *ℚ t <ℚ parts_value parts t)
    far y (n, past) =
        let d : Line = record { burst = 0; rate = 0 } in
        let t = whole n in
        let (k, below, h) = are.reached (whole n) (nat_nonneg n) in
        let l = get_or lines k d in
        let a = mul_le_mul_right (whole n) (nat_nonneg n) (speed_le (rate + 1) l.rate (let f = fast k d below in omega (arith, f))) in
        let e = ap (λ z. z *ℚ whole n) (speed_add rate 1) ∙ add_mul (speed rate) (speed 1) (whole n) in
        let m = mul_comm (speed 1) (whole n) in
        let b = bits_nonneg l.burst in
        (whole n, nat_nonneg n, joined y (whole n *ℚ speed 1) (speed 1 *ℚ whole n) (speed rate *ℚ whole n) (speed (rate + 1) *ℚ whole n) (speed l.rate *ℚ whole n) (bits l.burst) (parts_value parts (whole n)) past m e a b (h d))
      where
        joined : (y u v r w p b s : ℚ) → y <ℚ u → v ≡ u → w ≡ r +ℚ v → w ≤ℚ p → zero_q ≤ℚ b → b +ℚ p ≤ℚ s → y +ℚ r <ℚ s
        joined y u v r w p b s h1 h2 h3 h4 h5 h6 = with8 y u v r w p b s (λ c. omega (arith, c.le, c.lt, c.same))

-- ---- in order of their rates
-- the steps that are faster come first
abbrev pub is_faster : ℕ → Line → Bool
is_faster rate line = nat_lt rate line.rate

slows : (lines : List Line) (i n : ℕ) (d : Line) → AreSlowing lines → i + n < length lines → (get_or lines (i + n) d).rate ≤ (get_or lines i d).rate
slows lines i zero d are h = let e : i + 0 ≡ i = omega arith in subst (λ (m : ℕ). (get_or lines m d).rate ≤ (get_or lines i d).rate) (sym e) (omega arith)
slows lines i (suc n) d are h =
    let e : i + suc n ≡ suc (i + n) = omega arith in
    let a = slows lines i n d are (omega arith) in
    let b = are.falling (i + n) d (omega arith) in
    subst (λ (m : ℕ). (get_or lines m d).rate ≤ (get_or lines i d).rate) (sym e) (omega (arith, a, b))

pub parted : (lines : List Line) (rate : ℕ) → AreSlowing lines → (i j : ℕ) (d : Line) → i ≤ j → j < length lines → is_faster rate (get_or lines j d) ≡ true
    → is_faster rate (get_or lines i d) ≡ true
parted lines rate are i j d h inside fast =
    let e : i + (j - i) ≡ j = omega arith in
    let a = subst (λ (m : ℕ). (get_or lines m d).rate ≤ (get_or lines i d).rate) e (slows lines i (j - i) d are (omega arith)) in
    faster_still rate (get_or lines j d).rate (get_or lines i d).rate a fast
  where
    faster_still : (r a b : ℕ) → a ≤ b → nat_lt r a ≡ true → nat_lt r b ≡ true
    faster_still r a b h e = grind (arith, nat_tests)
