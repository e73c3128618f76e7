-- From a time on a line that grows no faster than a rate is no further above it than then.
use Rattle.std.specs.Prelude.{◌≡◌, ℕ, zero, suc, ◌+◌, ◌-◌, ◌*◌, ◌^◌, ◌<◌, ◌≤◌, min, List, [], ◌∷◌, length, get_or}
use Rattle.std.proofs.Common.{arith, ap, sym, ◌∙◌, refl, subst, inl, inr}
use Rattle.std.specs.Int.{div_ceil}
use Rattle.std.proofs.lemmas.Bool.{cases_lt}
use Rattle.std.proofs.lemmas.List.{get_or_default}
use Rattle.rational.specs.Rational.{ℚ, ◌+ℚ◌, ◌*ℚ◌, ◌≤ℚ◌}
use Rattle.rational.proofs.Laws.{add_mul, mul_le_mul, le_trans, le_or_lt, le_of_lt}
use Rattle.rational.proofs.Linear.{with_atoms}
use Rattle.arrival_lines.specs.Grid.{bits, speed, micros, line_value}
use Rattle.arrival_lines.specs.Steps.{AreSteps}
use Rattle.arrival_lines.specs.declared.grid.Line.{Line}
use Rattle.arrival_lines.specs.declared.grid.Part.{Part}
use Rattle.arrival_lines.proofs.Units.{bits_add, bits_le, speed_add, speed_nonneg, brings, up_covers}
use Rattle.arrival_heights.proofs.Concave.{no_line}
use Rattle.arrival_heights.proofs.Split.{below_more}
use Rattle.arrival_stairs.specs.Horizon.{IsOneAhead, IsTailOfFirst}
use Rattle.arrival_heights.specs.Slow.{IsSlowBurst}
use Rattle.arrival_stairs.specs.Stairs.{bundles_at}
use Rattle.arrival_stairs.specs.StairExcess.{ExcessIsABound, IsTail, line_ahead}
use Rattle.arrival_heights.proofs.Ceilings.{ceil_most}
use Rattle.arrival_stairs.proofs.UnderLines.{bundles_below_lines}

-- one line
pub line_tail : (line : Line) (rate end x : ℕ) (v t : ℚ) → line.rate ≤ rate → x ≡ div_ceil (line.burst * 10 ^ 12 - (rate - line.rate) * end) (10 ^ 12)
    → micros end ≤ℚ t → v ≤ℚ line_value line t → v ≤ℚ bits x +ℚ speed rate *ℚ t
line_tail line rate end x v t slow is later h =
    let k = up_covers (line.burst * 10 ^ 12 - (rate - line.rate) * end) (10 ^ 12) x (omega arith) is in
    let b = brings (line.burst - x) (rate - line.rate) end (omega (arith, k)) in
    let l = mul_le_mul (speed (rate - line.rate)) (speed_nonneg (rate - line.rate)) later in
    let e : rate ≡ line.rate + (rate - line.rate) = omega (arith, slow) in
    let f = ap (λ n. speed n *ℚ t) e ∙ ap (λ z. z *ℚ t) (speed_add line.rate (rate - line.rate)) ∙ add_mul (speed line.rate) (speed (rate - line.rate)) t in
    let g = bits_le line.burst (x + (line.burst - x)) (omega arith) in
    let m = bits_add x (line.burst - x) in
    joined v (bits line.burst) (bits x) (bits (line.burst - x)) (bits (x + (line.burst - x))) (speed line.rate *ℚ t) (speed (rate - line.rate) *ℚ t) (speed rate *ℚ t) h (le_trans b l) f g m
  where
    joined : (v b x d s u w r : ℚ) → v ≤ℚ b +ℚ u → d ≤ℚ w → r ≡ u +ℚ w → b ≤ℚ s → s ≡ x +ℚ d → v ≤ℚ x +ℚ r
    joined v b x d s u w r h k f g m = with_atoms (v ∷ b ∷ x ∷ d ∷ s ∷ u ∷ w ∷ r ∷ []) (λ c. omega (arith, c.le, c.lt, c.same))

-- a line more
one_later : (lines : List Line) (rate end i x : ℕ) → IsOneAhead lines rate end i x → IsOneAhead lines rate end (i + 1) x
one_later lines rate end i x one =
    record { line = one.line; inside = let h = one.inside in omega (arith, h); slow = one.slow; is = one.is }

pub slower : (lines : List Line) (rate most end i a b : ℕ) (d : Line) → i < length lines → (get_or lines i d).rate ≤ rate
    → b ≡ min a (line_ahead (get_or lines i d) rate end) → IsTailOfFirst lines rate most end i a → IsTailOfFirst lines rate most end (i + 1) b
slower lines rate most end i a b d inside slow is so_far = record {
  least = let h = so_far.least in omega (arith, h, is);
  each = λ k e h slower. elim (cases_lt k i) [
    | inl l ↦ let m = so_far.each k e l slower in omega (arith, m, is)
    | inr l ↦
        let g = ap (λ (line : Line). line_ahead line rate end) (same k e (omega (arith, h, l))) in
        omega (arith, is, g)
  ];
  one = λ less. elim (cases_lt (line_ahead (get_or lines i d) rate end) a) [
    | inl here ↦ record {
      line = i;
      inside = omega arith;
      slow = λ e. subst (λ (line : Line). line.rate ≤ rate) (same i e refl) slow;
      is = λ e. let g = ap (λ (line : Line). line_ahead line rate end) (same i e refl) in omega (arith, g, is, here);
    }
    | inr before ↦
        let e : a ≡ b = omega (arith, is, before) in
        subst (λ (n : ℕ). IsOneAhead lines rate end (i + 1) n) e (one_later lines rate end i a (so_far.one (omega (arith, e, less))))
  ];
}
  where
    same : (k : ℕ) (e : Line) → i ≡ k → get_or lines i d ≡ get_or lines k e
    same k e at = get_or_default lines i d e inside ∙ ap (λ (n : ℕ). get_or lines n e) at

pub faster : (lines : List Line) (rate most end i a : ℕ) (d : Line) → i < length lines → rate < (get_or lines i d).rate
    → IsTailOfFirst lines rate most end i a → IsTailOfFirst lines rate most end (i + 1) a
faster lines rate most end i a d inside fast so_far = record {
  least = so_far.least;
  each = λ k e h slower. elim (cases_lt k i) [
    | inl l ↦ so_far.each k e l slower
    | inr l ↦
        let same : i ≡ k = omega (arith, h, l) in
        let f : get_or lines i d ≡ get_or lines k e = get_or_default lines i d e inside ∙ ap (λ (n : ℕ). get_or lines n e) same in
        let g = ap (λ (line : Line). line.rate) f in
        absurd (omega (arith, g, fast, slower))
  ];
  one = λ less. one_later lines rate end i a (so_far.one less);
}

pub none_slower : (lines : List Line) (rate most end : ℕ) → IsTailOfFirst lines rate most end 0 most
none_slower lines rate most end = record { least = omega arith; each = λ k e h slower. absurd (omega (arith, h)); one = λ less. absurd (omega (arith, less)) }

-- there is one
pub tail_there : (lines : List Line) (rate most end i : ℕ) → i ≤ length lines → (x : ℕ) × IsTailOfFirst lines rate most end i x
tail_there lines rate most end zero h = (most, none_slower lines rate most end)
tail_there lines rate most end (suc i) h =
    let before = tail_there lines rate most end i (omega (arith, h)) in
    let next : i + 1 ≡ suc i = omega arith in
    let inside : i < length lines = omega (arith, h) in
    elim (cases_lt rate (get_or lines i no_line).rate) [
      | inl fast ↦
          (before.0, subst (λ (n : ℕ). IsTailOfFirst lines rate most end n before.0) next (faster lines rate most end i before.0 no_line inside fast before.1))
      | inr slow ↦
          let x = min before.0 (line_ahead (get_or lines i no_line) rate end) in
          (x, subst (λ (n : ℕ). IsTailOfFirst lines rate most end n x) next (slower lines rate most end i before.0 x no_line inside slow refl before.1))
    ]

-- of all steps it is the least that one of them is ahead
pub tail_is : (parts : List Part) (steps : List Line) (rate most end x : ℕ) → AreSteps parts steps → IsSlowBurst steps rate most
    → IsTailOfFirst steps rate most end (length steps) x → IsTail parts rate end x
tail_is parts steps rate most end x are slow tail = elim (cases_lt x most) [
  | inl less ↦ let one = tail.one less in found one.line one.inside (one.slow no_line) (one.is no_line)
  | inr not_less ↦
      let own = tail.each slow.step no_line slow.inside (slow.slow no_line) in
      let most_of_it = ceil_burst (get_or steps slow.step no_line) rate end in
      let burst = slow.is no_line in
      found slow.step slow.inside (slow.slow no_line) (omega (arith, not_less, own, most_of_it, burst))
]
  where
    ceil_burst : (line : Line) (rate end : ℕ) → line_ahead line rate end ≤ line.burst
    ceil_burst line rate end = ceil_most (line.burst * 10 ^ 12 - (rate - line.rate) * end) (10 ^ 12) line.burst (omega arith) (omega arith)

    found : (k : ℕ) → k < length steps → (get_or steps k no_line).rate ≤ rate → x ≡ line_ahead (get_or steps k no_line) rate end → IsTail parts rate end x
    found k inside slow is = record {
      least = λ line step slower.
          let c = are.all line step in
          let at : get_or steps c.0 no_line ≡ line = get_or_default steps c.0 no_line line c.1 ∙ c.2 in
          let h = tail.each c.0 no_line c.1 (subst (λ (l : Line). l.rate ≤ rate) (sym at) slower) in
          subst (λ (l : Line). x ≤ line_ahead l rate end) at h;
      line = get_or steps k no_line;
      step = are.each k no_line inside;
      slow = slow;
      is = is;
    }

-- ---- the walk, and the lines from there on
pub excess_is_a_bound : ExcessIsABound
excess_is_a_bound bundles rate x are is = record {
  over = λ t on. elim (le_or_lt t (micros is.last)) [
    | inl before ↦ let e = is.is in below_more (bundles_at bundles) rate is.walked x t (omega (arith, e)) (is.ahead.over t on before)
    | inr after ↦
        let e = is.is in
        below_more (bundles_at bundles) rate is.later x t (omega (arith, e))
        (line_tail is.tail.line rate is.last is.later (bundles_at bundles t) t is.tail.slow is.tail.is (le_of_lt after)
        (le_trans (bundles_below_lines bundles t are on) (is.tail.step.above.above t on)))
  ];
}
