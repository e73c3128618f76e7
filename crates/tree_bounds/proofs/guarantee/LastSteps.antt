-- The last step of a sum of parts: from some time on it is the sum, and its rate is what they bring in the long run, which is no more than
-- their links together.
use Rattle.std.specs.Prelude.{Option, Some, None, ◌≡◌, ℕ, ◌+◌, ◌-◌, ◌<◌, ◌≤◌, min, List, [], ◌∷◌}
use Rattle.std.specs.List.{sum_by}
use Rattle.std.proofs.Common.{arith, ap, ◌∙◌, refl, inl, inr}
use Rattle.std.proofs.lemmas.Bool.{cases_lt}
use Rattle.std.proofs.lemmas.List.Sums.{sum_by-cons}
use Rattle.rational.specs.Rational.{ℚ, ◌+ℚ◌, ◌*ℚ◌, ◌/ℚ◌, ◌≤ℚ◌, ◌<ℚ◌}
use Rattle.rational.specs.MinMax.{max_q}
use Rattle.rational.proofs.Laws.{le_refl, le_trans, zero_mul, mul_comm, mul_le_mul, add_mul, mul_le_mul_right, div_mul, not_zero}
use Rattle.rational.proofs.MinMax.{min_q_le_left, min_q_le_right, min_q_ge, max_q_ge_left, max_q_ge_right}
use Rattle.rational.proofs.Quotients.{div_nonneg}
use Rattle.rational.proofs.Linear.{with1, with2, with4, with5, with6}
use Rattle.min_plus.specs.Functions.{zero_q, whole}
use Rattle.arrival_lines.specs.Excess.{IsEndless}
use Rattle.arrival_lines.specs.Grid.{grain, grain_a_second, bits, speed, line_value, lesser, part_value, parts_value}
use Rattle.arrival_lines.specs.Steps.{IsAbove, IsStep}
use Rattle.arrival_lines.specs.declared.grid.Line.{Line}
use Rattle.arrival_lines.specs.declared.grid.Part.{Part}
use Rattle.arrival_lines.proofs.OnGrid.{total_on_grid}
use Rattle.arrival_lines.proofs.Units.{bits_nonneg, bits_le, bits_lt, speed_add, speed_le, speed_some}

-- what a part brings in the long run: the rates of its links together, or the pace of the port from which they come, where that is less
abbrev slower_rate : Line → Option Line → ℕ
slower_rate sum None = sum.rate
slower_rate sum (Some pace) = min sum.rate pace.rate

abbrev pub long_run_rate : Part → ℕ
long_run_rate part = slower_rate part.sum part.pace

-- a line that is nowhere below a function, and nowhere above it from some time on
record IsLast (value : ℚ → ℚ) (line : Line) : Type 0 where
  from : ℚ
  on : zero_q ≤ℚ from
  above : (t : ℚ) → zero_q ≤ℚ t → value t ≤ℚ line_value line t
  tight : (t : ℚ) → from ≤ℚ t → line_value line t ≤ℚ value t

-- ---- of two lines
record Crosses (low high : Line) : Type 0 where
  from : ℚ
  on : zero_q ≤ℚ from
  after : (t : ℚ) → from ≤ℚ t → line_value low t ≤ℚ line_value high t

-- the slower one is no higher from some time on
slower_crosses : (low high : Line) → low.rate < high.rate → Crosses low high
slower_crosses low high h = record {
  from = bits low.burst /ℚ speed (high.rate - low.rate);
  on = div_nonneg (bits low.burst) (speed (high.rate - low.rate)) some (bits_nonneg low.burst);
  after = λ t late.
      let a = mul_le_mul (speed (high.rate - low.rate)) (le_of_some (speed (high.rate - low.rate)) some) late in
      let b = mul_comm (speed (high.rate - low.rate)) (bits low.burst /ℚ speed (high.rate - low.rate)) ∙ div_mul (bits low.burst) (speed (high.rate - low.rate)) (not_zero _ some) in
      let c = ap (λ n. speed n *ℚ t) (let e : high.rate ≡ low.rate + (high.rate - low.rate) = omega (arith, h) in e)
      ∙ ap (λ z. z *ℚ t) (speed_add low.rate (high.rate - low.rate)) ∙ add_mul (speed low.rate) (speed (high.rate - low.rate)) t in
      joined (bits low.burst) (bits high.burst) (speed low.rate *ℚ t) (speed high.rate *ℚ t) (speed (high.rate - low.rate) *ℚ t) (speed (high.rate - low.rate) *ℚ (bits low.burst /ℚ speed (high.rate - low.rate))) a b c (bits_nonneg high.burst);
}
  where
    some : zero_q <ℚ speed (high.rate - low.rate)
    some = speed_some (high.rate - low.rate) (omega (arith, h))

    le_of_some : (x : ℚ) → zero_q <ℚ x → zero_q ≤ℚ x
    le_of_some x l = with2 x zero_q (λ c. omega (arith, c.le, c.lt, c.same))

    joined : (lb hb lr hr g d : ℚ) → d ≤ℚ g → d ≡ lb → hr ≡ lr +ℚ g → zero_q ≤ℚ hb → lb +ℚ lr ≤ℚ hb +ℚ hr
    joined lb hb lr hr g d a b e n = with6 lb hb lr hr g d (λ c. omega (arith, c.le, c.lt, c.same))

-- one of the same rate and a lesser burst
lower_crosses : (low high : Line) → low.rate ≡ high.rate → low.burst ≤ high.burst → Crosses low high
lower_crosses low high e h = record {
  from = zero_q;
  on = le_refl zero_q;
  after = λ t late.
      let a = bits_le low.burst high.burst h in
      let b = ap (λ n. speed n *ℚ t) e in
      joined (bits low.burst) (bits high.burst) (speed low.rate *ℚ t) (speed high.rate *ℚ t) a b;
}
  where
    joined : (lb hb lr hr : ℚ) → lb ≤ℚ hb → lr ≡ hr → lb +ℚ lr ≤ℚ hb +ℚ hr
    joined lb hb lr hr a b = with4 lb hb lr hr (λ c. omega (arith, c.le, c.lt, c.same))

-- ---- of a part
record PartLast (sum : Line) (pace : Option Line) : Type 0 where
  line : Line
  last : IsLast (lesser sum pace) line
  rate : line.rate ≡ slower_rate sum pace

by_sum : (sum pace : Line) → sum.rate ≤ pace.rate → Crosses sum pace → PartLast sum (Some pace)
by_sum sum pace h c = record {
  line = sum;
  last = record {
    from = c.from;
    on = c.on;
    above = λ t on. min_q_le_left (line_value sum t) (line_value pace t);
    tight = λ t late. min_q_ge (line_value sum t) (line_value pace t) (line_value sum t) (le_refl _) (c.after t late);
  };
  rate = omega (arith, h);
}

by_pace : (sum pace : Line) → pace.rate ≤ sum.rate → Crosses pace sum → PartLast sum (Some pace)
by_pace sum pace h c = record {
  line = pace;
  last = record {
    from = c.from;
    on = c.on;
    above = λ t on. min_q_le_right (line_value sum t) (line_value pace t);
    tight = λ t late. min_q_ge (line_value sum t) (line_value pace t) (line_value pace t) (c.after t late) (le_refl _);
  };
  rate = omega (arith, h);
}

part_last : (sum : Line) (pace : Option Line) → PartLast sum pace
part_last sum None = record {
  line = sum;
  last = record { from = zero_q; on = le_refl zero_q; above = λ t on. le_refl _; tight = λ t late. le_refl _ };
  rate = refl;
}
part_last sum (Some pace) = elim (cases_lt pace.rate sum.rate) [
  | inl slower ↦ by_pace sum pace (omega (arith, slower)) (slower_crosses pace sum slower)
  | inr faster ↦ elim (cases_lt sum.rate pace.rate) [
    | inl less ↦ by_sum sum pace (omega (arith, less)) (slower_crosses sum pace less)
    | inr same ↦ elim (cases_lt pace.burst sum.burst) [
      | inl low ↦ by_pace sum pace (omega (arith, same)) (lower_crosses pace sum (omega (arith, same, faster)) (omega (arith, low)))
      | inr high ↦ by_sum sum pace faster (lower_crosses sum pace (omega (arith, same, faster)) high)
    ]
  ]
]

-- ---- of a sum of parts
pub record LastStep (parts : List Part) : Type 0 where
  pub line : Line
  pub step : IsStep parts line
  pub rate : line.rate ≤ sum_by (λ part. part.sum.rate) parts

record SumLast (parts : List Part) : Type 0 where
  line : Line
  last : IsLast (parts_value parts) line
  rate : line.rate ≡ sum_by long_run_rate parts

both_zero : (x y : ℚ) → x ≡ zero_q → y ≡ zero_q → x +ℚ y ≡ zero_q
both_zero x y h k = with2 x y (λ c. omega (arith, c.le, c.lt, c.same))

nothing : (t : ℚ) → line_value (record { burst = 0; rate = 0 }) t ≡ zero_q
unfolding bits speed
nothing t =
    both_zero (whole 0 *ℚ grain) ((whole 0 *ℚ grain_a_second) *ℚ t) (zero_mul grain) (ap (λ z. z *ℚ t) (zero_mul grain_a_second) ∙ zero_mul t)

no_value : (t : ℚ) → parts_value [] t ≡ zero_q
unfolding parts_value
no_value t = refl

more_value : (p : Part) (ps : List Part) (t : ℚ) → parts_value (p ∷ ps) t ≡ part_value p t +ℚ parts_value ps t
unfolding parts_value
more_value p ps t = refl

same_le : (x y : ℚ) → x ≡ zero_q → y ≡ zero_q → x ≤ℚ y
same_le x y e f = with2 x y (λ c. omega (arith, c.le, c.lt, c.same))

added : (a b x y s l : ℚ) → s ≡ a +ℚ b → l ≡ x +ℚ y → a ≤ℚ x → b ≤ℚ y → s ≤ℚ l
added a b x y s l e f h k = with6 a b x y s l (λ c. omega (arith, c.le, c.lt, c.same))

added_back : (a b x y s l : ℚ) → s ≡ a +ℚ b → l ≡ x +ℚ y → x ≤ℚ a → y ≤ℚ b → l ≤ℚ s
added_back a b x y s l e f h k = with6 a b x y s l (λ c. omega (arith, c.le, c.lt, c.same))

sum_last : (parts : List Part) → SumLast parts
sum_last [] = record {
  line = record { burst = 0; rate = 0 };
  last = record {
    from = zero_q;
    on = le_refl zero_q;
    above = λ t on. same_le (parts_value [] t) (line_value (record { burst = 0; rate = 0 }) t) (no_value t) (nothing t);
    tight = λ t late. same_le (line_value (record { burst = 0; rate = 0 }) t) (parts_value [] t) (nothing t) (no_value t);
  };
  rate = refl;
}
sum_last (p ∷ ps) =
    let one = part_last p.sum p.pace in
    let rest = sum_last ps in
    let both : Line = record { burst = one.line.burst + rest.line.burst; rate = one.line.rate + rest.line.rate } in
    record {
      line = both;
      last = record {
        from = max_q one.last.from rest.last.from;
        on = le_trans one.last.on (max_q_ge_left one.last.from rest.last.from);
        above = λ t on. added (part_value p t) (parts_value ps t) (line_value one.line t) (line_value rest.line t) (parts_value (p ∷ ps) t) (line_value both t)
            (more_value p ps t) ((total_on_grid one.line rest.line).is t) (one.last.above t on) (rest.last.above t on);
        tight = λ t late.
            added_back (part_value p t) (parts_value ps t) (line_value one.line t) (line_value rest.line t) (parts_value (p ∷ ps) t) (line_value both t)
            (more_value p ps t) ((total_on_grid one.line rest.line).is t) (one.last.tight t (le_trans (max_q_ge_left one.last.from rest.last.from) late))
            (rest.last.tight t (le_trans (max_q_ge_right one.last.from rest.last.from) late));
      };
      rate = let e = sum_by-cons long_run_rate p ps in let a = one.rate in let b = rest.rate in omega (arith, e, a, b);
    }

-- what a part brings in the long run is no more than its links together
slower_most : (sum : Line) (pace : Option Line) → slower_rate sum pace ≤ sum.rate
slower_most sum None = omega arith
slower_most sum (Some pace) = omega arith

long_run_most : (parts : List Part) → sum_by long_run_rate parts ≤ sum_by (λ part. part.sum.rate) parts
long_run_most [] = omega arith
long_run_most (p ∷ ps) =
    let a = sum_by-cons long_run_rate p ps in
    let b = sum_by-cons (λ (part : Part). part.sum.rate) p ps in
    let one = slower_most p.sum p.pace in
    let rest = long_run_most ps in
    omega (arith, a, b, one, rest)

pub last_step : (parts : List Part) → LastStep parts
last_step parts =
    let sum = sum_last parts in
    record {
      line = sum.line;
      step = record {
        above = record { above = sum.last.above };
        from = sum.last.from;
        to = sum.last.from +ℚ whole 1;
        on = sum.last.on;
        later = next sum.last.from;
        begins = sum.last.tight sum.last.from (le_refl sum.last.from);
        ends = sum.last.tight (sum.last.from +ℚ whole 1) (soon sum.last.from);
      };
      rate = let e = sum.rate in let most = long_run_most parts in omega (arith, e, most);
    }
  where
    next : (x : ℚ) → x <ℚ x +ℚ whole 1
    next x = with1 x (λ c. omega (arith, c.le, c.lt, c.same))

    soon : (x : ℚ) → x ≤ℚ x +ℚ whole 1
    soon x = with1 x (λ c. omega (arith, c.le, c.lt, c.same))

-- ---- so what is as fast as the links together is never left behind
pub not_endless : (parts : List Part) (rate : ℕ) → sum_by (λ part. part.sum.rate) parts ≤ rate → ¬ IsEndless parts rate
not_endless parts rate h endless =
    let sum = sum_last parts in
    let past = endless (bits sum.line.burst) in
    let t = past.0 in
    let a = mul_le_mul_right t past.1 (speed_le sum.line.rate rate (let r = sum.rate in let most = long_run_most parts in omega (arith, h, r, most))) in
    no (bits sum.line.burst) (speed sum.line.rate *ℚ t) (speed rate *ℚ t) (parts_value parts t) a past.2 (sum.last.above t past.1)
  where
    no : (b l r v : ℚ) → l ≤ℚ r → b +ℚ r <ℚ v → v ≤ℚ b +ℚ l → ⊥
    no b l r v a h k = with4 b l r v (λ c. omega (arith, c.le, c.lt, c.same))

-- ---- and a line that is slower than what they bring in the long run does not stay above them
pub carries : (parts : List Part) (line : Line) → IsAbove parts line → sum_by long_run_rate parts ≤ line.rate
carries parts line above = elim (cases_lt line.rate (sum_by long_run_rate parts)) [
  | inr fast ↦ fast
  | inl slow ↦
      let sum = sum_last parts in
      let higher : Line = record { burst = line.burst + 1; rate = line.rate } in
      let rate = sum.rate in
      let past = slower_crosses higher sum.line (omega (arith, slow, rate)) in
      let t = max_q past.from sum.last.from in
      absurd (no (bits (line.burst + 1)) (bits line.burst) (speed line.rate *ℚ t) (line_value sum.line t) (parts_value parts t) (bits_lt line.burst (line.burst + 1) (omega arith))
      (past.after t (max_q_ge_left past.from sum.last.from)) (sum.last.tight t (max_q_ge_right past.from sum.last.from))
      (above.above t (le_trans past.on (max_q_ge_left past.from sum.last.from))))
]
  where
    no : (more b r l v : ℚ) → b <ℚ more → more +ℚ r ≤ℚ l → l ≤ℚ v → v ≤ℚ b +ℚ r → ⊥
    no more b r l v a h k m = with5 more b r l v (λ c. omega (arith, c.le, c.lt, c.same))
