-- What parts bring in a time: no more than their greater rates. So no step is faster than these.
use Rattle.std.specs.Prelude.{◌≡◌, ℕ, ◌≤◌, max, List, [], ◌∷◌, Option, Some, None}
use Rattle.std.specs.List.{sum_by}
use Rattle.std.proofs.Common.{arith, ap, ◌∙◌, inl, inr}
use Rattle.std.proofs.lemmas.Bool.{cases_lt}
use Rattle.std.proofs.lemmas.List.Sums.{sum_by-cons}
use Rattle.rational.specs.Rational.{ℚ, ◌+ℚ◌, ◌-ℚ◌, ◌*ℚ◌, ◌≤ℚ◌, ◌<ℚ◌}
use Rattle.rational.specs.MinMax.{min_q}
use Rattle.rational.proofs.Laws.{add_mul, mul_sub, mul_nonneg, mul_le_mul_right, mul_lt_mul_right, le_of_lt}
use Rattle.rational.proofs.MinMax.{min_q_le_left, min_q_le_right, min_q_one}
use Rattle.rational.proofs.Linear.{sub_nonneg, sub_pos, with1, with5, with7}
use Rattle.min_plus.specs.Functions.{zero_q}
use Rattle.arrival_lines.specs.Grid.{bits, speed, line_value, lesser, part_value, parts_value}
use Rattle.arrival_lines.specs.Steps.{IsStep, rate_with, most_rate}
use Rattle.arrival_lines.specs.declared.grid.Line.{Line}
use Rattle.arrival_lines.specs.declared.grid.Part.{Part}
use Rattle.arrival_lines.proofs.Units.{speed_add, speed_le, speed_lt, speed_nonneg}

module _ (s t : ℚ) (order : s ≤ℚ t) where
  line_grows : (l : Line) (r : ℕ) → l.rate ≤ r → line_value l t ≤ℚ line_value l s +ℚ speed r *ℚ (t -ℚ s)
  line_grows l r h =
      let a = mul_le_mul_right (t -ℚ s) (sub_nonneg s t order) (speed_le l.rate r h) in
      let e = mul_sub (speed l.rate) t s in
      joined (bits l.burst) (speed l.rate *ℚ t) (speed l.rate *ℚ s) (speed l.rate *ℚ (t -ℚ s)) (speed r *ℚ (t -ℚ s)) a e
    where
      joined : (b v u g w : ℚ) → g ≤ℚ w → g ≡ v -ℚ u → b +ℚ v ≤ℚ (b +ℚ u) +ℚ w
      joined b v u g w h e = with5 b v u g w (λ c. omega (arith, c.le, c.lt, c.same))

  lesser_grows : (sum : Line) (pace : Option Line) → lesser sum pace t ≤ℚ lesser sum pace s +ℚ speed (rate_with sum pace) *ℚ (t -ℚ s)
  lesser_grows sum None = line_grows sum sum.rate (omega arith)
  lesser_grows sum (Some pace) =
      let w = speed (max sum.rate pace.rate) *ℚ (t -ℚ s) in
      let a = line_grows sum (max sum.rate pace.rate) (omega arith) in
      let b = line_grows pace (max sum.rate pace.rate) (omega arith) in
      let l = min_q_le_left (line_value sum t) (line_value pace t) in
      let r = min_q_le_right (line_value sum t) (line_value pace t) in
      elim (min_q_one (line_value sum s) (line_value pace s)) [
        | inl e ↦ joined (min_q (line_value sum t) (line_value pace t)) (line_value sum t) (line_value sum s) (min_q (line_value sum s) (line_value pace s)) w l a e
        | inr e ↦ joined (min_q (line_value sum t) (line_value pace t)) (line_value pace t) (line_value pace s) (min_q (line_value sum s) (line_value pace s)) w r b e
      ]
    where
      joined : (m a b n w : ℚ) → m ≤ℚ a → a ≤ℚ b +ℚ w → n ≡ b → m ≤ℚ n +ℚ w
      joined m a b n w h k e = with5 m a b n w (λ c. omega (arith, c.le, c.lt, c.same))

  parts_grow : (parts : List Part) → parts_value parts t ≤ℚ parts_value parts s +ℚ speed (sum_by most_rate parts) *ℚ (t -ℚ s)
  unfolding parts_value
  parts_grow [] = none (speed (sum_by most_rate []) *ℚ (t -ℚ s)) (mul_nonneg (speed_nonneg (sum_by most_rate [])) (sub_nonneg s t order))
    where
      none : (w : ℚ) → zero_q ≤ℚ w → zero_q ≤ℚ zero_q +ℚ w
      none w h = with1 w (λ c. omega (arith, c.le, c.lt, c.same))
  parts_grow (p ∷ ps) =
      let a = lesser_grows p.sum p.pace in
      let b = parts_grow ps in
      let e = ap (λ n. speed n *ℚ (t -ℚ s)) (sum_by-cons most_rate p ps) ∙ ap (λ v. v *ℚ (t -ℚ s)) (speed_add (most_rate p) (sum_by most_rate ps))
      ∙ add_mul (speed (most_rate p)) (speed (sum_by most_rate ps)) (t -ℚ s) in
      joined (part_value p t) (part_value p s) (parts_value ps t) (parts_value ps s) (speed (most_rate p) *ℚ (t -ℚ s)) (speed (sum_by most_rate ps) *ℚ (t -ℚ s))
      (speed (sum_by most_rate (p ∷ ps)) *ℚ (t -ℚ s)) a b e
    where
      joined : (a b m n v w x : ℚ) → a ≤ℚ b +ℚ v → m ≤ℚ n +ℚ w → x ≡ v +ℚ w → a +ℚ m ≤ℚ (b +ℚ n) +ℚ x
      joined a b m n v w x h k e = with7 a b m n v w x (λ c. omega (arith, c.le, c.lt, c.same))

pub step_rate : (parts : List Part) (line : Line) → IsStep parts line → line.rate ≤ sum_by most_rate parts
step_rate parts line step = elim (cases_lt (sum_by most_rate parts) line.rate) [
  | inr within ↦ within
  | inl faster ↦
      let d = step.to -ℚ step.from in
      let all = speed (sum_by most_rate parts) *ℚ d in
      let own = speed line.rate *ℚ d in
      let a = parts_grow step.from step.to (le_of_lt step.later) parts in
      let b = step.above.above step.from step.on in
      let e = mul_sub (speed line.rate) step.to step.from in
      let less = mul_lt_mul_right d (sub_pos step.from step.to step.later) (speed_lt (sum_by most_rate parts) line.rate faster) in
      absurd (clash (parts_value parts step.to) (parts_value parts step.from) all own (bits line.burst) (speed line.rate *ℚ step.to) (speed line.rate *ℚ step.from) a b step.ends e less)
]
  where
    clash : (p q w g b v u : ℚ) → p ≤ℚ q +ℚ w → q ≤ℚ b +ℚ u → b +ℚ v ≤ℚ p → g ≡ v -ℚ u → w <ℚ g → ⊥
    clash p q w g b v u h1 h2 h3 e less = with7 p q w g b v u (λ c. omega (arith, c.le, c.lt, c.same))
