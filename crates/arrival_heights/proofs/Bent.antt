-- The lesser of two lines, before and after they meet.
use Rattle.std.specs.Prelude.{◌≡◌, ◌⊎◌, ◌+◌, ◌-◌, ◌<◌, ◌≤◌, [], ◌∷◌, Option, Some, None, MatchOption}
use Rattle.std.proofs.Common.{arith, sym, ap, ◌∙◌, inl, inr}
use Rattle.rational.specs.Rational.{ℚ, ◌+ℚ◌, ◌*ℚ◌, ◌≤ℚ◌}
use Rattle.rational.proofs.Laws.{add_mul, mul_le_mul_right}
use Rattle.rational.proofs.MinMax.{min_q_left, min_q_is_right, min_q_comm}
use Rattle.rational.proofs.Linear.{with4, with6}
use Rattle.arrival_lines.specs.Grid.{bits, speed, line_value}
use Rattle.arrival_lines.specs.Steps.{burst_with, rate_with}
use Rattle.arrival_lines.specs.declared.grid.Line.{Line}
use Rattle.arrival_lines.specs.declared.grid.Part.{Part}
use Rattle.arrival_lines.proofs.Turned.{alone, paced}
use Rattle.arrival_lines.proofs.Units.{bits_add, bits_le, speed_add, speed_le}
use Rattle.arrival_heights.specs.Heights.{AreSmall, IsMoment}
use Rattle.arrival_heights.specs.Bends.{IsBentAt, IsOneLine, StaysOn, GoesOver, IsUnbent, IsBend}
use Rattle.arrival_heights.specs.declared.heights.Moment.{Moment}

-- the lower one at 0 that is no faster stays the lesser
pub no_faster : (low high : Line) → low.burst ≤ high.burst → low.rate ≤ high.rate → StaysOn low high
no_faster low high b r = record {
  line = low;
  is = λ t on.
      let x = bits_le low.burst high.burst b in
      let y = mul_le_mul_right t on (speed_le low.rate high.rate r) in
      min_q_left (line_value low t) (line_value high t) (sums (bits low.burst) (bits high.burst) (speed low.rate *ℚ t) (speed high.rate *ℚ t) x y);
}
  where
    sums : (k m u v : ℚ) → k ≤ℚ m → u ≤ℚ v → k +ℚ u ≤ℚ m +ℚ v
    sums k m u v h l = with4 k m u v (λ c. omega (arith, c.le, c.lt, c.same))

-- of two that begin together the slower one is the lesser
pub begins_with : (low high : Line) → high.burst ≡ low.burst → high.rate ≤ low.rate → StaysOn low high
begins_with low high b r = record {
  line = high;
  is = λ t on.
      let x = bits_le high.burst low.burst (omega (arith, b)) in
      let y = mul_le_mul_right t on (speed_le high.rate low.rate r) in
      min_q_is_right (line_value low t) (line_value high t) (sums (bits high.burst) (bits low.burst) (speed high.rate *ℚ t) (speed low.rate *ℚ t) x y);
}
  where
    sums : (k m u v : ℚ) → k ≤ℚ m → u ≤ℚ v → k +ℚ u ≤ℚ m +ℚ v
    sums k m u v h l = with4 k m u v (λ c. omega (arith, c.le, c.lt, c.same))

pub goes_over : (low high : Line) (at : Moment) → low.burst < high.burst → high.rate < low.rate → at.over ≡ high.burst - low.burst → at.under ≡ low.rate - high.rate
    → GoesOver low high at
goes_over low high at b r over under = record {
  bent = record {
    some = omega (arith, r, under);
    low = low;
    high = high;
    before = λ t on early. min_q_left (line_value low t) (line_value high t)
        (first (bits low.burst) (bits high.burst) (bits at.over) (speed low.rate *ℚ t) (speed high.rate *ℚ t) (speed at.under *ℚ t) higher (faster t) early);
    after = λ t on late. min_q_is_right (line_value low t) (line_value high t)
        (then_other (bits low.burst) (bits high.burst) (bits at.over) (speed low.rate *ℚ t) (speed high.rate *ℚ t) (speed at.under *ℚ t) higher (faster t) late);
  };
  over = omega (arith, over);
  under = omega (arith, under);
}
  where
    higher : bits high.burst ≡ bits low.burst +ℚ bits at.over
    higher = let e : high.burst ≡ low.burst + at.over = omega (arith, b, over) in ap bits e ∙ bits_add low.burst at.over

    faster : (t : ℚ) → speed low.rate *ℚ t ≡ speed high.rate *ℚ t +ℚ speed at.under *ℚ t
    faster t =
        let e : low.rate ≡ high.rate + at.under = omega (arith, r, under) in
        ap (λ n. speed n *ℚ t) e ∙ ap (λ z. z *ℚ t) (speed_add high.rate at.under) ∙ add_mul (speed high.rate) (speed at.under) t

    first : (k m n u v w : ℚ) → m ≡ k +ℚ n → u ≡ v +ℚ w → w ≤ℚ n → k +ℚ u ≤ℚ m +ℚ v
    first k m n u v w e f h = with6 k m n u v w (λ c. omega (arith, c.le, c.lt, c.same))

    then_other : (k m n u v w : ℚ) → m ≡ k +ℚ n → u ≡ v +ℚ w → n ≤ℚ w → m +ℚ v ≤ℚ k +ℚ u
    then_other k m n u v w e f h = with6 k m n u v w (λ c. omega (arith, c.le, c.lt, c.same))

-- ---- of a part
same_line : (f g : ℚ → ℚ) → ((t : ℚ) → f t ≡ g t) → IsOneLine f → IsOneLine g
same_line f g e one = record { line = one.line; is = λ t on. sym (e t) ∙ one.is t on }

same_bend : (f g : ℚ → ℚ) (at : Moment) → ((t : ℚ) → f t ≡ g t) → IsBentAt f at → IsBentAt g at
same_bend f g at e bent = record {
  some = bent.some;
  low = bent.low;
  high = bent.high;
  before = λ t on early. sym (e t) ∙ bent.before t on early;
  after = λ t on late. sym (e t) ∙ bent.after t on late;
}

pub no_pace : (part : Part) → part.pace ≡ None → IsUnbent part
no_pace part e = record { line = part.sum; is = λ t on. alone part.sum part.pace t e }

pub sum_first : (part : Part) (pace : Line) (found : Option Moment) → part.pace ≡ Some pace → ((at : Moment) → GoesOver part.sum pace at → IsMoment at)
    → MatchOption found (StaysOn part.sum pace) (GoesOver part.sum pace) → MatchOption found (IsUnbent part) (IsBend part)
sum_first part pace None e moment is = same_line _ _ (λ t. sym (paced part.sum part.pace pace t e)) is
sum_first part pace (Some at) e moment is = record { bent = same_bend _ _ at (λ t. sym (paced part.sum part.pace pace t e)) is.bent; moment = moment at is }

pub pace_first : (part : Part) (pace : Line) (found : Option Moment) → part.pace ≡ Some pace → ((at : Moment) → GoesOver pace part.sum at → IsMoment at)
    → MatchOption found (StaysOn pace part.sum) (GoesOver pace part.sum) → MatchOption found (IsUnbent part) (IsBend part)
pace_first part pace None e moment is =
    same_line _ _ (λ t. min_q_comm (line_value pace t) (line_value part.sum t) ∙ sym (paced part.sum part.pace pace t e)) is
pace_first part pace (Some at) e moment is = record {
  bent = same_bend _ _ at (λ t. min_q_comm (line_value pace t) (line_value part.sum t) ∙ sym (paced part.sum part.pace pace t e)) is.bent;
  moment = moment at is;
}

-- ---- the time is one of small numbers
bursts_within : (sum : Line) (pace : Option Line) (p : Line) → pace ≡ Some p → (sum.burst ≤ burst_with sum pace) × (p.burst ≤ burst_with sum pace)
bursts_within sum None p e = absurd (cc)
bursts_within sum (Some q) p e =
    let f : q.burst ≡ p.burst = cc in
    (omega arith, omega (arith, f))

rates_within : (sum : Line) (pace : Option Line) (p : Line) → pace ≡ Some p → (sum.rate ≤ rate_with sum pace) × (p.rate ≤ rate_with sum pace)
rates_within sum None p e = absurd (cc)
rates_within sum (Some q) p e =
    let f : q.rate ≡ p.rate = cc in
    (omega arith, omega (arith, f))

pub moment_in : (part : Part) (pace : Line) (at : Moment) → part.pace ≡ Some pace → AreSmall (part ∷ []) → 0 < at.under
    → (at.over ≤ part.sum.burst) ⊎ (at.over ≤ pace.burst) → (at.under ≤ part.sum.rate) ⊎ (at.under ≤ pace.rate) → IsMoment at
moment_in part pace at e small some over under =
    let b = bursts_within part.sum part.pace pace e in
    let r = rates_within part.sum part.pace pace e in
    let sb = small.bursts in
    let sr = small.rates in
    record {
      some = some;
      over = elim over [ inl h ↦ omega (arith, h, b, sb) | inr h ↦ omega (arith, h, b, sb) ];
      under = elim under [ inl h ↦ omega (arith, h, r, sr) | inr h ↦ omega (arith, h, r, sr) ];
    }
