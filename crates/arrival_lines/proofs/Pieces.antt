-- Each step is the sum of the parts at two times, and each affine piece of the sum is a step.
use Rattle.std.specs.Prelude.{◌≡◌, ℕ, zero, suc, ◌*◌, ◌<◌, ◌≤◌, List, length, get_or, pos, All, Contains}
use Rattle.std.proofs.Common.{arith, sym, ap, ap₂, ◌∙◌, subst, inl, inr}
use Rattle.std.proofs.lemmas.Bool.{cases_lt}
use Rattle.std.proofs.lemmas.List.{get_or_default}
use Rattle.rational.specs.Rational.{ℚ, int, ◌+ℚ◌, ◌-ℚ◌, ◌*ℚ◌, ◌/ℚ◌, ◌≤ℚ◌, ◌<ℚ◌}
use Rattle.rational.proofs.Laws.{half, half_is, le_refl, le_of_lt, le_trans, mul_comm, mul_assoc, mul_add, mul_sub, mul_one, mul_lt_mul_right, lt_of_mul, div_mul, not_zero}
use Rattle.rational.proofs.Quotients.{div_nonneg, div_pos, lt_div}
use Rattle.rational.proofs.Linear.{with1, with2, with3, with4, with6}
use Rattle.min_plus.specs.Functions.{zero_q}
use Rattle.arrival_lines.specs.Grid.{bits, speed, line_value, parts_value}
use Rattle.arrival_lines.specs.Steps.{IsAbove, IsStep}
use Rattle.arrival_lines.specs.Turns.{ahead, AreInOrder, AreApart}
use Rattle.arrival_lines.specs.declared.grid.Line.{Line}
use Rattle.arrival_lines.specs.declared.grid.Part.{Part}
use Rattle.arrival_lines.specs.declared.turns.Turn.{Turn}
use Rattle.arrival_lines.proofs.Units.{bits_lt, bits_some, bits_nonneg, speed_lt, speed_nonneg, speed_some, weighs_before}
use Rattle.arrival_lines.proofs.InOrder.{ArePast, past_none, past_at, past_with}

-- ---- the time at which a turn comes
abbrev pub root : Turn → ℚ
root x = bits x.rise /ℚ speed x.fall

root_is : (x : Turn) → 0 < x.fall → ahead x (root x) ≡ zero_q
root_is x some =
    let e = mul_comm (speed x.fall) (root x) ∙ div_mul (bits x.rise) (speed x.fall) (not_zero _ (speed_some x.fall some)) in
    gone (bits x.rise) (speed x.fall *ℚ root x) e
  where
    gone : (b p : ℚ) → p ≡ b → b -ℚ p ≡ zero_q
    gone b p e = with2 b p (λ c. omega (arith, c.le, c.lt, c.same))

root_on : (x : Turn) → 0 < x.fall → zero_q ≤ℚ root x
root_on x some = div_nonneg (bits x.rise) (speed x.fall) (speed_some x.fall some) (bits_nonneg x.rise)

root_some : (x : Turn) → 0 < x.rise → 0 < x.fall → zero_q <ℚ root x
root_some x high some = div_pos (bits x.rise) (speed x.fall) (speed_some x.fall some) (bits_some x.rise high)

root_less : (x y : Turn) → 0 < x.fall → 0 < y.fall → x.rise * y.fall < y.rise * x.fall → root x <ℚ root y
root_less x y p q h =
    let f = speed x.fall in
    let g = speed y.fall in
    let some = speed_some x.fall p in
    let e : (root x *ℚ g) *ℚ f ≡ g *ℚ bits x.rise =
    mul_assoc (root x) g f ∙ ap (λ z. root x *ℚ z) (mul_comm g f) ∙ sym (mul_assoc (root x) f g) ∙ ap (λ z. z *ℚ g) (div_mul (bits x.rise) f (not_zero f some)) ∙ mul_comm (bits x.rise) g in
    let w = weighs_before y.fall x.rise x.fall y.rise (omega (arith, h)) in
    let l : (root x *ℚ g) *ℚ f <ℚ bits y.rise *ℚ f = subst (λ z. (root x *ℚ g) *ℚ f <ℚ z) (mul_comm f (bits y.rise)) (subst (λ z. z <ℚ f *ℚ bits y.rise) (sym e) w) in
    (lt_div (bits y.rise) g (root x) (speed_some y.fall q)).1 (lt_of_mul f (root x *ℚ g) (bits y.rise) some l)

-- ---- from one turn to the next
pub record Span (turns : List Turn) (k : ℕ) : Type 0 where
  pub from : ℚ
  pub to : ℚ
  pub on : zero_q ≤ℚ from
  pub later : from <ℚ to
  pub begins : ArePast turns k from
  pub ends : ArePast turns k to

module _ (turns : List Turn) (order : AreInOrder turns) (apart : AreApart turns) where
  just : (k : ℕ) → k < length turns → (f : Turn) → ahead (get_or turns k f) (root (get_or turns k record { rise = 0; fall = 0 })) ≡ zero_q
  just k h f =
      let x = get_or turns k record { rise = 0; fall = 0 } in
      subst (λ (y : Turn). ahead y (root x) ≡ zero_q) (get_or_default turns k record { rise = 0; fall = 0 } f h) (root_is x (order.fall k record { rise = 0; fall = 0 } h))

  -- up to the next turn
  upto : (k : ℕ) (from : ℚ) → k < length turns → zero_q ≤ℚ from → from <ℚ root (get_or turns k record { rise = 0; fall = 0 }) → ArePast turns k from → Span turns k
  upto k from h on less begins = record {
    from = from;
    to = root (get_or turns k record { rise = 0; fall = 0 });
    on = on;
    later = less;
    begins = begins;
    ends = past_at turns order k (root (get_or turns k record { rise = 0; fall = 0 })) h (just k h);
  }

  -- where there is none, for good
  on_and_on : (k : ℕ) (from : ℚ) → k ≡ length turns → zero_q ≤ℚ from → ArePast turns k from → Span turns k
  on_and_on k from h on begins = record {
    from = from;
    to = from +ℚ int (pos 1);
    on = on;
    later = with1 from (λ c. omega (arith, c.le, c.lt, c.same));
    begins = begins;
    ends = record {
      past = λ i d l m. still_past (get_or turns i d) from (begins.past i d l m);
      later = λ i d l m. absurd (omega (arith, h, l, m));
    };
  }
    where
      still_past : (x : Turn) (t : ℚ) → ahead x t ≤ℚ zero_q → ahead x (t +ℚ int (pos 1)) ≤ℚ zero_q
      still_past x t h =
          let e = mul_add (speed x.fall) t (int (pos 1)) ∙ ap (λ z. speed x.fall *ℚ t +ℚ z) (mul_one (speed x.fall)) in
          let s = speed_nonneg x.fall in
          joined (bits x.rise) (speed x.fall *ℚ t) (speed x.fall) (speed x.fall *ℚ (t +ℚ int (pos 1))) e s h
        where
          joined : (b p s q : ℚ) → q ≡ p +ℚ s → zero_q ≤ℚ s → b -ℚ p ≤ℚ zero_q → b -ℚ q ≤ℚ zero_q
          joined b p s q e on h = with4 b p s q (λ c. omega (arith, c.le, c.lt, c.same))

  pub spans : (k : ℕ) → k ≤ length turns → Span turns k
  spans zero h = elim (cases_lt 0 (length turns)) [
    | inl l ↦ upto 0 zero_q l (le_refl zero_q) (root_some (get_or turns 0 record { rise = 0; fall = 0 }) (order.rise 0 record { rise = 0; fall = 0 } l) (order.fall 0 record { rise = 0; fall = 0 } l)) (past_none turns)
    | inr l ↦ on_and_on 0 zero_q (omega (arith, l)) (le_refl zero_q) (past_none turns)
  ]
  spans (suc k) h =
      let d : Turn = record { rise = 0; fall = 0 } in
      let here : k < length turns = omega arith in
      let on = root_on (get_or turns k d) (order.fall k d here) in
      let begins = past_with turns order k (root (get_or turns k d)) here (just k here) in
      elim (cases_lt (suc k) (length turns)) [
        | inl l ↦ upto (suc k) (root (get_or turns k d)) l on (root_less (get_or turns k d) (get_or turns (suc k) d) (order.fall k d here) (order.fall (suc k) d l) (apart.apart k (suc k) d (omega arith) l)) begins
        | inr l ↦ on_and_on (suc k) (root (get_or turns k d)) (omega (arith, h, l)) on begins
      ]

-- ---- lines that are the same at two times
slope_most : (a b : Line) (t u : ℚ) → t <ℚ u → line_value a t ≡ line_value b t → line_value a u ≡ line_value b u → a.rate ≤ b.rate
slope_most a b t u later p q = elim (cases_lt b.rate a.rate) [
  | inr l ↦ l
  | inl l ↦
      let gap : zero_q <ℚ u -ℚ t = with2 u t (λ c. omega (arith, c.le, c.lt, c.same)) in
      let k = mul_lt_mul_right (u -ℚ t) gap (speed_lt b.rate a.rate l) in
      let e = mul_sub (speed a.rate) u t in
      let f = mul_sub (speed b.rate) u t in
      absurd (clash (bits a.burst) (bits b.burst) (speed a.rate *ℚ t) (speed a.rate *ℚ u) (speed b.rate *ℚ t) (speed b.rate *ℚ u) p q
      (less (speed b.rate *ℚ (u -ℚ t)) (speed a.rate *ℚ (u -ℚ t)) (speed b.rate *ℚ u) (speed b.rate *ℚ t) (speed a.rate *ℚ u) (speed a.rate *ℚ t) k e f))
]
  where
    less : (x y bu bt au at : ℚ) → x <ℚ y → y ≡ au -ℚ at → x ≡ bu -ℚ bt → bu -ℚ bt <ℚ au -ℚ at
    less x y bu bt au at k e f = with6 x y bu bt au at (λ c. omega (arith, c.le, c.lt, c.same))

    clash : (i j at au bt bu : ℚ) → i +ℚ at ≡ j +ℚ bt → i +ℚ au ≡ j +ℚ bu → bu -ℚ bt <ℚ au -ℚ at → ⊥
    clash i j at au bt bu p q k = with6 i j at au bt bu (λ c. omega (arith, c.le, c.lt, c.same))

start_most : (a b : Line) (t : ℚ) → a.rate ≡ b.rate → line_value a t ≡ line_value b t → a.burst ≤ b.burst
start_most a b t r p = elim (cases_lt b.burst a.burst) [
  | inr l ↦ l
  | inl l ↦
      let k = bits_lt b.burst a.burst l in
      let e = ap (λ n. speed n *ℚ t) r in
      absurd (clash (bits a.burst) (bits b.burst) (speed a.rate *ℚ t) (speed b.rate *ℚ t) p e k)
]
  where
    clash : (i j u v : ℚ) → i +ℚ u ≡ j +ℚ v → u ≡ v → j <ℚ i → ⊥
    clash i j u v p e k = with4 i j u v (λ c. omega (arith, c.le, c.lt, c.same))

same_line : (a b : Line) (t u : ℚ) → t <ℚ u → line_value a t ≡ line_value b t → line_value a u ≡ line_value b u → a ≡ b
same_line a b t u later p q =
    let r : a.rate ≡ b.rate = let h = slope_most a b t u later p q in let k = slope_most b a t u later (sym p) (sym q) in omega (arith, h, k) in
    let s : a.burst ≡ b.burst = let h = start_most a b t r p in let k = start_most b a t (sym r) (sym p) in omega (arith, h, k) in
    ap₂ (λ (x y : ℕ). let l : Line = record { burst = x; rate = y } in l) s r

-- ---- each affine piece is one of the lines that are nowhere below and one of which is the sum at each time
pub in_lines : (parts : List Part) (lines : List Line) → All (IsAbove parts) lines
    → ((t : ℚ) → zero_q ≤ℚ t → (k : ℕ) × (k < length lines) × ((d : Line) → line_value (get_or lines k d) t ≤ℚ parts_value parts t))
    → (line : Line) → IsStep parts line → Contains lines line
in_lines parts lines above reached line piece =
    let (k, inside, tight) = reached (half (piece.from +ℚ piece.to)) (mid_on piece.from piece.to (half (piece.from +ℚ piece.to)) (half_is (piece.from +ℚ piece.to)) piece.on piece.later) in
    let other = get_or lines k line in
    let is = half_is (piece.from +ℚ piece.to) in
    let on_to = le_trans piece.on (le_of_lt piece.later) in
    let on_mid = mid_on piece.from piece.to (half (piece.from +ℚ piece.to)) is piece.on piece.later in
    let low = le_trans piece.begins ((above k line inside).above piece.from piece.on) in
    let high = le_trans piece.ends ((above k line inside).above piece.to on_to) in
    let middle = le_trans (tight line) (piece.above.above (half (piece.from +ℚ piece.to)) on_mid) in
    let e = averages other piece.from piece.to (half (piece.from +ℚ piece.to)) is in
    let f = averages line piece.from piece.to (half (piece.from +ℚ piece.to)) is in (
      k,
      inside,
      same_line other line piece.from piece.to piece.later
          (meet_first (line_value other piece.from) (line_value other piece.to) (line_value other (half (piece.from +ℚ piece.to))) (line_value line piece.from) (line_value line piece.to) (line_value line (half (piece.from +ℚ piece.to))) low high middle e f)
          (meet_last (line_value other piece.from) (line_value other piece.to) (line_value other (half (piece.from +ℚ piece.to))) (line_value line piece.from) (line_value line piece.to) (line_value line (half (piece.from +ℚ piece.to))) low high middle e f),
    )
  where
    mid_on : (t u m : ℚ) → m +ℚ m ≡ t +ℚ u → zero_q ≤ℚ t → t <ℚ u → zero_q ≤ℚ m
    mid_on t u m e on later = with3 t u m (λ c. omega (arith, c.le, c.lt, c.same))

    averages : (l : Line) (t u m : ℚ) → m +ℚ m ≡ t +ℚ u → line_value l t +ℚ line_value l u ≡ line_value l m +ℚ line_value l m
    averages l t u m e =
        let p = sym (mul_add (speed l.rate) t u) ∙ ap (λ z. speed l.rate *ℚ z) (sym e) ∙ mul_add (speed l.rate) m m in
        joined (bits l.burst) (speed l.rate *ℚ t) (speed l.rate *ℚ u) (speed l.rate *ℚ m) p
      where
        joined : (b x y z : ℚ) → x +ℚ y ≡ z +ℚ z → (b +ℚ x) +ℚ (b +ℚ y) ≡ (b +ℚ z) +ℚ (b +ℚ z)
        joined b x y z p = with4 b x y z (λ c. omega (arith, c.le, c.lt, c.same))

    meet_first : (a b m p q n : ℚ) → p ≤ℚ a → q ≤ℚ b → m ≤ℚ n → a +ℚ b ≡ m +ℚ m → p +ℚ q ≡ n +ℚ n → a ≡ p
    meet_first a b m p q n h k l e f = with6 a b m p q n (λ c. omega (arith, c.le, c.lt, c.same))

    meet_last : (a b m p q n : ℚ) → p ≤ℚ a → q ≤ℚ b → m ≤ℚ n → a +ℚ b ≡ m +ℚ m → p +ℚ q ≡ n +ℚ n → b ≡ q
    meet_last a b m p q n h k l e f = with6 a b m p q n (λ c. omega (arith, c.le, c.lt, c.same))
