-- Two lines on an open stretch: which is nowhere above the other, before and after they meet.
use Rattle.std.specs.Prelude.{◌≡◌, Bool, true, false, not, pos, IsTrue, ◌↔◌, Option, Some, None}
use Rattle.std.proofs.Common.{arith, sym, ap, ◌∙◌, refl, subst, inl, inr}
use Rattle.std.proofs.lemmas.Bool.{true≢false}
use Rattle.rational.specs.Rational.{ℚ, ◌+ℚ◌, ◌-ℚ◌, ◌*ℚ◌, ◌≤ℚ◌, ◌<ℚ◌, int}
use Rattle.rational.proofs.Laws.{le_of_lt, le_trans, le_total, lt_cases, mul_le_mul, mul_le_mul_right, sub_mul}
use Rattle.rational.proofs.Lines.{past_crossing, line_moved, line_falls}
use Rattle.rational.proofs.Linear.{with2, with3, with4}
use Rattle.upp_curve.specs.declared.affine_segment.line.Line.{Line}
use Rattle.upp_curve.specs.affine_segment.Values.{line_at}
use Rattle.curve_call.specs.Lies.{IsOrdered, LiesBy, MeetsAt, CrossesAt}

-- before two lines meet the shallower is the upper
before_meeting : (k l r q t u : ℚ) → k +ℚ r *ℚ t ≡ l +ℚ q *ℚ t → r ≤ℚ q → u ≤ℚ t → l +ℚ q *ℚ u ≤ℚ k +ℚ r *ℚ u
before_meeting k l r q t u e s h =
    let d = t -ℚ u in
    let some : int (pos 0) ≤ℚ d = with2 t u (λ c. omega (arith, c.le, c.lt, c.same)) in
    let there : u +ℚ d ≡ t = with2 t u (λ c. omega (arith, c.le, c.lt, c.same)) in
    let a : k +ℚ r *ℚ t ≡ (k +ℚ r *ℚ u) +ℚ r *ℚ d = ap (λ y. k +ℚ r *ℚ y) (sym there) ∙ line_moved k r u d in
    let b : l +ℚ q *ℚ t ≡ (l +ℚ q *ℚ u) +ℚ q *ℚ d = ap (λ y. l +ℚ q *ℚ y) (sym there) ∙ line_moved l q u d in
    lower (k +ℚ r *ℚ u) (l +ℚ q *ℚ u) (r *ℚ d) (q *ℚ d) (sym a ∙ e ∙ b) (mul_le_mul_right d some s)
  where
    lower : (v w m n : ℚ) → v +ℚ m ≡ w +ℚ n → m ≤ℚ n → w ≤ℚ v
    lower v w m n e h = with4 v w m n (λ c. omega (arith, c.le, c.lt, c.same))

pub before_turn : (rises : Bool) (l m : Line) (x t : ℚ) → MeetsAt rises l m x → t ≤ℚ x → IsOrdered rises (Some l) (Some m) t
before_turn true l m x t M h = before_meeting m.icept l.icept m.slope l.slope x t (sym M.1) (le_of_lt M.0) h
before_turn false l m x t M h = before_meeting l.icept m.icept l.slope m.slope x t M.1 (le_of_lt M.0) h

pub after_turn : (rises : Bool) (l m : Line) (x t : ℚ) → MeetsAt rises l m x → x ≤ℚ t → IsOrdered (not rises) (Some l) (Some m) t
after_turn true l m x t M h = past_crossing m.icept l.icept m.slope l.slope x t (sym M.1) (le_of_lt M.0) h
after_turn false l m x t M h = past_crossing l.icept m.icept l.slope m.slope x t M.1 (le_of_lt M.0) h

-- lines of two slopes meet where they are level, and the first rises past the second where it is the steeper
pub meets_by : (rises : Bool) (l m : Line) (x : ℚ) → (IsTrue rises ↔ (m.slope <ℚ l.slope)) → (l.slope ≡ m.slope → ⊥) → line_at l x ≡ line_at m x → MeetsAt rises l m x
meets_by true l m x h differ e = (h.0 refl, e)
meets_by false l m x h differ e = elim (lt_cases l.slope m.slope) [
  | inl less ↦ (less, e)
  | inr (inl same) ↦ absurd (differ same)
  | inr (inr more) ↦ absurd (true≢false (sym (h.1 more)))
]

-- lines of one slope
pub parallel_lines : (l m : Line) (t : ℚ) → l.slope ≡ m.slope → l.icept ≤ℚ m.icept → line_at l t ≤ℚ line_at m t
parallel_lines l m t e h =
    let i = l.icept in
    let j = m.icept in
    let p = m.slope *ℚ t in
    subst (λ s. i +ℚ s *ℚ t ≤ℚ j +ℚ m.slope *ℚ t) (sym e) (with3 i j p (λ c. omega (arith, c.le, c.lt, c.same)))

pub before_crossing : (rises : Bool) (l m : Option Line) (x t : ℚ) → CrossesAt rises l m x → t ≤ℚ x → IsOrdered rises l m t
before_crossing rises None m x t C h = absurd C
before_crossing rises (Some l) None x t C h = absurd C
before_crossing rises (Some l) (Some m) x t C h = before_turn rises l m x t C h

pub after_crossing : (rises : Bool) (l m : Option Line) (x t : ℚ) → CrossesAt rises l m x → x ≤ℚ t → IsOrdered (not rises) l m t
after_crossing rises None m x t C h = absurd C
after_crossing rises (Some l) None x t C h = absurd C
after_crossing rises (Some l) (Some m) x t C h = after_turn rises l m x t C h

-- ---- by what two lines are apart at 0, and what they close in a time unit
apart_by : (l m : Line) (closing t : ℚ) → closing ≡ l.slope -ℚ m.slope → closing *ℚ t ≡ l.slope *ℚ t -ℚ m.slope *ℚ t
apart_by l m closing t e = ap (λ z. z *ℚ t) e ∙ sub_mul l.slope m.slope t

closed_below : (l m : Line) (apart closing t : ℚ) → apart ≡ m.icept -ℚ l.icept → closing ≡ l.slope -ℚ m.slope → closing *ℚ t ≤ℚ apart → line_at l t ≤ℚ line_at m t
closed_below l m apart closing t p q h = lower l.icept m.icept (l.slope *ℚ t) (m.slope *ℚ t) (subst (λ z. z ≤ℚ m.icept -ℚ l.icept) (apart_by l m closing t q) (subst (λ z. closing *ℚ t ≤ℚ z) p h))
  where
    lower : (k l v w : ℚ) → v -ℚ w ≤ℚ l -ℚ k → k +ℚ v ≤ℚ l +ℚ w
    lower k l v w h = with4 k l v w (λ c. omega (arith, c.le, c.lt, c.same))

closed_above : (l m : Line) (apart closing t : ℚ) → apart ≡ m.icept -ℚ l.icept → closing ≡ l.slope -ℚ m.slope → apart ≤ℚ closing *ℚ t → line_at m t ≤ℚ line_at l t
closed_above l m apart closing t p q h = upper l.icept m.icept (l.slope *ℚ t) (m.slope *ℚ t) (subst (λ z. m.icept -ℚ l.icept ≤ℚ z) (apart_by l m closing t q) (subst (λ z. z ≤ℚ closing *ℚ t) p h))
  where
    upper : (k l v w : ℚ) → l -ℚ k ≤ℚ v -ℚ w → l +ℚ w ≤ℚ k +ℚ v
    upper k l v w h = with4 k l v w (λ c. omega (arith, c.le, c.lt, c.same))

falls : (r s t : ℚ) → r ≤ℚ int (pos 0) → s ≤ℚ t → r *ℚ t ≤ℚ r *ℚ s
falls r s t h k = let m = line_falls (int (pos 0)) r s t h k in with2 (r *ℚ s) (r *ℚ t) (λ c. omega (arith, c.le, c.lt, c.same))

-- what is so at both ends is so between them
below_between : (r from to t a : ℚ) → from ≤ℚ t → t ≤ℚ to → r *ℚ from ≤ℚ a → r *ℚ to ≤ℚ a → r *ℚ t ≤ℚ a
below_between r from to t a h k first last = elim (le_total (int (pos 0)) r) [
  | inl up ↦ le_trans (mul_le_mul r up k) last
  | inr down ↦ le_trans (falls r from t down h) first
]

above_between : (r from to t a : ℚ) → from ≤ℚ t → t ≤ℚ to → a ≤ℚ r *ℚ from → a ≤ℚ r *ℚ to → a ≤ℚ r *ℚ t
above_between r from to t a h k first last = elim (le_total (int (pos 0)) r) [
  | inl up ↦ le_trans first (mul_le_mul r up h)
  | inr down ↦ le_trans last (falls r t to down k)
]

pub lies_below : (l m : Line) (apart closing first last from to : ℚ) → apart ≡ m.icept -ℚ l.icept → closing ≡ l.slope -ℚ m.slope → first ≡ closing *ℚ from → last ≡ closing *ℚ to
    → first ≤ℚ apart → last ≤ℚ apart → LiesBy true (Some l) (Some m) from to None
lies_below l m apart closing first last from to p q e f h k = λ t past before.
    closed_below l m apart closing t p q (below_between closing from to t apart (le_of_lt past) (le_of_lt before) (subst (λ z. z ≤ℚ apart) e h) (subst (λ z. z ≤ℚ apart) f k))

pub lies_above : (l m : Line) (apart closing first last from to : ℚ) → apart ≡ m.icept -ℚ l.icept → closing ≡ l.slope -ℚ m.slope → first ≡ closing *ℚ from → last ≡ closing *ℚ to
    → apart ≤ℚ first → apart ≤ℚ last → LiesBy false (Some l) (Some m) from to None
lies_above l m apart closing first last from to p q e f h k = λ t past before.
    closed_above l m apart closing t p q (above_between closing from to t apart (le_of_lt past) (le_of_lt before) (subst (λ z. apart ≤ℚ z) e h) (subst (λ z. apart ≤ℚ z) f k))
