-- What repeats pieces that are moved left and turned over repeats as what repeats them: its periods stand on the same grids.
use Rattle.std.specs.Prelude.{◌≡◌, ◌⊎◌, ℕ, ◌≤◌, pos, Option, Some, None}
use Rattle.std.proofs.Common.{arith, sym, ap, ◌∙◌, refl, subst, inl, inr}
use Rattle.rational.specs.Rational.{ℚ, ◌+ℚ◌, ◌-ℚ◌, ◌*ℚ◌, ◌/ℚ◌, ◌≤ℚ◌, ◌<ℚ◌, neg_ℚ, inv_ℚ, int}
use Rattle.rational.specs.Whole.{periods, whole_part}
use Rattle.rational.specs.Grid.{Whole}
use Rattle.rational.specs.Extended.{Ext, ◌+ₑ◌}
use Rattle.rational.specs.declared.Extended.TheVariants.{Fin, Inf}
use Rattle.rational.proofs.Grid.{whole_neg}
use Rattle.rational.proofs.Linear.{with1, with2, with3, with4, with5}
use Rattle.rational.proofs.Laws.{le_of_lt, le_or_lt, neg_mul, mul_neg, mul_add, zero_mul}
use Rattle.rational.proofs.Whole.{periods_low, periods_small}
use Rattle.upp_curve.specs.declared.affine_segment.line.Line.{Line}
use Rattle.upp_curve.specs.affine_segment.Values.{line_at, line_value}
use Rattle.upp_curve.specs.Curve.{repeated}
use Rattle.upp_curve.specs.Steady.{Repeats}
use Rattle.upp_normal.specs.Normalising.{IsOneLine, OnGridsUnlessLine}
use Rattle.upp_normal.proofs.NormaliseLeast.{share_some}
use Rattle.curve_deconv.specs.Mirrored.{neg_ext}

-- ---- minus a value
pub neg_twice : (v : Ext) → neg_ext (neg_ext v) ≡ v
neg_twice Inf = refl
neg_twice (Fin v) = ap Fin (with1 v (λ c. omega (arith, c.le, c.lt, c.same)))

neg_sum : (v : Ext) (a b : ℚ) → b ≡ neg_ℚ a → neg_ext (v +ₑ Fin b) ≡ neg_ext v +ₑ Fin a
neg_sum Inf a b e = refl
neg_sum (Fin v) a b e = ap Fin (with3 v a b (λ c. omega (arith, c.le, c.lt, c.same)))

-- ---- repeated
same_periods : (from reach period t : ℚ) → periods (from +ℚ reach) period (t +ℚ reach) ≡ periods from period t
unfolding periods
same_periods from reach period t = ap (λ y. whole_part (y /ℚ period)) e
  where
    e : (t +ℚ reach) -ℚ (from +ℚ reach) ≡ t -ℚ from
    e = with3 t reach from (λ c. omega (arith, c.le, c.lt, c.same))

-- f at t is minus g at `reach` after t
abbrev pub IsTurned : (ℚ → Ext) → (ℚ → Ext) → ℚ → ℚ → Type 0
IsTurned f g reach from = (t : ℚ) → from ≤ℚ t → f t ≡ neg_ext (g (t +ℚ reach))

early_low : (from period t : ℚ) → int (pos 0) <ℚ period → int (pos 0) ≤ℚ from → int (pos 0) ≤ℚ t → int (pos 0) ≤ℚ t -ℚ int (pos (periods from period t)) *ℚ period
early_low from period t some low nonneg = by (le_or_lt from t)
  where
    by : (from ≤ℚ t) ⊎ (t <ℚ from) → int (pos 0) ≤ℚ t -ℚ int (pos (periods from period t)) *ℚ period
    by (inl h) =
        let y = int (pos (periods from period t)) *ℚ period in
        let l = periods_low from period t some h in
        with3 from t y (λ c. omega (arith, c.le, c.lt, c.same))
    by (inr h) =
        let none = periods_small from period t some (with3 t from period (λ c. omega (arith, c.le, c.lt, c.same))) in
        let e : int (pos (periods from period t)) *ℚ period ≡ int (pos 0) = ap (λ n. int (pos n) *ℚ period) none ∙ zero_mul period in
        let y = int (pos (periods from period t)) *ℚ period in
        with2 t y (λ c. omega (arith, c.le, c.lt, c.same))

pub turned_repeated : (f g : ℚ → Ext) (from reach period rise : ℚ) → int (pos 0) <ℚ period → int (pos 0) ≤ℚ from → IsTurned f g reach (int (pos 0))
    → IsTurned (repeated f from period rise) (repeated g (from +ℚ reach) period (neg_ℚ rise)) reach (int (pos 0))
unfolding repeated
turned_repeated f g from reach period rise some low T t nonneg =
    let n = int (pos (periods from period t)) in
    let y = n *ℚ period in
    let a = n *ℚ rise in
    let b = n *ℚ neg_ℚ rise in
    let e : b ≡ neg_ℚ a = mul_neg n rise in
    let there : (t -ℚ y) +ℚ reach ≡ (t +ℚ reach) -ℚ y = with3 t y reach (λ c. omega (arith, c.le, c.lt, c.same)) in
    let here : f (t -ℚ y) ≡ neg_ext (g ((t +ℚ reach) -ℚ y)) = T (t -ℚ y) (early_low from period t some low nonneg) ∙ ap (λ w. neg_ext (g w)) there in
    ap (λ v. v +ₑ Fin a) here ∙ sym (neg_sum (g ((t +ℚ reach) -ℚ y)) a b e)
    ∙ ap (λ k. neg_ext (g ((t +ℚ reach) -ℚ int (pos k) *ℚ period) +ₑ Fin (int (pos k) *ℚ neg_ℚ rise))) (sym (same_periods from reach period t))

-- ---- one line
-- a line moved left by x, and turned over
abbrev left_neg : ℚ → Line → Line
left_neg x l = record { icept = neg_ℚ (line_at l x); slope = neg_ℚ l.slope }

abbrev left_neg_option : ℚ → Option Line → Option Line
left_neg_option x None = None
left_neg_option x (Some l) = Some (left_neg x l)

left_neg_at : (x t : ℚ) (l : Line) → neg_ℚ (line_at l (t +ℚ x)) ≡ line_at (left_neg x l) t
left_neg_at x t l =
    let i = l.icept in
    let a = l.slope *ℚ x in
    let b = l.slope *ℚ t in
    let c = l.slope *ℚ (t +ℚ x) in
    let d = neg_ℚ l.slope *ℚ t in
    let e : c ≡ b +ℚ a = mul_add l.slope t x in
    let k : d ≡ neg_ℚ b = neg_mul l.slope t in
    with5 i a b c d (λ c. omega (arith, c.le, c.lt, c.same))

left_neg_value : (x t : ℚ) (o : Option Line) → neg_ext (line_value o (t +ℚ x)) ≡ line_value (left_neg_option x o) t
left_neg_value x t None = refl
left_neg_value x t (Some l) = ap Fin (left_neg_at x t l)

line_out : (f g : ℚ → Ext) (from reach : ℚ) → IsTurned f g reach from → IsOneLine g (from +ℚ reach) → IsOneLine f from
line_out f g from reach T L =
    (left_neg_option reach L.0, λ t h. T t h ∙ ap neg_ext (L.1 (t +ℚ reach) (with3 from t reach (λ c. omega (arith, c.le, c.lt, c.same)))) ∙ left_neg_value reach t L.0)

-- ---- periods
over_neg : (c : ℚ) (n : ℚ) → neg_ℚ c /ℚ n ≡ neg_ℚ (c /ℚ n)
unfolding ◌/ℚ◌
over_neg c n = neg_mul c (inv_ℚ n)

back_at : (f g : ℚ → Ext) (from reach t : ℚ) → IsTurned f g reach from → from +ℚ reach ≤ℚ t → g t ≡ neg_ext (f (t -ℚ reach))
back_at f g from reach t T h =
    let e : (t -ℚ reach) +ℚ reach ≡ t = with2 t reach (λ c. omega (arith, c.le, c.lt, c.same)) in
    sym (ap neg_ext (T (t -ℚ reach) (with3 from reach t (λ c. omega (arith, c.le, c.lt, c.same)))) ∙ neg_twice (g ((t -ℚ reach) +ℚ reach)) ∙ ap g e)

repeats_back : (f g : ℚ → Ext) (from reach p c b : ℚ) → int (pos 0) ≤ℚ p → b ≡ neg_ℚ c → IsTurned f g reach from → Repeats f from p c → Repeats g (from +ℚ reach) p b
repeats_back f g from reach p c b some e T R = record {
  rule = λ t h.
      let s = t -ℚ reach in
      let late : from ≤ℚ s = with3 from reach t (λ c. omega (arith, c.le, c.lt, c.same)) in
      let far : from +ℚ reach ≤ℚ t +ℚ p = with4 from reach t p (λ c. omega (arith, c.le, c.lt, c.same)) in
      let moved : (t +ℚ p) -ℚ reach ≡ s +ℚ p = with3 t p reach (λ c. omega (arith, c.le, c.lt, c.same)) in
      let up : c ≡ neg_ℚ b = with2 b c (λ c. omega (arith, c.le, c.lt, c.same)) in
      back_at f g from reach (t +ℚ p) T far ∙ ap (λ w. neg_ext (f w)) moved ∙ ap neg_ext (R.rule s late) ∙ neg_sum (f s) b c up ∙ ap (λ v. v +ₑ Fin b) (sym (back_at f g from reach t T h));
}

neg_back : (c : ℚ) → neg_ℚ (neg_ℚ c) ≡ c
neg_back c = with1 c (λ e. omega (arith, e.le, e.lt, e.same))

pub turned_grids : (times values : ℕ) (f g : ℚ → Ext) (from reach period rise : ℚ) → int (pos 0) <ℚ period → IsTurned f g reach from
    → OnGridsUnlessLine times values g (from +ℚ reach) period (neg_ℚ rise) → OnGridsUnlessLine times values f from period rise
turned_grids times values f g from reach period rise some T G not =
    let O = G (λ l. not (line_out f g from reach T l)) in
    record {
      time = λ n k R. O.time n k (back n k R);
      value = λ n k R.
          subst (Whole values) (ap neg_ℚ (over_neg rise (int (pos n))) ∙ neg_back (rise /ℚ int (pos n)))
          (whole_neg values (neg_ℚ rise /ℚ int (pos n)) (O.value n k (back n k R)));
    }
  where
    back : (n : ℕ) → 1 ≤ n → Repeats f from (period /ℚ int (pos n)) (rise /ℚ int (pos n)) → Repeats g (from +ℚ reach) (period /ℚ int (pos n)) (neg_ℚ rise /ℚ int (pos n))
    back n k R =
        repeats_back f g from reach (period /ℚ int (pos n)) (rise /ℚ int (pos n)) (neg_ℚ rise /ℚ int (pos n)) (le_of_lt (share_some period n k some)) (over_neg rise (int (pos n))) T R
