-- What two lines make of the splits of a time is a line too.
use Rattle.std.specs.Prelude.{◌≡◌, pos}
use Rattle.std.proofs.Common.{arith, sym, ap, ◌∙◌, inl, inr}
use Rattle.rational.specs.Rational.{ℚ, ◌+ℚ◌, ◌-ℚ◌, ◌*ℚ◌, ◌≤ℚ◌, int}
use Rattle.rational.specs.Line.{line_at}
use Rattle.rational.proofs.Laws.{le_or_lt, le_of_lt, mul_sub, sub_mul}
use Rattle.rational.proofs.Linear.{with5}
use Rattle.rational.proofs.Lines.{line_rises, line_falls}
use Rattle.min_plus.specs.best_splits.BestSplits.{split_value, LeastAtEnds}

split_line : (k r l q t s : ℚ) → line_at (k +ℚ line_at l q t) (r -ℚ q) s ≡ split_value k r l q t s
split_line k r l q t s =
    ap (λ y. (k +ℚ line_at l q t) +ℚ y) (sub_mul r q s) ∙ regroup k l (r *ℚ s) (q *ℚ t) (q *ℚ s) ∙ ap (λ y. (k +ℚ r *ℚ s) +ℚ (l +ℚ y)) (sym (mul_sub q t s))
  where
    regroup : (k l a b c : ℚ) → (k +ℚ (l +ℚ b)) +ℚ (a -ℚ c) ≡ (k +ℚ a) +ℚ (l +ℚ (b -ℚ c))
    regroup k l a b c = with5 k l a b c (λ w. omega (arith, w.le, w.lt, w.same))

through : (k r l q t x y : ℚ) → line_at (k +ℚ line_at l q t) (r -ℚ q) x ≤ℚ line_at (k +ℚ line_at l q t) (r -ℚ q) y → split_value k r l q t x ≤ℚ split_value k r l q t y
through k r l q t x y h = rw (← split_line k r l q t x, ← split_line k r l q t y) h

pub least_at_ends : LeastAtEnds
least_at_ends k r l q t low s high early late =
    let start = k +ℚ line_at l q t in
    let slope = r -ℚ q in
    elim (le_or_lt (int (pos 0)) slope) [
      | inl up ↦ inl (through k r l q t low s (line_rises start slope low s up early))
      | inr down ↦ inr (through k r l q t high s (line_falls start slope s high (le_of_lt down) late))
    ]
