-- The values of a line at two times.
use Rattle.std.specs.Prelude.{◌≡◌, pos, Option, Some, None}
use Rattle.std.proofs.Common.{arith, refl, inl, inr, sym, ap, ◌∙◌}
use Rattle.rational.specs.Rational.{ℚ, ◌+ℚ◌, ◌-ℚ◌, ◌*ℚ◌, ◌≤ℚ◌, ◌<ℚ◌, int}
use Rattle.rational.specs.declared.Extended.TheVariants.{Fin}
use Rattle.rational.proofs.Laws.{le_or_lt, lt_irrefl, lt_le_trans, zero_mul, mul_zero, add_zero}
use Rattle.rational.proofs.ExtendedOrder.{same_le_ext}
use Rattle.rational.proofs.Linear.{with3}
use Rattle.rational.proofs.Lines.{line_rises, line_moved}
use Rattle.upp_curve.specs.declared.affine_segment.line.Line.{Line}
use Rattle.upp_curve.specs.affine_segment.Values.{line_at, line_value}
use Rattle.upp_curve.specs.Unrolled.{line_later}

-- a line that does not fall
pub value_rises : (l : Line) (s t : ℚ) → int (pos 0) ≤ℚ l.slope → s ≤ℚ t → line_at l s ≤ℚ line_at l t
value_rises l s t r h = line_rises l.icept l.slope s t r h

-- a level line
pub level_value : (l : Line) (t : ℚ) → l.slope ≡ int (pos 0) → l.icept ≡ line_at l t
level_value l t e = sym (ap (λ s. l.icept +ℚ s *ℚ t) e ∙ ap (λ y. l.icept +ℚ y) (zero_mul t) ∙ add_zero l.icept)

-- at 0
pub start_value : (l : Line) (t : ℚ) → t ≡ int (pos 0) → l.icept ≡ line_at l t
start_value l t e = sym (ap (λ s. l.icept +ℚ l.slope *ℚ s) e ∙ ap (λ y. l.icept +ℚ y) (mul_zero l.slope) ∙ add_zero l.icept)

-- a level line is moved in height alone
abbrev pub some_line : ℚ → ℚ → Option Line
some_line i s = Some record { icept = i; slope = s }

pub level_later : (l : Line) (d c i : ℚ) → i ≡ l.icept +ℚ c → l.slope ≡ int (pos 0) → some_line i l.slope ≡ line_later d c (Some l)
level_later l d c i is e =
    let none : l.slope *ℚ d ≡ int (pos 0) = ap (λ s. s *ℚ d) e ∙ zero_mul d in
    let back : l.icept +ℚ c ≡ l.icept +ℚ c -ℚ l.slope *ℚ d = with3 l.icept c (l.slope *ℚ d) (λ k. omega (arith, k.le, k.lt, k.same)) in
    ap (λ (j : ℚ). some_line j l.slope) (is ∙ back)

-- higher is later
pub value_later : (l : Line) (s t : ℚ) → int (pos 0) ≤ℚ l.slope → line_at l s <ℚ line_at l t → s <ℚ t
value_later l s t r h = elim (le_or_lt t s) [
  | inl k ↦ absurd (lt_irrefl (line_at l s) (lt_le_trans h (value_rises l t s r k)))
  | inr k ↦ k
]

pub value_moved : (l : Line) (s d : ℚ) → line_at l (s +ℚ d) ≡ line_at l s +ℚ l.slope *ℚ d
value_moved l s d = line_moved l.icept l.slope s d

-- a finite value is read from a line
pub line_found : (o : Option Line) (t v : ℚ) → line_value o t ≡ Fin v → (l : Line) × (o ≡ Some l)
line_found None t v e = absurd (same_le_ext e)
line_found (Some l) t v e = (l, refl)
