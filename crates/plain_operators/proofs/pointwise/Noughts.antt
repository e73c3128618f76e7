-- The curve that is 0 at each time, by its one piece; and a sum with it is the other curve.
use Rattle.std.specs.Prelude.{◌≡◌, pos}
use Rattle.std.proofs.Common.{sym, ap, ap₂, ◌∙◌}
use Rattle.rational.specs.Rational.{ℚ, ◌≤ℚ◌, int}
use Rattle.rational.specs.Extended.{◌+ₑ◌}
use Rattle.rational.specs.declared.Extended.TheVariants.{Fin}
use Rattle.rational.proofs.ExtendedOrder.{add_zero_ext, zero_add_ext}
use Rattle.min_plus.specs.Functions.{zero_q}
use Rattle.min_plus.specs.Pointwise.{IsSum}
use Rattle.upp_curve.specs.declared.affine_segment.line.Line.{Line}
use Rattle.upp_curve.specs.Curve.{SpecCurve, value_at}
use Rattle.curve_call.specs.Levels.{level_curve}
use Rattle.curve_call.proofs.Levels.{level_value}
use Rattle.plain_operators.specs.declared.pointwise.straight.Straight.{Straight}
use Rattle.plain_operators.specs.pointwise.Straight.{straight_curve}

-- a curve of one line whose three numbers are 0
pub nought_is : (c : SpecCurve) (s : Straight) → c ≡ straight_curve s → s.at ≡ zero_q → s.line.icept ≡ zero_q → s.line.slope ≡ zero_q → c ≡ level_curve zero_q
nought_is c s e at icept slope =
    let line = λ (x y : ℚ). let l : Line = record { icept = x; slope = y } in l in
    let both = λ (x : ℚ) (l : Line). let t : Straight = record { at = x; line = l } in straight_curve t in
    e ∙ ap₂ both at (ap₂ line icept slope)

nought_value : (c : SpecCurve) (t : ℚ) → c ≡ level_curve zero_q → int (pos 0) ≤ℚ t → value_at c t ≡ Fin zero_q
nought_value c t e low = ap (λ k. value_at k t) e ∙ level_value zero_q t low

-- the sum is a copy of the other
pub nought_left : (f g c : SpecCurve) (t : ℚ) → f ≡ level_curve zero_q → c ≡ g → int (pos 0) ≤ℚ t → IsSum (value_at f) (value_at g) t (value_at c t)
nought_left f g c t e same low =
    ap (λ k. value_at k t) same ∙ sym (ap (λ v. v +ₑ value_at g t) (nought_value f t e low) ∙ zero_add_ext (value_at g t))

pub nought_right : (f g c : SpecCurve) (t : ℚ) → g ≡ level_curve zero_q → c ≡ f → int (pos 0) ≤ℚ t → IsSum (value_at f) (value_at g) t (value_at c t)
nought_right f g c t e same low =
    ap (λ k. value_at k t) same ∙ sym (ap (λ v. value_at f t +ₑ v) (nought_value g t e low) ∙ add_zero_ext (value_at f t))
