-- The text of a number that a fraction of the code can be is that of no other number.
use Rattle.std.specs.Prelude.{◌≡◌, codes}
use Rattle.std.proofs.Common.{refl, sym, ap, ap₂, ◌∙◌, subst, arith}
use Rattle.rational.specs.Rational.{ℚ, frac}
use Rattle.rational.specs.Ratio.{IsSmall}
use Rattle.rational.specs.Fractions.{frac_self}
use Rattle.rational.specs.declared.Extended.TheVariants.{Fin, Inf}
use Rattle.fraction128.specs.Text.{text_of}
use Rattle.report_text.specs.Laws.{TextsTellNumbers, OnlyInfinityIsUnbounded}
use Rattle.report_text.proofs.Digits.{AreFrom, text_bytes, same_over}

-- no number is written as `unbounded`, whose first byte is above those of digits
not_unbounded : (x : ℚ) → text_of x ≡ codes "unbounded" → ⊥
not_unbounded x same = omega (arith, (subst (AreFrom 45) same (text_bytes x.num x.pre)).0.1)

same_number : (x y : ℚ) → IsSmall x → text_of x ≡ text_of y → x ≡ y
same_number x y small same =
    let parts = same_over x.num y.num x.pre y.pre small.top small.bottom same in
    frac_self x ∙ ap₂ frac parts.tops parts.bottoms ∙ sym (frac_self y)

pub texts_tell_numbers : TextsTellNumbers
texts_tell_numbers Inf Inf h same = refl
texts_tell_numbers Inf (Fin y) h same = absurd (not_unbounded y (sym same))
texts_tell_numbers (Fin x) Inf h same = absurd (not_unbounded x same)
texts_tell_numbers (Fin x) (Fin y) h same = ap Fin (same_number x y h same)

pub only_infinity : OnlyInfinityIsUnbounded
only_infinity Inf same = refl
only_infinity (Fin x) same = absurd (not_unbounded x same)
