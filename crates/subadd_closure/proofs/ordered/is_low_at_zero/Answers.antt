use Rattle.std.specs.Prelude.{pos}
use Rattle.std.proofs.Common.{sym, subst, ◌∙◌, ◌≡◌}
use Rattle.rational.specs.Rational.{◌≤ℚ◌, int}
use Rattle.rational.specs.Extended.{◌≤ₑ◌}
use Rattle.rational.specs.declared.Extended.TheVariants.{Fin}
use Rattle.rational.proofs.Laws.{le_refl}
use Rattle.min_plus.specs.Functions.{zero_q}
use Rattle.upp_curve.specs.Curve.{value_at}
use Rattle.subadd_closure.proofs.ordered.is_low_at_zero.Goals as goal

pub value_at-requires : goal.value_at-requires
value_at-requires c = subst (λ x. int (pos 0) ≤ℚ x) (sym c.zero.ensures) (le_refl (int (pos 0)))

pub returns-in-Ok-Fin : goal.returns-in-Ok-Fin
returns-in-Ok-Fin c told =
    let v = c.in-Ok-Fin.v in
    let low : v ≤ℚ zero_q = subst (λ y. v ≤ℚ y) c.zero-in-Ok-Fin.ensures (c.is_at_most.ensures told) in
    let at : value_at c.args.c.now zero_q ≡ Fin v = subst (λ t. value_at c.args.c.now t ≡ Fin v) c.zero.ensures
    (sym c.in-Ok-Fin.ensures.value ∙ c.in-Ok-Fin.field-0-is) in
    subst (λ y. y ≤ₑ Fin zero_q) (sym at) low
