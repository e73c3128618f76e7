use Rattle.std.proofs.Common.{refl, subst, inl, inr}
use Rattle.rational.specs.Rational.{◌≤ℚ◌, ◌<ℚ◌}
use Rattle.rational.proofs.Compared.{not_less_out}
use Rattle.rational.proofs.Laws.{not_le_of_lt}
use Rattle.curve_lang.specs.Finding.{ValueFinds, goes_on, stops}
use Rattle.curve_lang.proofs.questions.value_told.Goals as goal

pub returns-then-is_less : goal.returns-then-is_less
returns-then-is_less c = λ n. inr ((λ h. not_le_of_lt (subst (λ z. c.args.t <ℚ z) c.zero.ensures (c.is_less.ensures.less.0 c.if-is_less.true)) h), (refl, refl))

pub value_found-requires : goal.value_found-requires
value_found-requires c = subst (λ z. z ≤ℚ c.args.t) c.zero.ensures (not_less_out c.is_less.result c.args.t c.zero.result c.is_less.ensures.less c.if-is_less.false)

pub returns-in-Ok : goal.returns-in-Ok
returns-in-Ok c = λ n.
    inl (
      subst (λ z. z ≤ℚ c.args.t) c.zero.ensures (not_less_out c.is_less.result c.args.t c.zero.result c.is_less.ensures.less c.if-is_less.false),
      goes_on c.in-Ok.value n (subst (λ x. ValueFinds c.args.f.now c.args.t x) c.in-Ok.is c.value_found.ensures, refl) (refl, refl),
    )

pub returns-in-Err : goal.returns-in-Err
returns-in-Err c = λ n.
    inl (
      subst (λ z. z ≤ℚ c.args.t) c.zero.ensures (not_less_out c.is_less.result c.args.t c.zero.result c.is_less.ensures.less c.if-is_less.false),
      stops c.in-Err.kind (subst (λ x. ValueFinds c.args.f.now c.args.t x) c.in-Err.is c.value_found.ensures, refl) refl,
    )
