use Rattle.std.proofs.Common.{refl, subst, ◌∙◌, inl}
use Rattle.curve_lang.specs.Finding.{Gives, zero_curve, goes_on, stops, OneFinds}
use Rattle.curve_lang.specs.Found.{TestedBy}
use Rattle.curve_lang.specs.Views.{found}
use Rattle.curve_lang.proofs.Findings.{gives_ok}
use Rattle.curve_lang.proofs.operators.one_made.Goals as goal

pub one_tested-requires-clause-finite : goal.one_tested-requires-clause-finite
one_tested-requires-clause-finite g c = c.is_finite.ensures.0 c.if-not-is_finite.false

pub one_tested-requires-clause-zero : goal.one_tested-requires-clause-zero
one_tested-requires-clause-zero g c =
    c.deref.ensures ∙ gives_ok zero_curve c.in-Ok.zero.value (subst (λ x. Gives zero_curve (found x)) c.in-Ok.is c.zero_found.ensures)

pub returns-in-Ok : goal.returns-in-Ok
returns-in-Ok g c =
    inl (
      c.is_finite.ensures.0 c.if-not-is_finite.false,
      goes_on c.in-Ok.zero.value c.args.steps.now (subst (λ x. Gives zero_curve (found x)) c.in-Ok.is c.zero_found.ensures, refl)
          (subst (λ z. TestedBy z c.args.f.now (OneFinds c.args.operator c.args.f.now) (found c.one_tested.result) c.args.steps.now c.one_tested.new.steps)
          c.deref.ensures c.one_tested.ensures),
    )

pub returns-in-Err : goal.returns-in-Err
returns-in-Err g c =
    inl (
      c.is_finite.ensures.0 c.if-not-is_finite.false,
      stops c.in-Err.kind (subst (λ x. Gives zero_curve (found x)) c.in-Err.is c.zero_found.ensures, refl) refl,
    )
