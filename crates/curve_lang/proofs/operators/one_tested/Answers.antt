use Rattle.std.proofs.Common.{refl, sym, subst, inl, inr, true≢false}
use Rattle.curve_lang.specs.Finding.{Once, TestFinds, goes_on, stops}
use Rattle.curve_lang.proofs.Below.{above_is_negative, not_above_is_nonneg}
use Rattle.curve_lang.proofs.operators.one_tested.Goals as goal

pub returns-then-is_above_zero : goal.returns-then-is_above_zero
returns-then-is_above_zero g c =
    let test = subst (λ x. Once (TestFinds c.args.zero.now c.args.f.now) x c.args.steps.now c.tested.new.steps) c.in-Ok.is c.tested.ensures in
    goes_on c.in-Ok.above c.tested.new.steps test
    (inr (above_is_negative c.args.f.now c.args.zero.now c.in-Ok.above c.requires.finite c.requires.zero test.0.1 (c.if-is_above_zero.ensures.0 refl), (refl, refl)))

pub one_of-requires-clause-finite : goal.one_of-requires-clause-finite
one_of-requires-clause-finite g c = c.requires.finite

pub one_of-requires-clause-nonneg : goal.one_of-requires-clause-nonneg
one_of-requires-clause-nonneg g c =
    let test = subst (λ x. Once (TestFinds c.args.zero.now c.args.f.now) x c.args.steps.now c.tested.new.steps) c.in-Ok.is c.tested.ensures in
    not_above_is_nonneg c.args.f.now c.args.zero.now c.in-Ok.above c.requires.finite c.requires.zero test.0.1 (λ h. true≢false (sym (c.if-is_above_zero.ensures.1 h)))

pub returns-in-Err : goal.returns-in-Err
returns-in-Err g c = stops c.in-Err.kind (subst (λ x. Once (TestFinds c.args.zero.now c.args.f.now) x c.args.steps.now c.tested.new.steps) c.in-Err.is c.tested.ensures) refl

pub returns-else-is_above_zero : goal.returns-else-is_above_zero
returns-else-is_above_zero g c =
    let test = subst (λ x. Once (TestFinds c.args.zero.now c.args.f.now) x c.args.steps.now c.tested.new.steps) c.in-Ok.is c.tested.ensures in
    goes_on c.in-Ok.above c.tested.new.steps test
    (inl (
      not_above_is_nonneg c.args.f.now c.args.zero.now c.in-Ok.above c.requires.finite c.requires.zero test.0.1 (λ h. true≢false (sym (c.if-is_above_zero.ensures.1 h))),
      c.one_of.ensures,
    ))
