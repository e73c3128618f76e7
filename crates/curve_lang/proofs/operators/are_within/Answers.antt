use Rattle.curve_lang.proofs.operators.are_within.Goals as goal

pub returns-then-is_finite : goal.returns-then-is_finite
returns-then-is_finite c = (
  (λ h. (c.is_finite.ensures.0 c.if-is_finite.true, c.is_from_zero.ensures.0 h)),
  (λ k. c.is_from_zero.ensures.1 k.1),
)
