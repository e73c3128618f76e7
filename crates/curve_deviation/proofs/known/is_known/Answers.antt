use Rattle.std.proofs.Common.{inl, inr, sym, ◌∙◌, true≢false, refl}
use Rattle.curve_deviation.proofs.known.is_known.Goals as goal

pub returns-then-is_faster-clause-finite : goal.returns-then-is_faster-clause-finite
returns-then-is_faster-clause-finite c = λ h. absurd (h refl)

pub returns-clause-known : goal.returns-clause-known
returns-clause-known c = (
  λ h. inr (inr (c.ends_above.ensures.0 h)),
  λ s. elim s [
    | inl n ↦ absurd (n (c.is_number.ensures.finite.0 c.if-not-is_number.false))
    | inr (inl l) ↦ absurd (true≢false (sym (c.is_faster.ensures.faster.1 l) ∙ c.if-is_faster.false))
    | inr (inr e) ↦ c.ends_above.ensures.1 e
  ],
)

pub returns-clause-finite : goal.returns-clause-finite
returns-clause-finite c = λ h. c.is_number.ensures.finite.0 c.if-not-is_number.false
