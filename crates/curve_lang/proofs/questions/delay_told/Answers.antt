use Rattle.std.proofs.Common.{sym, inl, inr, true≢false, refl}
use Rattle.curve_lang.proofs.questions.delay_told.Goals as goal

pub returns-then-not-is_finite : goal.returns-then-not-is_finite
returns-then-not-is_finite g c = inr ((λ h. true≢false (sym (c.if-not-is_finite.ensures.1 h.finite))), (refl, refl))

pub returns-then-not-is_rising : goal.returns-then-not-is_rising
returns-then-not-is_rising g c = inr ((λ h. true≢false (sym (c.if-not-is_rising.ensures.1 h.first))), (refl, refl))

pub returns-then-not-is_rising-2 : goal.returns-then-not-is_rising-2
returns-then-not-is_rising-2 g c = inr ((λ h. true≢false (sym (c.if-not-is_rising-2.ensures.1 h.second))), (refl, refl))

pub delay_found-requires : goal.delay_found-requires
delay_found-requires g c =
    record { finite = c.is_finite.ensures.0 c.if-not-is_finite.false; first = c.is_rising.ensures.0 c.if-not-is_rising.false; second = c.is_rising-2.ensures.0 c.if-not-is_rising-2.false }

pub returns : goal.returns
returns g c = inl (
  record { finite = c.is_finite.ensures.0 c.if-not-is_finite.false; first = c.is_rising.ensures.0 c.if-not-is_rising.false; second = c.is_rising-2.ensures.0 c.if-not-is_rising-2.false },
  c.delay_found.ensures,
)
