-- The copies of an element, by a test of where it starts.
use Rattle.std.specs.Prelude.{◌≡◌, Bool, true, false, Some, None}
use Rattle.std.proofs.Common.{sym, refl, ◌∙◌, subst, inl, inr, true≢false}
use Rattle.rational.specs.Rational.{ℚ, ◌<ℚ◌, lt_q}
use Rattle.rational.proofs.Laws.{le_or_lt}
use Rattle.rational.proofs.Over.{le_q_out, lt_q_out, lt_q_in}
use Rattle.rational.proofs.MinMax.{le_q_not}
use Rattle.upp_curve.specs.declared.affine_segment.element.Element.{Element}
use Rattle.upp_curve.specs.affine_segment.Elements.{start_of}
use Rattle.upp_curve.specs.declared.curve.Tail.{Tail}
use Rattle.upp_curve.specs.declared.curve.Tail.TheVariants.{Periodic}
use Rattle.subadd_closure.specs.CurveParts.{copies_of}

pub early_copies : (tail : Tail) (e : Element) (rank period rise s : ℚ) (b : Bool) → tail ≡ Periodic rank period rise
    → s ≡ start_of e → b ≡ lt_q s rank → b ≡ true → None ≡ copies_of tail e
early_copies tail e rank period rise s b is at test less =
    let early : start_of e <ℚ rank = subst (λ z. z <ℚ rank) at (lt_q_in s rank (sym test ∙ less)) in
    subst (λ z. None ≡ copies_of z e) (sym is) (rw (le_q_not rank (start_of e) early) refl)

pub late_copies : (tail : Tail) (e : Element) (rank period rise s : ℚ) (b : Bool) → tail ≡ Periodic rank period rise
    → s ≡ start_of e → b ≡ lt_q s rank → b ≡ false → Some record { period = period; rise = rise } ≡ copies_of tail e
late_copies tail e rank period rise s b is at test no_less =
    subst (λ z. Some record { period = period; rise = rise } ≡ copies_of z e) (sym is) (elim (le_or_lt rank (start_of e)) [
      | inl late ↦ rw (le_q_out rank (start_of e) late) refl
      | inr early ↦ absurd (true≢false (sym (lt_q_out s rank (subst (λ z. z <ℚ rank) (sym at) early)) ∙ sym test ∙ no_less))
    ])
