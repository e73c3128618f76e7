use Rattle.std.proofs.Common.{true≢false, sym, subst, refl}
use Rattle.rational.specs.Extended.{◌≤ₑ◌}
use Rattle.rational.specs.declared.Extended.TheVariants.{Fin}
use Rattle.rational.proofs.Laws.{lt_irrefl, lt_le_trans}
use Rattle.rational.proofs.Compared.{is_greater, not_greater}
use Rattle.upp_curve.proofs.shape.at_most.Goals as goal

pub returns-in-Greater : goal.returns-in-Greater
returns-in-Greater c = (
  λ h. absurd (true≢false (sym h)),
  λ l.
      let k = subst (λ z. Fin c.in-Fin-a.x ≤ₑ z) c.in-Fin.is (subst (λ z. z ≤ₑ c.args.b) c.in-Fin-a.is l) in
      absurd (lt_irrefl c.in-Fin.y (lt_le_trans (is_greater c.cmp.result c.cmp.ensures.ranks c.in-Greater.is) k)),
)

pub returns-in_default : goal.returns-in_default
returns-in_default c = (
  λ h. subst (λ z. z ≤ₑ c.args.b) (sym c.in-Fin-a.is) (subst (λ z. Fin c.in-Fin-a.x ≤ₑ z) (sym c.in-Fin.is) (not_greater c.cmp.result c.cmp.ensures.ranks c.in_default.not-Greater)),
  λ l. refl,
)
