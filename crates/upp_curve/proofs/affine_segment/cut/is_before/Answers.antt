use Rattle.std.proofs.Common.{subst, sym, true≢false}
use Rattle.rational.specs.Extended.{◌<ₑ◌}
use Rattle.rational.specs.declared.Extended.TheVariants.{Fin}
use Rattle.rational.proofs.Laws.{lt_le_trans, lt_irrefl}
use Rattle.rational.proofs.Compared.{not_less}
use Rattle.upp_curve.proofs.affine_segment.cut.is_before.Goals as goal

pub returns-in_default : goal.returns-in_default
returns-in_default c = (
  λ h. absurd (true≢false (sym h)),
  λ l. absurd (lt_irrefl c.args.x (lt_le_trans (subst (λ z. Fin c.args.x <ₑ z) c.in-Fin.is l) (not_less c.cmp.result c.cmp.ensures.ranks c.in_default.not-Less))),
)
