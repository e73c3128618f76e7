use Rattle.std.specs.Prelude.{◌↔◌, IsTrue}
use Rattle.std.proofs.Common.{sym, subst, ◌∙◌}
use Rattle.rational.specs.Rational.{ℚ, ◌<ℚ◌}
use Rattle.rational.specs.Extended.{Ext, ◌<ₑ◌}
use Rattle.rational.specs.declared.Extended.TheVariants.{Fin}
use Rattle.run_laws.specs.Cards.{whole}
use Rattle.flow_watch.proofs.flows.is_over.Goals as goal

pub returns-in-Fin : goal.returns-in-Fin
returns-in-Fin c =
    subst (λ (v : Ext). IsTrue c.is_less.result ↔ (v <ₑ Fin (whole c.args.bits))) (sym c.in-Fin.is ∙ c.value_within.ensures)
    (subst (λ (x : ℚ). IsTrue c.is_less.result ↔ (c.in-Fin.value <ℚ x)) c.whole_of.ensures c.is_less.ensures.less)
