use Rattle.std.proofs.Common.{sym, subst}
use Rattle.rational.specs.Extended.{Ext, ◌≤ₑ◌}
use Rattle.rational.specs.declared.Extended.TheVariants.{Fin}
use Rattle.upp_curve.specs.affine_segment.Values.{line_at}
use Rattle.element_envelope.specs.OneSide.{IsReached}
use Rattle.element_envelope.proofs.StartTests.{reached_is}
use Rattle.element_envelope.proofs.one_side.is_reached.Goals as goal

pub returns-in-Inf : goal.returns-in-Inf
returns-in-Inf c h = subst (λ o. IsReached o c.args.p.now) (sym c.in-Some.is) (subst (λ (w : Ext). Fin (line_at c.in-Some.line c.args.p.now.x) ≤ₑ w) (sym c.in-Inf.is) tt)

pub returns-in-Fin : goal.returns-in-Fin
returns-in-Fin c =
    let value = rw c.unwrap.ensures at c.value.ensures.value in
    reached_is c.is_less.result c.unwrap.result c.in-Fin.v c.in-Some.line c.args.before.now c.args.p.now c.is_less.ensures.less value c.in-Some.is c.in-Fin.is
