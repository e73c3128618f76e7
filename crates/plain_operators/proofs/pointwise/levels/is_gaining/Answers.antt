use Rattle.std.proofs.Common.{refl, sym, subst, pos}
use Rattle.std.specs.Prelude.{◌↔◌, IsTrue}
use Rattle.rational.specs.Rational.{int}
use Rattle.rational.specs.Extended.{◌<ₑ◌}
use Rattle.upp_curve.specs.Steady.{rate}
use Rattle.curve_call.proofs.Levels.{level_rate}
use Rattle.plain_operators.proofs.pointwise.levels.is_gaining.Goals as goal

pub returns : goal.returns
returns c =
    let f = c.args.f.now in
    subst (λ r. IsTrue c.is_slower.result ↔ (r <ₑ rate f)) (sym (level_rate c.level.result c.zero.result (int (pos 0)) c.level.ensures refl))
    (subst (λ x. IsTrue c.is_slower.result ↔ (rate c.level.result <ₑ rate x)) c.of.ensures c.is_slower.ensures)
