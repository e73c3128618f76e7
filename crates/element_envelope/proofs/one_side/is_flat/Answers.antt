use Rattle.std.proofs.Common.{subst}
use Rattle.std.specs.Prelude.{pos}
use Rattle.rational.specs.Rational.{int, ◌≤ℚ◌}
use Rattle.rational.proofs.Compared.{not_less_out}
use Rattle.element_envelope.proofs.Growth.{rises_weaker}
use Rattle.element_envelope.proofs.StartTests.{is_false}
use Rattle.element_envelope.proofs.one_side.is_flat.Goals as goal

pub returns-in-Some : goal.returns-in-Some
returns-in-Some c h =
    rises_weaker c.in-Some.slope (int (pos 0)) c.args.p.now
    (subst (λ z. c.in-Some.slope ≤ℚ z) c.zero.ensures (not_less_out c.is_less.result c.zero.result c.in-Some.slope c.is_less.ensures.less (is_false c.is_less.result h)))
    c.in-Some.ensures
