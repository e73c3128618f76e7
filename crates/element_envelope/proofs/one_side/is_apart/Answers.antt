use Rattle.std.proofs.Common.{sym, subst, inl, inr}
use Rattle.rational.specs.Rational.{◌≤ℚ◌}
use Rattle.rational.proofs.Compared.{not_less_out}
use Rattle.element_envelope.specs.OneSide.{IsApart}
use Rattle.element_envelope.proofs.StartTests.{is_false}
use Rattle.element_envelope.proofs.one_side.is_apart.Goals as goal

pub returns-then-not-is_less : goal.returns-then-not-is_less
returns-then-not-is_less c h =
    subst (IsApart c.args.r) (sym c.in-Some.is)
    (inl (subst (λ z. c.in-Some.line.slope ≤ℚ z) c.zero.ensures (not_less_out c.is_less.result c.zero.result c.in-Some.line.slope c.is_less.ensures.less c.if-not-is_less.true)))

pub returns-else-not-is_less : goal.returns-else-not-is_less
returns-else-not-is_less c h =
    subst (IsApart c.args.r) (sym c.in-Some.is)
    (inr (not_less_out c.is_less-in-Some.result c.in-Some.line.slope c.args.r c.is_less-in-Some.ensures.less (is_false c.is_less-in-Some.result h)))
