use Rattle.std.proofs.Common.{◌≡◌, subst}
use Rattle.std.specs.Prelude.{IfSome}
use Rattle.rational.specs.Rational.{◌-ℚ◌}
use Rattle.curve_call.proofs.StepsFit.{if_it_fits}
use Rattle.plain_operators.proofs.pointwise.leaning.gap_at.Goals as goal

pub returns : goal.returns
returns c =
    let r = c.checked_difference-2.result in
    let apart = c.args.low.now.icept -ℚ c.args.high.now.icept in
    subst (λ y. IfSome r (λ g. g ≡ apart -ℚ y)) c.in_ok-gained.ensures (subst (λ x. IfSome r (λ g. g ≡ x -ℚ c.in_ok-gained.gained)) c.in_ok-both.ensures (if_it_fits r _ _ c.checked_difference-2.ensures))
