use Rattle.std.proofs.Common.{subst}
use Rattle.std.specs.Prelude.{IfSome}
use Rattle.rational.specs.Rational.{◌+ℚ◌, ◌*ℚ◌, ◌≤ℚ◌}
use Rattle.rational.specs.Extended.{◌≤ₑ◌}
use Rattle.rational.specs.declared.Extended.TheVariants.{Fin}
use Rattle.plain_operators.proofs.pointwise.leaning.line_higher.Goals as goal

pub returns : goal.returns
returns c = subst (λ v. IfSome c.higher.result (λ k. (c.args.icept ≤ℚ k) × (v ≤ₑ Fin (k +ℚ c.args.rate *ℚ c.args.t)))) c.in_ok-v.ensures c.higher.ensures
