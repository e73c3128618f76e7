use Rattle.std.proofs.Common.{subst}
use Rattle.std.specs.Prelude.{IfSome}
use Rattle.rational.specs.Rational.{◌+ℚ◌, ◌*ℚ◌, ◌≤ℚ◌}
use Rattle.rational.specs.Extended.{◌≤ₑ◌}
use Rattle.rational.specs.declared.Extended.TheVariants.{Fin}
use Rattle.plain_operators.proofs.pointwise.leaning.line_lower.Goals as goal

pub returns : goal.returns
returns c = subst (λ v. IfSome c.lower.result (λ k. (k ≤ℚ c.args.icept) × (Fin (k +ℚ c.args.rate *ℚ c.args.t) ≤ₑ v))) c.in_ok-v.ensures c.lower.ensures
