use Rattle.std.specs.Prelude.{nat_abs, ◌<◌, ◌^◌}
use Rattle.std.proofs.Common.{subst}
use Rattle.rational.specs.Ratio.{IsSmall}
use Rattle.plain_operators.proofs.pointwise.StraightSums.{straight_is_curve}
use Rattle.plain_operators.proofs.pointwise.straight.is_kept.Goals as goal

pub returns : goal.returns
returns c =
    let small : IsSmall c.args.s.now.line.icept = record {
      top = subst (λ n. nat_abs n < 2 ^ 127) c.numerator.ensures.value c.numerator.ensures.size;
      bottom = subst (λ n. n < 2 ^ 127) c.denominator.ensures.value c.denominator.ensures.size;
    } in
    straight_is_curve c.args.s.now small
