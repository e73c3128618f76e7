use Rattle.std.proofs.Common.{ap, ◌∙◌}
use Rattle.rational.specs.Rational.{◌+ℚ◌}
use Rattle.upp_curve.specs.affine_segment.Values.{line_value}
use Rattle.curve_conv.proofs.RisesFound.{above_as}
use Rattle.curve_conv.proofs.rises.line_above.Goals as goal

pub returns : goal.returns
returns c =
    above_as c.in_ok-b.b c.in_ok-a.a (line_value c.args.there.now (c.args.t +ℚ c.args.period)) (line_value c.args.here.now c.args.t) c.args.most c.above.result
    (c.in_ok-b.ensures ∙ ap (line_value c.args.there.now) c.in_ok-later.ensures) c.in_ok-a.ensures c.above.ensures
