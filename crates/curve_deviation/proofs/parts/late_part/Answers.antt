use Rattle.std.proofs.Common.{refl}
use Rattle.upp_curve.specs.Curve.{value_at}
use Rattle.curve_deviation.proofs.EarlyParts.{seen_window, late_goes, late_stands}
use Rattle.curve_deviation.proofs.parts.late_part.Goals as goal

pub stretch_at-stretch-requires : goal.stretch_at-stretch-requires
stretch_at-stretch-requires c =
    let w = c.requires.seen in
    (w.0, c.args.end, seen_window w.0 c.args.end c.args.c.now w.1 c.requires.late, w.2)

pub returns-clause-goes : goal.returns-clause-goes
returns-clause-goes c =
    let w = c.requires.seen in
    late_goes (value_at c.args.c.now) c.args.t c.args.end c.stretch_at-stretch.result _ w.2.before c.stretch_at-stretch.ensures.goes refl refl c.earlier.ensures

pub returns-clause-stands : goal.returns-clause-stands
returns-clause-stands c = λ z S T.
    late_stands z c.args.end c.args.t c.args.c.now c.stretch_at-stretch.result _ S c.requires.late T c.stretch_at-stretch.ensures.times (c.stretch_at-stretch.ensures.sizes z c.args.end) refl refl c.earlier.ensures
