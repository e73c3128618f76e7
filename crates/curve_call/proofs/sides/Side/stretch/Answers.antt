use Rattle.std.proofs.Common.{◌∙◌, ap, sym, subst}
use Rattle.upp_normal.specs.Ahead.{HasWindow}
use Rattle.curve_call.specs.Sides.{shown_curve}
use Rattle.curve_call.proofs.Levels.{level_goes, level_sizes}
use Rattle.curve_call.proofs.sides.Side.stretch.Goals as goal

pub returns-in-Level-clause-goes : goal.returns-in-Level-clause-goes
returns-in-Level-clause-goes c =
    level_goes c.args.self.now c.in-Level.l c.args.t c.zero.result (sym c.self.view_is ∙ ap shown_curve c.in-Level.is) c.zero.ensures c.requires.3.nonneg

pub returns-in-Level-clause-sizes : goal.returns-in-Level-clause-sizes
returns-in-Level-clause-sizes c = λ z end W T.
    level_sizes c.args.self.now c.in-Level.l c.args.t c.zero.result z end (sym c.self.view_is ∙ ap shown_curve c.in-Level.is) c.zero.ensures W T

pub stretch_at-requires : goal.stretch_at-requires
stretch_at-requires c =
    let w = c.requires in
    (w.0, w.1, subst (λ x. HasWindow w.0 w.1 x) (sym c.self.view_is ∙ ap shown_curve c.in-Curve.is) w.2, w.3)
