use Rattle.std.proofs.Common.{ap, ◌∙◌}
use Rattle.rational.specs.declared.Extended.TheVariants.{Fin}
use Rattle.rational.proofs.Whole.{not_zero}
use Rattle.upp_curve.specs.declared.curve.Tail.TheVariants.{Periodic, Affine, Infinite}
use Rattle.upp_curve.specs.Steady.{slope_of, last_line}
use Rattle.upp_curve.proofs.CurveShapes.{of_kind, rate_of}
use Rattle.upp_curve.proofs.curve.Curve.rate.Goals as goal

pub div-requires : goal.div-requires
div-requires c =
    let p = c.in-Periodic in
    not_zero p.period (of_kind c.self.inside.pieces.items c.self.inside.tail (Periodic p.rank p.period p.rise) p.is c.self.invariant).normal.raw.tail.some

pub returns-in_ok-div-in-Periodic-clause-value : goal.returns-in_ok-div-in-Periodic-clause-value
returns-in_ok-div-in-Periodic-clause-value c =
    let p = c.in-Periodic in
    ap Fin c.in_ok-div-in-Periodic.ensures.value ∙ rate_of c.args.self.now c.self.inside.pieces.items c.self.inside.tail (Periodic p.rank p.period p.rise) c.self.view_is p.is

pub returns-in-Affine-clause-value : goal.returns-in-Affine-clause-value
returns-in-Affine-clause-value c =
    c.last_slope.ensures ∙ ap (λ ps. slope_of (last_line ps)) c.deref.ensures.value
    ∙ rate_of c.args.self.now c.self.inside.pieces.items c.self.inside.tail (Affine c.in-Affine.rank) c.self.view_is c.in-Affine.is

pub returns-in-Infinite-clause-value : goal.returns-in-Infinite-clause-value
returns-in-Infinite-clause-value c =
    rate_of c.args.self.now c.self.inside.pieces.items c.self.inside.tail (Infinite c.in-Infinite.rank) c.self.view_is c.in-Infinite.is
