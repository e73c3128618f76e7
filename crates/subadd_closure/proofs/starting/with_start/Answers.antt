use Rattle.std.proofs.Common.{sym, subst, ◌∙◌}
use Rattle.rational.specs.declared.Extended.TheVariants.{Fin}
use Rattle.upp_curve.specs.Curves.{IsCurve}
use Rattle.subadd_closure.specs.Starting.{IsStartedAt}
use Rattle.subadd_closure.proofs.StartCurves.{started_curve, started_values, start_is}
use Rattle.subadd_closure.proofs.starting.with_start.Goals as goal

pub from_normal-requires : goal.from_normal-requires
from_normal-requires c =
    subst IsCurve
    (sym (start_is (Fin c.args.v) c.args.f.now c.in_ok-pieces.pieces.items c.pieces.result.now c.tail.result.now c.in_ok-pieces.ensures c.pieces.ensures.pieces c.tail.ensures.tail))
    (started_curve (Fin c.args.v) c.args.f.now c.pieces.ensures.kept c.requires)

pub returns-clause-values : goal.returns-clause-values
returns-clause-values c =
    subst (IsStartedAt (Fin c.args.v) c.args.f.now)
    (sym (c.from_normal.ensures ∙ start_is (Fin c.args.v) c.args.f.now c.in_ok-pieces.pieces.items c.pieces.result.now c.tail.result.now c.in_ok-pieces.ensures c.pieces.ensures.pieces c.tail.ensures.tail))
    (started_values (Fin c.args.v) c.args.f.now c.pieces.ensures.kept.normal c.requires)
