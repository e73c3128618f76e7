use Rattle.std.proofs.Common.{◌≤◌, ◌^◌, subst, sym}
use Rattle.upp_curve.specs.Normal.{IsRaw}
use Rattle.upp_limits.specs.Limits.{own_tally}
use Rattle.subadd_closure.specs.PieceFits.{IsMade}
use Rattle.subadd_closure.proofs.PointCurves.{point_normal}
use Rattle.subadd_closure.proofs.PointAnswers.{later_is, later_few}
use Rattle.subadd_closure.proofs.points.repeating.Goals as goal

pub made-requires-clause-raw : goal.made-requires-clause-raw
made-requires-clause-raw c =
    subst IsRaw (sym (later_is c.zero.result c.args.x c.args.v c.in_ok-pieces.pieces.items c.zero.ensures c.in_ok-pieces.ensures.items))
    (point_normal c.args.x c.args.v c.requires).raw

pub made-requires-clause-few : goal.made-requires-clause-few
made-requires-clause-few c =
    subst (λ z. own_tally z ≤ 2 ^ 20) (sym (later_is c.zero.result c.args.x c.args.v c.in_ok-pieces.pieces.items c.zero.ensures c.in_ok-pieces.ensures.items))
    (later_few c.args.x c.args.v c.requires)

pub returns : goal.returns
returns c =
    subst (λ z. IsMade z c.made.result) (later_is c.zero.result c.args.x c.args.v c.in_ok-pieces.pieces.items c.zero.ensures c.in_ok-pieces.ensures.items) c.made.ensures
