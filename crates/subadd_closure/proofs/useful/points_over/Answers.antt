use Rattle.upp_curve.specs.affine_segment.Reading.{read}
use Rattle.subadd_closure.proofs.UsefulPairs.{points_make}
use Rattle.subadd_closure.proofs.useful.points_over.Goals as goal

pub returns-in-Some : goal.returns-in-Some
returns-in-Some c h =
    points_make (read c.args.pieces.now) c.args.end _ c.in-Point.v _ c.in-Point-y.w c.args.from c.in-Some.top c.args.x.now
    c.args.y.now c.in-Point.is c.in-Point-y.is c.requires.from c.in-Some.ensures (c.point_over.ensures h)
