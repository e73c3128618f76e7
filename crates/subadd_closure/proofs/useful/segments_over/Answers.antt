use Rattle.std.proofs.Common.{refl}
use Rattle.upp_curve.specs.affine_segment.Reading.{read}
use Rattle.subadd_closure.proofs.UsefulPairs.{segments_make}
use Rattle.subadd_closure.proofs.useful.segments_over.Goals as goal

pub returns-in-Some : goal.returns-in-Some
returns-in-Some c h =
    segments_make (read c.args.pieces.now) c.args.end c.args.from c.limit_of.result c.args.x.now c.args.y.now c.in-Some.line
    c.requires.from c.requires.late (c.if-not-has_segment.ensures refl) c.in-Some.ensures c.limit_of.ensures
    (c.segment_over.ensures h)
