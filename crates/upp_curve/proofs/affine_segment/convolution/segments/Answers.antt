use Rattle.upp_curve.specs.affine_segment.Segments.{open_of}
use Rattle.upp_curve.specs.affine_segment.Corners.{segment_of}
use Rattle.upp_curve.proofs.affine_segment.Convolved.{turned_ok}
use Rattle.upp_curve.proofs.affine_segment.convolution.segments.Goals as goal

pub returns-in-Greater-clause-convolved : goal.returns-in-Greater-clause-convolved
returns-in-Greater-clause-convolved c =
    turned_ok (open_of (segment_of c.args.b.now)) (open_of (segment_of c.args.a.now)) c.bent-in-Greater.result c.bent-in-Greater.ensures.convolved
