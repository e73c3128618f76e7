use Rattle.std.proofs.Common.{refl}
use Rattle.rational.proofs.Compared.{least_by_test}
use Rattle.subadd_closure.proofs.ThinnedElements.{point_under}
use Rattle.subadd_closure.proofs.thinned.point_over.Goals as goal

pub returns : goal.returns
returns c h =
    point_under c.args.x c.args.v c.args.pieces.now c.args.k c.index-pieces-k.result c.if-k-pieces.false
    c.index-pieces-k.is c.requires.starts (least_by_test _ _ c.if-is_less.ensures.less)
    (c.if-not-starts_later.ensures refl) (c.piece_under.ensures h)
