use Rattle.std.proofs.Common.{rules}
use Rattle.std.proofs.lemmas.List.Sorted.{IsPartitionPoint-from_clause}
use Rattle.upp_curve.proofs.affine_segment.PieceIn.{starts_by, parted}
use Rattle.upp_curve.proofs.affine_segment.NextPiece.{next_ends, next_is}
use Rattle.upp_curve.proofs.affine_segment.reading.next_start.Goals as goal

pub returns-in-None : goal.returns-in-None
returns-in-None c =
    let h = c.in-None.ensures.lookup in
    next_ends c.args.pieces.now c.args.t c.partition_point-count.result c.args.after
    (IsPartitionPoint-from_clause (starts_by c.args.t) _ _ c.partition_point-count.ensures.partitioned (parted c.args.pieces.now c.args.t c.requires) (λ a r q k. search rules))
    h.3

pub returns-in-Some : goal.returns-in-Some
returns-in-Some c =
    let h = c.in-Some.ensures.lookup in
    next_is c.args.pieces.now c.args.t c.partition_point-count.result c.args.after c.in-Some.p.now
    (IsPartitionPoint-from_clause (starts_by c.args.t) _ _ c.partition_point-count.ensures.partitioned (parted c.args.pieces.now c.args.t c.requires) (λ a r q k. search rules))
    h.3.0 h.1
