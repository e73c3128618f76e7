use Rattle.std.proofs.Common.{rules}
use Rattle.std.proofs.lemmas.List.Sorted.{IsPartitionPoint-from_clause}
use Rattle.upp_curve.proofs.affine_segment.PieceIn.{starts_by, parted, some_start, last_start}
use Rattle.upp_curve.proofs.affine_segment.reading.piece_at.Goals as goal

pub overflow_sub-result : goal.overflow_sub-result
overflow_sub-result c =
    some_start c.args.pieces.now c.args.t c.partition_point-count.result c.requires.starts c.requires.time
    (IsPartitionPoint-from_clause (starts_by c.args.t) _ _ c.partition_point-count.ensures.partitioned (parted c.args.pieces.now c.args.t c.requires.starts) (λ a r q k. search rules))

pub returns : goal.returns
returns c p ps e =
    last_start c.args.pieces.now c.args.t c.partition_point-count.result c.index-pieces-count.result c.index-pieces-count.result p ps c.requires.starts c.requires.time c.partition_point-count.ensures.bound
    (IsPartitionPoint-from_clause (starts_by c.args.t) _ _ c.partition_point-count.ensures.partitioned (parted c.args.pieces.now c.args.t c.requires.starts) (λ a r q k. search rules))
    c.index-pieces-count.is e
