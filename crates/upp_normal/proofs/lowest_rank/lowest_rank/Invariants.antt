use Rattle.upp_curve.specs.affine_segment.Reading.{read}
use Rattle.upp_curve.specs.Curve.{repeated}
use Rattle.upp_normal.proofs.NormaliseRank.{LowersOn}
use Rattle.upp_normal.proofs.lowest_rank.lowest_rank.Given as goal

abbrev pub invariant-loop-first : goal.invariant-loop-first
invariant-loop-first l =
    LowersOn l.initial.pieces.items l.pieces.items l.first l.rank l.period l.rise l.initial.rank (repeated (read l.initial.pieces.items) l.initial.rank l.period l.rise)

abbrev pub decreases-loop-first : goal.decreases-loop-first
decreases-loop-first l = l.first
