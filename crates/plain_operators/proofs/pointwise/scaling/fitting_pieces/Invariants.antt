use Rattle.std.proofs.Common.{drop}
use Rattle.plain_operators.proofs.pointwise.FittingLoop.{FittingLoop}
use Rattle.plain_operators.proofs.pointwise.scaling.fitting_pieces.Given as goal

abbrev pub invariant-loop-piece : goal.invariant-loop-piece
invariant-loop-piece l = FittingLoop l.factor l.pieces (drop l.piece-index l.pieces) l.found.items
