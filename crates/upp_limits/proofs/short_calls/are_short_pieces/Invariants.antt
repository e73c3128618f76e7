use Rattle.std.proofs.Common.{◌↔◌, drop}
use Rattle.upp_curve.specs.affine_segment.Pieces.{Each}
use Rattle.upp_limits.specs.Short.{IsShortPiece}
use Rattle.upp_limits.proofs.short_calls.are_short_pieces.Given as goal

abbrev pub invariant-loop-piece : goal.invariant-loop-piece
invariant-loop-piece l = Each IsShortPiece l.pieces ↔ Each IsShortPiece (drop l.piece-index l.pieces)
