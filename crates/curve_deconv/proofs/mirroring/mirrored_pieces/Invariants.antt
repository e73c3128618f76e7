use Rattle.std.proofs.Common.{drop}
use Rattle.curve_deconv.proofs.MirroredPieces.{MirrorLoop}
use Rattle.curve_deconv.proofs.mirroring.mirrored_pieces.Given as goal

-- what is made of the pieces from number i on
abbrev pub invariant-loop-i : goal.invariant-loop-i
invariant-loop-i l = MirrorLoop l.reach l.fn.at (drop l.i l.pieces) l.made.items l.until l.ended
