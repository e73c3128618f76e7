use Rattle.std.proofs.Common.{◌≡◌, ◌++◌, drop, map}
use Rattle.curve_deconv.specs.Mirrored.{neg_piece}
use Rattle.curve_deconv.proofs.mirroring.negated_pieces.Given as goal

abbrev pub invariant-loop-p : goal.invariant-loop-p
invariant-loop-p l = l.made.items ++ map neg_piece (drop l.p-index l.pieces) ≡ map neg_piece l.pieces
