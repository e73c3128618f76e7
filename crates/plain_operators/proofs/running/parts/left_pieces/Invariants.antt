use Rattle.std.proofs.Common.{drop}
use Rattle.curve_call.proofs.MapLoop.{MapLoop}
use Rattle.plain_operators.specs.running.Parts.{left_piece, StretchLeftFits}
use Rattle.plain_operators.proofs.running.parts.left_pieces.Given as goal

abbrev pub invariant-loop-b : goal.invariant-loop-b
invariant-loop-b l = MapLoop StretchLeftFits left_piece l.stretches (drop l.b-index l.stretches) l.pieces.items
