-- The pieces of a window of sums have the room of its call's answer.
use Rattle.std.specs.Prelude.{List}
use Rattle.std.proofs.Common.{arith}
use Rattle.rational.specs.Rational.{ℚ}
use Rattle.rational.specs.Extended.{Ext}
use Rattle.rational.specs.declared.Extended.TheVariants.{Fin, Inf}
use Rattle.upp_curve.specs.declared.affine_segment.line.Piece.{Piece}
use Rattle.upp_limits.specs.Limits.{Sizes}
use Rattle.upp_curve.specs.affine_segment.Pieces.{Each}
use Rattle.upp_normal.specs.Operand.{AreLimited, answer_room}
use Rattle.upp_normal.specs.Room.{TimeHasRoom, ValueHasRoom, PieceHasRoom}
use Rattle.upp_normal.proofs.AnswerRoom.{value_in_room}
use Rattle.upp_curve.proofs.affine_segment.PieceOrder.{each_map}
use Rattle.element_envelope.specs.SumWindows.{SumValueAt, SumPiece, SumWindow}
use Rattle.element_envelope.proofs.SumSteps.{time_room, line_room}

value_room : (z : Sizes) (end x : ℚ) (v : Ext) (T : TimeHasRoom (answer_room z end) x) → SumValueAt z x v → ValueHasRoom (answer_room z end) 1 T.grid v
value_room z end x Inf T V = tt
value_room z end x (Fin v) T V = value_in_room z end 7 T.grid v (omega arith) (V.whole T.grid T.base T.whole) V.within

piece_room : (z : Sizes) (end : ℚ) (p : Piece) → AreLimited z end → SumPiece z end p → PieceHasRoom (answer_room z end) 1 p
piece_room z end p A P =
    let T = time_room z end p.x A P.start in
    record { time = T; at = value_room z end p.x p.at T P.at; line = line_room z end p.line A P.line }

pub pieces_room : (z : Sizes) (end : ℚ) (ps : List Piece) → AreLimited z end → SumWindow z end ps → Each (PieceHasRoom (answer_room z end) 1) ps
pieces_room z end ps A W = each_map (SumPiece z end) (PieceHasRoom (answer_room z end) 1) (λ p P. piece_room z end p A P) ps W.each
