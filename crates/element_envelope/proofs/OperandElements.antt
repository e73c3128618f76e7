-- The elements of an operand's pieces, and of a window's, stand where the pieces do.
use Rattle.std.specs.Prelude.{List, [], ◌∷◌}
use Rattle.std.proofs.Common.{sym, subst, inl, inr}
use Rattle.rational.specs.Rational.{ℚ}
use Rattle.rational.specs.Extended.{Ext}
use Rattle.rational.proofs.Laws.{le_of_lt}
use Rattle.upp_curve.specs.declared.affine_segment.line.Piece.{Piece}
use Rattle.upp_curve.specs.declared.affine_segment.element.Element.{Element}
use Rattle.upp_limits.specs.Limits.{Sizes}
use Rattle.upp_curve.specs.affine_segment.Pieces.{Each}
use Rattle.upp_curve.proofs.affine_segment.PieceOrder.{each_map}
use Rattle.upp_normal.specs.Ahead.{GridValue}
use Rattle.upp_normal.proofs.AnswerRoom.{stands_operand_value}
use Rattle.upp_normal.specs.Operand.{OperandPiece, OperandPieces, OperandLineAt}
use Rattle.element_envelope.specs.ConvolutionWindows.{WindowPiece, WindowPieces}
use Rattle.element_envelope.specs.PieceElements.{next_start, elements_of, Among}
use Rattle.element_envelope.specs.ElementRoom.{WindowTime, WindowEnd, OperandElement}
use Rattle.element_envelope.proofs.Members.{among_cases}
use Rattle.element_envelope.proofs.Cover.{head, head_cases}

piece_time : (z : Sizes) (end : ℚ) (p : Piece) → WindowPiece z end p → WindowTime z end p.x
piece_time z end p h = record { whole = h.start; nonneg = h.nonneg; early = le_of_lt h.before }

next_time : (z : Sizes) (end : ℚ) (ps : List Piece) (until : Ext) → Each (WindowPiece z end) ps → WindowEnd z end until → WindowEnd z end (next_start ps until)
next_time z end [] until h u = u
next_time z end (p ∷ ps) until h u = piece_time z end p h.0

head_stands : (z : Sizes) (end : ℚ) (p : Piece) (next : Ext) (e : Element) → WindowPiece z end p → WindowEnd z end next → Among e (head p.x p.at p.line next) → OperandElement z end e
head_stands z end p next e h n k = elim (head_cases p.x p.at p.line next e k) [
  | inl m ↦ let (v, at, is) = m in subst (OperandElement z end) (sym is) record { time = piece_time z end p h; value = subst (GridValue z) at h.at }
  | inr m ↦ let (l, line, is) = m in subst (OperandElement z end) (sym is) record { start = piece_time z end p h; until = n; line = subst (OperandLineAt z) line h.line }
]

each_stands : (z : Sizes) (end : ℚ) (ps : List Piece) (until : Ext) (e : Element) → Each (WindowPiece z end) ps → WindowEnd z end until → Among e (elements_of ps until) → OperandElement z end e
each_stands z end [] until e h u k = absurd k
each_stands z end (p ∷ ps) until e h u k = elim (among_cases e (head p.x p.at p.line (next_start ps until)) (elements_of ps until) k) [
  | inl m ↦ head_stands z end p (next_start ps until) e h.0 (next_time z end ps until h.1 u) m
  | inr m ↦ each_stands z end ps until e h.1 u m
]

pub window_elements_stand : (z : Sizes) (end : ℚ) (ps : List Piece) (until : Ext) (e : Element) → WindowPieces z end ps → WindowEnd z end until → Among e (elements_of ps until)
    → OperandElement z end e
window_elements_stand z end ps until e h u k = each_stands z end ps until e h.each u k

-- ---- an operand's pieces are a window's
pub operand_pieces : (z : Sizes) (end : ℚ) (ps : List Piece) → OperandPieces z end ps → WindowPieces z end ps
operand_pieces z end ps h = record {
  starts = h.starts;
  each = each_map (OperandPiece z end) (WindowPiece z end)
      (λ p P. record { start = P.start; nonneg = P.nonneg; before = P.before; at = stands_operand_value z p.at P.at; line = P.line }) ps h.each;
}

pub elements_stand : (z : Sizes) (end : ℚ) (ps : List Piece) (until : Ext) (e : Element) → OperandPieces z end ps → WindowEnd z end until → Among e (elements_of ps until)
    → OperandElement z end e
elements_stand z end ps until e h u k = window_elements_stand z end ps until e (operand_pieces z end ps h) u k
