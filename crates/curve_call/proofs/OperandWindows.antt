-- Windows of operands: where their pieces stand, the steps that cut and add them fit.
use Rattle.std.specs.Prelude.{◌≡◌, ℕ, ◌*◌, List, [], ◌∷◌, Option, Some, None, ◌⊎◌}
use Rattle.std.proofs.Common.{arith, sym, ap, ◌∙◌, subst, inl, inr}
use Rattle.rational.specs.Rational.{ℚ, ◌+ℚ◌, ◌≤ℚ◌}
use Rattle.rational.proofs.Laws.{le_or_lt, le_of_lt, antisym}
use Rattle.rational.specs.Extended.{Ext, ◌+ₑ◌}
use Rattle.rational.specs.declared.Extended.TheVariants.{Fin, Inf}
use Rattle.upp_curve.specs.declared.affine_segment.line.Line.{Line}
use Rattle.upp_curve.specs.declared.affine_segment.line.Piece.{Piece}
use Rattle.upp_curve.specs.affine_segment.Reading.{read, piece_in, piece_value, line_in}
use Rattle.upp_curve.specs.affine_segment.Pieces.{Each, HasStart}
use Rattle.upp_limits.specs.Limits.{Sizes}
use Rattle.upp_limits.specs.Sized.{grid_of}
use Rattle.upp_normal.proofs.NormaliseGrids.{ValueOn, LineOn, PieceOn}
use Rattle.upp_normal.specs.Operand.{answer_room, AreLimited, OperandLineAt, OperandPiece, OperandPieces}
use Rattle.upp_curve.proofs.affine_segment.PieceIn.{value_past, value_at_start}
use Rattle.upp_curve.proofs.affine_segment.PieceOrder.{each_map}
use Rattle.upp_normal.proofs.NormaliseRoomy.{each_in, found_early}
use Rattle.upp_normal.proofs.AnswerRoom.{stands_operand_value, operand_line_value, operand_line_fits, values_fit, operand_lines_fit, sum_of_lines, line_in_room, room_at_start, value_sum_stands, answer_value_room}
use Rattle.upp_normal.specs.Room.{ValueHasRoom, LineHasRoom, PieceHasRoom}
use Prim.Native.Nat.{◌∣◌}
use Rattle.curve_call.specs.declared.stretch.Both.{Both}
use Rattle.curve_call.specs.Stretches.{IsBothOf, CutsFit}
use Rattle.curve_call.specs.Pointwise.{sum_line, ValueSumFits, LineSumFits, SumsFit, IsSumPiece}
use Rattle.upp_normal.specs.Ahead.{GridValue, IsTimeIn}

start_time : (z : Sizes) (end x : ℚ) (ps : List Piece) → Each (OperandPiece z end) ps → HasStart x ps → IsTimeIn z end x
start_time z end x [] E h = absurd h
start_time z end x (p ∷ ps) E (inl e) = subst (IsTimeIn z end) e record { whole = E.0.start; nonneg = E.0.nonneg; before = E.0.before }
start_time z end x (p ∷ ps) E (inr h) = start_time z end x ps E.1 h

pub both_time : (z : Sizes) (end x : ℚ) (f g : List Piece) → OperandPieces z end f → OperandPieces z end g → HasStart x f ⊎ HasStart x g → IsTimeIn z end x
both_time z end x f g F G (inl h) = start_time z end x f F.each h
both_time z end x f g F G (inr h) = start_time z end x g G.each h

-- the line and the value there
pub operand_line_in : (z : Sizes) (end x : ℚ) (ps : List Piece) → OperandPieces z end ps → OperandLineAt z (line_in ps x)
operand_line_in z end x [] P = tt
operand_line_in z end x (p ∷ ps) P = each_in (λ q. OperandLineAt z q.line) p ps x P.each.0.line (each_map (OperandPiece z end) (λ q. OperandLineAt z q.line) (λ q h. h.line) ps P.each.1)

pub operand_read : (z : Sizes) (end x : ℚ) (ps : List Piece) → AreLimited z end → OperandPieces z end ps → IsTimeIn z end x → GridValue z (read ps x)
unfolding read
operand_read z end x [] A P T = tt
operand_read z end x (p ∷ ps) A P T =
    let q = piece_in p ps x in
    let Q = each_in (OperandPiece z end) p ps x P.each.0 P.each.1 in
    let low : p.x ≤ℚ x = subst (λ y. y ≤ℚ x) (sym P.starts.0) T.nonneg in
    let early = found_early p ps x low in
    elim (le_or_lt x q.x) [
      | inl k ↦
          let same : q.x ≡ x = antisym (early, k) in
          subst (GridValue z) (sym (value_at_start q) ∙ ap (piece_value q) same) (stands_operand_value z q.at Q.at)
      | inr k ↦ subst (GridValue z) (sym (value_past q x k)) (operand_line_value z end x q.line A Q.line T.whole T.nonneg (le_of_lt T.before))
    ]

-- ---- the cuts
pub cuts_fit : (z : Sizes) (end : ℚ) (f g : List Piece) → AreLimited z end → OperandPieces z end f → OperandPieces z end g → CutsFit f g
cuts_fit z end f g A F G = record {
  left = λ x h. let T = start_time z end x g G.each h in operand_line_fits z end x (line_in f x) A (operand_line_in z end x f F) T.whole T.nonneg (le_of_lt T.before);
  right = λ x h. let T = start_time z end x f F.each h in operand_line_fits z end x (line_in g x) A (operand_line_in z end x g G) T.whole T.nonneg (le_of_lt T.before);
}

-- ---- a stretch of both
pub record OperandBoth (z : Sizes) (end : ℚ) (b : Both) : Type 0 where
  pub together : b.left.x ≡ b.right.x
  pub time : IsTimeIn z end b.left.x
  pub left : GridValue z b.left.at
  pub right : GridValue z b.right.at
  pub left_line : OperandLineAt z b.left.line
  pub right_line : OperandLineAt z b.right.line

pub operand_both : (z : Sizes) (end : ℚ) (f g : List Piece) (b : Both) → AreLimited z end → OperandPieces z end f → OperandPieces z end g → IsBothOf f g b → OperandBoth z end b
operand_both z end f g b A F G B =
    let T = both_time z end b.left.x f g F G B.start in
    record {
      together = B.together;
      time = T;
      left = subst (GridValue z) (sym B.left.at) (operand_read z end b.left.x f A F T);
      right = subst (GridValue z) (sym B.right.at) (operand_read z end b.right.x g A G (subst (IsTimeIn z end) B.together T));
      left_line = subst (OperandLineAt z) (sym B.left.line) (operand_line_in z end b.left.x f F);
      right_line = subst (OperandLineAt z) (sym B.right.line) (operand_line_in z end b.right.x g G);
    }

-- ---- sums
value_sum : (z : Sizes) (end : ℚ) (v w : Ext) → AreLimited z end → GridValue z v → GridValue z w → ValueSumFits v w
value_sum z end Inf w A V W = tt
value_sum z end (Fin v) Inf A V W = tt
value_sum z end (Fin v) (Fin w) A V W = (values_fit z end v w A V W).0

line_sum : (z : Sizes) (end : ℚ) (l m : Option Line) → AreLimited z end → OperandLineAt z l → OperandLineAt z m → LineSumFits l m
line_sum z end None m A L M = tt
line_sum z end (Some l) None A L M = tt
line_sum z end (Some l) (Some m) A L M = let F = operand_lines_fit z end l m A L M in (F.icepts, F.slopes)

pub sums_fit : (z : Sizes) (end : ℚ) (f g : List Piece) → AreLimited z end → OperandPieces z end f → OperandPieces z end g → SumsFit f g
sums_fit z end f g A F G b B =
    let O = operand_both z end f g b A F G B in
    record { value = value_sum z end b.left.at b.right.at A O.left O.right; line = line_sum z end b.left.line b.right.line A O.left_line O.right_line }

-- ---- the pieces of a sum have room
value_sum_room : (z : Sizes) (end : ℚ) (grid : ℕ) (v w : Ext) → z.dv * z.dt ∣ grid → GridValue z v → GridValue z w → ValueHasRoom (answer_room z end) 1 grid (v +ₑ w)
value_sum_room z end grid Inf w base V W = tt
value_sum_room z end grid (Fin v) Inf base V W = tt
value_sum_room z end grid (Fin v) (Fin w) base V W = answer_value_room z end 6 grid (v +ℚ w) (omega arith) base (value_sum_stands z v w V W)

line_sum_room : (z : Sizes) (end : ℚ) (l m : Option Line) → AreLimited z end → OperandLineAt z l → OperandLineAt z m → LineHasRoom (answer_room z end) 1 (sum_line l m)
line_sum_room z end None m A L M = tt
line_sum_room z end (Some l) None A L M = tt
line_sum_room z end (Some l) (Some m) A L M = line_in_room z end 4 _ A (omega arith) (sum_of_lines z l m L M)

value_sum_on : (z : Sizes) (v w : Ext) → GridValue z v → GridValue z w → ValueOn (grid_of z) (v +ₑ w)
value_sum_on z Inf w V W = tt
value_sum_on z (Fin v) Inf V W = tt
value_sum_on z (Fin v) (Fin w) V W = (value_sum_stands z v w V W).whole

line_sum_on : (z : Sizes) (l m : Option Line) → OperandLineAt z l → OperandLineAt z m → LineOn z.ds (grid_of z) (sum_line l m)
line_sum_on z None m L M = tt
line_sum_on z (Some l) None L M = tt
line_sum_on z (Some l) (Some m) L M = let S = sum_of_lines z l m L M in (S.icept, S.slope)

-- a piece of an answer that starts where one of an operand may: it has room, and stands on the grids
pub record StartsWithRoom (z : Sizes) (end : ℚ) (p : Piece) : Type 0 where
  pub room : PieceHasRoom (answer_room z end) 1 p
  pub time : IsTimeIn z end p.x
  pub on : PieceOn z.dt z.ds (grid_of z) p

pub sum_room : (z : Sizes) (end : ℚ) (f g : List Piece) (p : Piece) → AreLimited z end → OperandPieces z end f → OperandPieces z end g → IsSumPiece f g p → StartsWithRoom z end p
sum_room z end f g p A F G P =
    let time = both_time z end p.x f g F G P.start in
    let T = room_at_start z end p.x A time.whole time.nonneg in
    record {
      room = record {
        time = T;
        at = subst (ValueHasRoom (answer_room z end) 1 T.grid) (sym P.at) (value_sum_room z end T.grid (read f p.x) (read g p.x) T.base (operand_read z end p.x f A F time) (operand_read z end p.x g A G time));
        line = subst (LineHasRoom (answer_room z end) 1) (sym P.line) (line_sum_room z end (line_in f p.x) (line_in g p.x) A (operand_line_in z end p.x f F) (operand_line_in z end p.x g G));
      };
      time = time;
      on = record {
        start = time.whole;
        at = subst (ValueOn (grid_of z)) (sym P.at) (value_sum_on z (read f p.x) (read g p.x) (operand_read z end p.x f A F time) (operand_read z end p.x g A G time));
        line = subst (LineOn z.ds (grid_of z)) (sym P.line) (line_sum_on z (line_in f p.x) (line_in g p.x) (operand_line_in z end p.x f F) (operand_line_in z end p.x g G));
      };
    }
