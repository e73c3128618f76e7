-- A window of a call stands where what elements make stands, and bends only at the times of the grid: so the lesser of it
-- and of the least of all pairs is a window again.
use Rattle.std.specs.Prelude.{Option, Some, None, List, Result, Ok, Err, IfOk, Vec}
use Rattle.std.proofs.Common.{arith, inl, Global}
use Rattle.rational.specs.Rational.{ℚ}
use Rattle.rational.specs.Extended.{Ext, min_ext}
use Rattle.rational.specs.declared.Extended.TheVariants.{Fin, Inf}
use Rattle.rational.proofs.Grid.{within_weaken}
use Rattle.upp_curve.specs.declared.affine_segment.line.Line.{Line}
use Rattle.upp_curve.specs.declared.affine_segment.line.Piece.{Piece}
use Rattle.upp_curve.specs.declared.affine_segment.element.Element.{Element}
use Rattle.upp_curve.specs.affine_segment.Reading.{read}
use Rattle.upp_curve.proofs.affine_segment.PieceOrder.{each_map}
use Rattle.upp_limits.specs.Limits.{Sizes}
use Rattle.upp_limits.specs.Sized.{times_largest}
use Rattle.upp_normal.specs.Ahead.{GridValue}
use Rattle.upp_normal.specs.Operand.{OperandLineAt}
use Rattle.upp_normal.proofs.AnswerRoom.{more_largest}
use Rattle.curve_call.specs.Lower.{IsLowerOf}
use Rattle.element_envelope.specs.ConvolutionWindows.{WindowPiece, WindowPieces}
use Rattle.element_envelope.specs.EnvelopeWindows.{IsEnvelopeWindow, BesideRoom, IsLowerEnvelope}
use Rattle.element_envelope.specs.SumWindows.{SumValueAt, SumLineAt, SumPiece, SumWindow}
use Rattle.element_envelope.proofs.Arching.{same_arches, lesser_arches}
use Rattle.element_envelope.proofs.CopyArches.{operand_arches}
use Rattle.element_envelope.proofs.EnvelopeHalves.{LowerReady, lower_ready}
use Rattle.element_envelope.proofs.PairWindows.{sum_value_on}
use Rattle.element_envelope.proofs.SumLower.{sum_lower}

-- ---- a window
value_stands : (z : Sizes) (x : ℚ) (v : Ext) → GridValue z v → SumValueAt z x v
value_stands z x Inf V = tt
value_stands z x (Fin v) V = sum_value_on z x v record {
  whole = V.whole;
  within = within_weaken (times_largest 3 z) (times_largest 6 z) v (more_largest z 3 6 (omega arith)) V.within;
}

line_stands : (z : Sizes) (l : Option Line) → OperandLineAt z l → SumLineAt z l
line_stands z None L = tt
line_stands z (Some l) L = record {
  slope = L.slope;
  icept = L.icept;
  within = within_weaken (times_largest 2 z) (times_largest 6 z) l.icept (more_largest z 2 6 (omega arith)) L.within;
}

own_piece : (z : Sizes) (end : ℚ) (p : Piece) → WindowPiece z end p → SumPiece z end p
own_piece z end p P = record {
  start = record { place = inl P.start; nonneg = P.nonneg; before = P.before };
  at = value_stands z p.x p.at P.at;
  line = line_stands z p.line P.line;
}

pub own_window : (z : Sizes) (end : ℚ) (ps : List Piece) → WindowPieces z end ps → SumWindow z end ps
own_window z end ps W = record {
  starts = W.starts;
  each = each_map (WindowPiece z end) (SumPiece z end) (λ p P. own_piece z end p P) ps W.each;
}

-- ---- the lesser of it and of the least of all pairs
module _ (end : ℚ) (ps gs : List Piece) (xs ys : List Element) (pairs : IsEnvelopeWindow end xs ys gs) where
  pub beside_ready : BesideRoom end ps xs ys → LowerReady end ps gs
  beside_ready r =
      lower_ready r.room.sizes end ps gs r.room.limited (own_window r.room.sizes end ps r.own) (pairs.stands r.room)

  pub beside_is : (qs : List Piece) → IsLowerOf ps gs end qs → IsLowerEnvelope end ps xs ys qs
  beside_is qs L = record {
    starts = L.starts;
    reads = λ t low high. record { least = read gs t; is = pairs.reads t low high; lesser = L.reads t low high };
    stands = λ r. sum_lower r.room.sizes end ps gs qs r.room.limited (own_window r.room.sizes end ps r.own)
        (pairs.stands r.room) L;
    arches = λ r. same_arches r.room.sizes.dt end (λ t. min_ext (read ps t) (read gs t)) (read qs) L.reads
        (lesser_arches r.room.sizes.dt end (read ps) (read gs) (operand_arches r.room.sizes end end ps r.own)
        (pairs.arches r.room));
  }

  pub ok_beside : {E : Type 0} (r : Result (Vec Piece Global) E) → IfOk r (λ v. IsLowerOf ps gs end v.items)
      → IfOk r (λ v. IsLowerEnvelope end ps xs ys v.items)
  ok_beside (Ok v) k = beside_is v.items k
  ok_beside (Err e) k = k
