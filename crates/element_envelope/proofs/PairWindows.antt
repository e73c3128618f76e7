-- What two elements of operands make, as pieces that start before an end.
use Rattle.std.specs.Prelude.{◌*◌, pos, Bool, true, false, cond, List, [], ◌∷◌, Option, Some, None}
use native.Mathlib.Nat.{mul-dvd-mul_right}
use Rattle.std.proofs.Common.{arith, sym, ◌∙◌, refl, subst, inl}
use Rattle.rational.specs.Rational.{ℚ, ◌+ℚ◌, ◌≤ℚ◌, ◌<ℚ◌, int, le_q}
use Rattle.rational.specs.Extended.{Ext}
use Rattle.rational.specs.declared.Extended.TheVariants.{Fin, Inf}
use Rattle.rational.specs.Grid.{Whole}
use Rattle.rational.proofs.Grid.{whole_int, whole_weaken, within_weaken}
use Rattle.rational.proofs.Laws.{le_refl}
use Rattle.rational.proofs.Linear.{with2}
use Rattle.upp_curve.specs.declared.affine_segment.line.Piece.{Piece}
use Rattle.upp_curve.specs.declared.affine_segment.element.Element.{Element}
use Rattle.upp_curve.specs.declared.affine_segment.element.Element.TheVariants.{Point, Open}
use Rattle.upp_curve.specs.declared.affine_segment.element.Joined.{Joined}
use Rattle.upp_curve.specs.affine_segment.Elements.{start_of, joined_value, IsConvolved}
use Rattle.upp_curve.specs.affine_segment.MadeParts.{AreParts}
use Rattle.upp_curve.specs.affine_segment.Pieces.{Each}
use Rattle.upp_curve.specs.affine_segment.Reading.{read, nothing_at}
use Rattle.upp_limits.specs.Limits.{Sizes}
use Rattle.upp_limits.specs.Sized.{times_largest}
use Rattle.upp_normal.proofs.AnswerRoom.{more_largest}
use Rattle.upp_curve.specs.Unrolled.{upto}
use Rattle.upp_normal.proofs.Below.{plain_upto}
use Rattle.upp_normal.proofs.NormaliseCuts.{zero_upto}
use Rattle.upp_normal.proofs.NormaliseLists.{each_upto}
use Rattle.upp_normal.proofs.UnrolledPieces.{each_with}
use Rattle.element_envelope.specs.ElementRoom.{OperandElement, SumTime, SumEnd, SumValue, SumElement, SumPart, SumJoined, HaveRoom}
use Rattle.element_envelope.specs.JoinedWindows.{after_end, part_pieces, first_pieces, turn_pieces, joined_list, lead_of, window_of, IsWindowOf}
use Rattle.element_envelope.specs.SumWindows.{SumValueOn, SumValueAt, SumLineAt, SumPiece}
use Rattle.element_envelope.specs.Envelopes.{IsEnvelope}
use Rattle.element_envelope.specs.EnvelopeWindows.{EnvelopeRoom, IsEnvelopeWindow}
use Rattle.element_envelope.proofs.ElementSizes.{parts_stand}
use Rattle.element_envelope.proofs.Envelopes.{envelope_rules}
use Rattle.element_envelope.proofs.Arching.{same_arches, joined_arches}
use Rattle.upp_curve.proofs.affine_segment.PieceOrder.{each_append}
use Rattle.upp_limits.proofs.PieceCounts.{upto_early}

-- ---- pieces that may start past the end
pub record LatePiece (z : Sizes) (p : Piece) : Type 0 where
  pub whole : Whole z.dt p.x
  pub nonneg : int (pos 0) ≤ℚ p.x
  pub at : SumValueAt z p.x p.at
  pub line : SumLineAt z p.line

pub sum_value_on : (z : Sizes) (x v : ℚ) → SumValue z v → SumValueOn z x v
sum_value_on z x v V = record {
  whole = λ grid base on. whole_weaken (z.dv * z.dt * z.ds) (grid * z.ds) v (mul-dvd-mul_right (z.dv * z.dt) base z.ds) V.whole;
  within = within_weaken (times_largest 6 z) (times_largest 7 z) v (more_largest z 6 7 (omega arith)) V.within;
}

nothing_stands : (z : Sizes) (end x : ℚ) → SumTime z end x → LatePiece z (nothing_at x)
nothing_stands z end x T = record { whole = T.whole; nonneg = T.nonneg; at = tt; line = tt }

end_stands : (z : Sizes) (end : ℚ) (to : Ext) → SumEnd z end to → Each (LatePiece z) (after_end to)
end_stands z end Inf T = tt
end_stands z end (Fin e) T = (nothing_stands z end e T, tt)

part_stands : (z : Sizes) (end : ℚ) (e : Element) → SumElement z end e → Each (LatePiece z) (part_pieces e)
part_stands z end (Point x v) E = (record { whole = E.time.whole; nonneg = E.time.nonneg; at = sum_value_on z x v E.value; line = tt }, tt)
part_stands z end (Open from to l) E = (record { whole = E.start.whole; nonneg = E.start.nonneg; at = tt; line = E.line }, end_stands z end to E.until)

first_stands : (z : Sizes) (end : ℚ) (e : Element) → SumElement z end e → Each (LatePiece z) (first_pieces e)
first_stands z end (Point x v) E = (record { whole = E.time.whole; nonneg = E.time.nonneg; at = sum_value_on z x v E.value; line = tt }, tt)
first_stands z end (Open from to l) E = (record { whole = E.start.whole; nonneg = E.start.nonneg; at = tt; line = E.line }, tt)

turn_stands : (z : Sizes) (end : ℚ) (join second : Element) → SumElement z end join → SumElement z end second → Each (LatePiece z) (turn_pieces join second)
turn_stands z end (Point x v) (Open y to l) J S = (record { whole = J.time.whole; nonneg = J.time.nonneg; at = sum_value_on z x v J.value; line = S.line }, end_stands z end to S.until)
turn_stands z end (Point x v) (Point y u) J S = tt
turn_stands z end (Open y to l) second J S = tt

list_stands : (z : Sizes) (end : ℚ) (j : Joined) → SumJoined z end j → Each (LatePiece z) (joined_list j.first j.join j.second)
list_stands z end j J = go j.first j.join j.second J.first J.join J.second
  where
    go : (first : Element) (join second : Option Element) → SumElement z end first → SumPart z end join → SumPart z end second → Each (LatePiece z) (joined_list first join second)
    go first None second F N S = part_stands z end first F
    go first (Some join) None F N S = part_stands z end first F
    go first (Some join) (Some second) F N S = each_append (LatePiece z) (first_pieces first) (turn_pieces join second) (first_stands z end first F) (turn_stands z end join second N S)

pub lead_stands : (z : Sizes) (start : ℚ) → Each (LatePiece z) (lead_of start)
lead_stands z start = by (le_q start (int (pos 0)))
  where
    by : (b : Bool) → Each (LatePiece z) (cond b [] (nothing_at (int (pos 0)) ∷ []))
    by true = tt
    by false = (record { whole = whole_int z.dt (pos 0); nonneg = le_refl (int (pos 0)); at = tt; line = tt }, tt)

window_stands : (z : Sizes) (end : ℚ) (j : Joined) → SumJoined z end j → Each (LatePiece z) (window_of j)
window_stands z end j J = each_append (LatePiece z) (lead_of (start_of j.first)) (joined_list j.first j.join j.second) (lead_stands z (start_of j.first)) (list_stands z end j J)

-- ---- before the end
pub early_piece : (z : Sizes) (end : ℚ) (p : Piece) → LatePiece z p → p.x <ℚ end → SumPiece z end p
early_piece z end p P early = record { start = record { place = inl P.whole; nonneg = P.nonneg; before = early }; at = P.at; line = P.line }

pub pair_is : (end : ℚ) (a b : Element) (j : Joined) (ps : List Piece) → int (pos 0) <ℚ end → IsConvolved a b j → AreParts a b j → IsWindowOf j ps
    → IsEnvelopeWindow end (a ∷ []) (b ∷ []) (upto end ps)
pair_is end a b j ps some C P W = record {
  starts = zero_upto end ps some W.starts;
  reads = λ t low high.
      subst (IsEnvelope (a ∷ []) (b ∷ []) t) (sym (plain_upto ps end t W.starts low high ∙ W.reads t low)) (envelope_rules.pair a b j t C);
  stands = λ r.
      let J = parts_stand r.sizes end a b j r.limited (r.left a (inl refl)) (r.right b (inl refl)) P in
      record {
        starts = zero_upto end ps some W.starts;
        each = each_with (LatePiece r.sizes) (λ p. p.x <ℚ end) (SumPiece r.sizes end) (λ p L e. early_piece r.sizes end p L e) (upto end ps)
            (each_upto (LatePiece r.sizes) end ps (subst (Each (LatePiece r.sizes)) (sym W.pieces) (window_stands r.sizes end j J))) (upto_early end ps);
      };
  arches = λ r.
      let J = parts_stand r.sizes end a b j r.limited (r.left a (inl refl)) (r.right b (inl refl)) P in
      same_arches r.sizes.dt end (joined_value j) (read (upto end ps)) (λ t low high. plain_upto ps end t W.starts low high ∙ W.reads t low) (joined_arches r.sizes end end j J);
}

-- the first part starts at 0 or later
operand_start : (z : Sizes) (end : ℚ) (e : Element) → OperandElement z end e → int (pos 0) ≤ℚ start_of e
operand_start z end (Point x v) E = E.time.nonneg
operand_start z end (Open from to l) E = E.start.nonneg

pub pair_start : (end : ℚ) (a b : Element) (j : Joined) → EnvelopeRoom end (a ∷ []) (b ∷ []) → IsConvolved a b j → int (pos 0) ≤ℚ start_of j.first
pair_start end a b j r C =
    subst (λ x. int (pos 0) ≤ℚ x) (sym C.start)
    (both (start_of a) (start_of b) (operand_start r.sizes end a (r.left a (inl refl))) (operand_start r.sizes end b (r.right b (inl refl))))
  where
    both : (x y : ℚ) → int (pos 0) ≤ℚ x → int (pos 0) ≤ℚ y → int (pos 0) ≤ℚ x +ℚ y
    both x y h k = with2 x y (λ c. omega (arith, c.le, c.lt, c.same))

pub pair_room : (end : ℚ) (a b : Element) → EnvelopeRoom end (a ∷ []) (b ∷ []) → HaveRoom a b
pair_room end a b r = record { sizes = r.sizes; end = end; limited = r.limited; left = r.left a (inl refl); right = r.right b (inl refl) }
