-- A copy of an operand's window as pieces: what is read of it, where its pieces stand, and that its steps fit.
use Rattle.std.specs.Prelude.{◌≡◌, ◌*◌, pos, List, [], ◌∷◌, ◌++◌, Option, Some, None}
use Rattle.std.proofs.Common.{arith, sym, ap, ◌∙◌, refl, subst, inl, inr}
use Rattle.rational.specs.Rational.{ℚ, ◌+ℚ◌, ◌-ℚ◌, ◌*ℚ◌, ◌≤ℚ◌, ◌<ℚ◌, int}
use Rattle.rational.specs.Ratio.{SumFits}
use Rattle.rational.specs.Extended.{Ext, ◌+ₑ◌}
use Rattle.rational.specs.declared.Extended.TheVariants.{Fin, Inf}
use Rattle.rational.proofs.Grid.{whole_add, whole_sub}
use Rattle.rational.proofs.Linear.{with2, with3}
use Rattle.rational.proofs.Laws.{le_or_lt, lt_irrefl, lt_le_trans}
use Rattle.upp_curve.specs.declared.affine_segment.line.Line.{Line}
use Rattle.upp_curve.specs.declared.affine_segment.line.Piece.{Piece}
use Rattle.upp_curve.specs.affine_segment.Pieces.{Each, RisesFrom, StartsAtZero}
use Rattle.upp_curve.specs.affine_segment.Reading.{read, nothing_at}
use Rattle.upp_curve.proofs.affine_segment.PieceOrder.{each_append, each_map}
use Rattle.upp_curve.specs.Fitting.{LaterFits}
use Rattle.upp_curve.specs.Unrolled.{line_later, later, each_later, upto}
use Rattle.upp_curve.proofs.Unique.{upto_some}
use Rattle.upp_limits.specs.Limits.{Sizes}
use Rattle.upp_limits.specs.Sized.{grid_of}
use Rattle.upp_normal.specs.Ahead.{GridValue, IsGridValue}
use Rattle.upp_normal.specs.Operand.{AreLimited, OperandLineAt, answer_room}
use Rattle.upp_normal.specs.Room.{PieceHasRoom}
use Rattle.upp_normal.proofs.AnswerRoom.{answer_is_room, operand_line_room, operand_value_room, room_at_start, value_in_room}
use Rattle.upp_normal.proofs.NormaliseLists.{rises_moved}
use Rattle.upp_normal.proofs.NormaliseLoops.{later_none, later_some}
use Rattle.upp_normal.proofs.NormaliseRoom.{later_fits}
use Rattle.upp_normal.proofs.UnrolledValues.{read_later}
use Rattle.element_envelope.specs.ElementRoom.{WindowTime}
use Rattle.element_envelope.specs.ConvolutionWindows.{WindowPiece}
use Rattle.element_envelope.specs.CopyPieces.{copy_start}
use Rattle.element_envelope.specs.JoinedWindows.{lead_of}
use Rattle.element_envelope.specs.SumWindows.{SumValueAt, SumLineAt}
use Rattle.element_envelope.proofs.ElementSizes.{sum_within, gap_within, rise_whole, rise_within, sum_stands}
use Rattle.element_envelope.proofs.JoinedReads.{ListStarts, lead_empty, lead_one, lead_starts, lead_reads}
use Rattle.element_envelope.proofs.PairWindows.{LatePiece, lead_stands, sum_value_on}
use Rattle.element_envelope.proofs.Rests.{EndsIn}

-- all pieces of the copy of some pieces, with infinity before it
abbrev pub copy_pieces : ℚ → ℚ → List Piece → List Piece
copy_pieces x v ps = lead_of (copy_start x ps) ++ each_later x v ps

-- ---- what is read
moved_starts : (x v : ℚ) (p : Piece) (ps : List Piece) → RisesFrom p.x ps → ListStarts (p.x +ℚ x) (each_later x v (p ∷ ps))
moved_starts x v p ps h = record {
  head = later x v p;
  rest = each_later x v ps;
  is = later_some x v p ps;
  at = refl;
  rises = rises_moved x v p.x ps h;
}

pub copy_starts : (x v : ℚ) (g : List Piece) (p : Piece) (ps : List Piece) → int (pos 0) ≤ℚ x → EndsIn g p ps → StartsAtZero (copy_pieces x v (p ∷ ps))
copy_starts x v g p ps low E = lead_starts (p.x +ℚ x) (each_later x v (p ∷ ps)) (both p.x x E.nonneg low) (moved_starts x v p ps E.rises)
  where
    both : (x y : ℚ) → int (pos 0) ≤ℚ x → int (pos 0) ≤ℚ y → int (pos 0) ≤ℚ x +ℚ y
    both x y h k = with2 x y (λ c. omega (arith, c.le, c.lt, c.same))

-- infinity before the start, and from there on what all pieces are so much earlier, as much higher
pub copy_before : (x v : ℚ) (g : List Piece) (p : Piece) (ps : List Piece) (t : ℚ) → EndsIn g p ps → int (pos 0) ≤ℚ t → t <ℚ p.x +ℚ x → read (copy_pieces x v (p ∷ ps)) t ≡ Inf
copy_before x v g p ps t E low early =
    lead_reads (p.x +ℚ x) (each_later x v (p ∷ ps)) t Inf low (moved_starts x v p ps E.rises) (λ l. refl) (λ k. absurd (lt_irrefl t (lt_le_trans early k)))

pub copy_after : (x v : ℚ) (g : List Piece) (p : Piece) (ps : List Piece) (t : ℚ) → EndsIn g p ps → int (pos 0) ≤ℚ t → p.x +ℚ x ≤ℚ t → read (copy_pieces x v (p ∷ ps)) t ≡ read g (t -ℚ x) +ₑ Fin v
copy_after x v g p ps t E low late =
    lead_reads (p.x +ℚ x) (each_later x v (p ∷ ps)) t (read g (t -ℚ x) +ₑ Fin v) low (moved_starts x v p ps E.rises) (λ l. absurd (lt_irrefl t (lt_le_trans l late)))
    (λ k. read_later (p ∷ ps) x v t ∙ ap (λ z. z +ₑ Fin v) (E.reads (t -ℚ x) (since p.x x t k)))
  where
    since : (p x t : ℚ) → p +ℚ x ≤ℚ t → p ≤ℚ t -ℚ x
    since p x t h = with3 p x t (λ c. omega (arith, c.le, c.lt, c.same))

-- the copies that start before the end are the pieces of the copy that do
pub lead_upto : (end x : ℚ) (ps : List Piece) → int (pos 0) <ℚ end → lead_of x ++ upto end ps ≡ upto end (lead_of x ++ ps)
lead_upto end x ps some = elim (le_or_lt x (int (pos 0))) [
  | inl h ↦ ap (λ z. z ++ upto end ps) (lead_empty x h) ∙ sym (ap (λ z. upto end (z ++ ps)) (lead_empty x h))
  | inr h ↦
      ap (λ z. z ++ upto end ps) (lead_one x h) ∙ sym (upto_some end (nothing_at (int (pos 0))) ps some)
      ∙ sym (ap (λ z. upto end (z ++ ps)) (lead_one x h))
]

-- ---- where the pieces stand
pub line_later_stands : (z : Sizes) (end x v : ℚ) (l : Option Line) → AreLimited z end → WindowTime z end x → IsGridValue z v → OperandLineAt z l → SumLineAt z (line_later x v l)
line_later_stands z end x v None A X V L = tt
line_later_stands z end x v (Some l) A X V L =
    let rise = l.slope *ℚ x in
    let on = rise_whole z end l.slope x L.slope X in
    record {
      slope = L.slope;
      icept = whole_sub (grid_of z) (l.icept +ℚ v) rise (whole_add (grid_of z) l.icept v L.icept V.whole) on;
      within = gap_within z 5 1 (l.icept +ℚ v) rise (sum_within z 2 3 l.icept v L.within V.within) (rise_within z end l.slope x A L.slope X);
    }

at_later_stands : (z : Sizes) (x v : ℚ) (at : Ext) → IsGridValue z v → GridValue z at → SumValueAt z x (at +ₑ Fin v)
at_later_stands z x v Inf V W = tt
at_later_stands z x v (Fin w) V W = sum_value_on z x (w +ℚ v) (sum_stands z w v W V)

later_stands : (z : Sizes) (end x v : ℚ) (p : Piece) → AreLimited z end → WindowTime z end x → IsGridValue z v → WindowPiece z end p → LatePiece z (later x v p)
later_stands z end x v p A X V P = record {
  whole = whole_add z.dt p.x x P.start X.whole;
  nonneg = both p.x x P.nonneg X.nonneg;
  at = at_later_stands z (p.x +ℚ x) v p.at V P.at;
  line = line_later_stands z end x v p.line A X V P.line;
}
  where
    both : (x y : ℚ) → int (pos 0) ≤ℚ x → int (pos 0) ≤ℚ y → int (pos 0) ≤ℚ x +ℚ y
    both x y h k = with2 x y (λ c. omega (arith, c.le, c.lt, c.same))

moved_stand : (z : Sizes) (end x v : ℚ) (ps : List Piece) → AreLimited z end → WindowTime z end x → IsGridValue z v → Each (WindowPiece z end) ps → Each (LatePiece z) (each_later x v ps)
moved_stand z end x v [] A X V P = subst (Each (LatePiece z)) (sym (later_none x v)) tt
moved_stand z end x v (p ∷ ps) A X V P = subst (Each (LatePiece z)) (sym (later_some x v p ps)) (later_stands z end x v p A X V P.0, moved_stand z end x v ps A X V P.1)

pub copy_stands : (z : Sizes) (end x v : ℚ) (ps : List Piece) → AreLimited z end → WindowTime z end x → IsGridValue z v → Each (WindowPiece z end) ps → Each (LatePiece z) (copy_pieces x v ps)
copy_stands z end x v ps A X V P = each_append (LatePiece z) (lead_of (copy_start x ps)) (each_later x v ps) (lead_stands z (copy_start x ps)) (moved_stand z end x v ps A X V P)

-- ---- the steps fit
window_has_room : (z : Sizes) (end : ℚ) (p : Piece) → AreLimited z end → WindowPiece z end p → PieceHasRoom (answer_room z end) 1 p
window_has_room z end p A P =
    let T = room_at_start z end p.x A P.start P.nonneg in
    record { time = T; at = operand_value_room z end T.grid p.at T.base P.at; line = operand_line_room z end p.line A P.line }

later_one_fits : (z : Sizes) (end x v : ℚ) (p : Piece) → AreLimited z end → WindowTime z end x → IsGridValue z v → WindowPiece z end p → LaterFits x v p
later_one_fits z end x v p A X V P =
    let value = value_in_room z end 3 (z.dv * z.dt) v (omega arith) V.whole V.within in
    later_fits (answer_room z end) 1 x v p (answer_is_room z end A) (omega arith) (window_has_room z end p A P)
    record { time = X.whole; low = X.nonneg; height = value.whole; within = value.within } (in_room p.x x end P.before X.early A.some)
  where
    in_room : (a b end : ℚ) → a <ℚ end → b ≤ℚ end → int (pos 0) ≤ℚ end → a +ℚ b ≤ℚ int (pos 3) *ℚ end
    in_room a b end h k some = with3 a b end (λ c. omega (arith, c.le, c.lt, c.same))

pub copy_fits : (z : Sizes) (end x v : ℚ) (ps : List Piece) → AreLimited z end → WindowTime z end x → IsGridValue z v → Each (WindowPiece z end) ps → Each (LaterFits x v) ps
copy_fits z end x v [] A X V P = tt
copy_fits z end x v (p ∷ ps) A X V P = (later_one_fits z end x v p A X V P.0, copy_fits z end x v ps A X V P.1)

pub starts_fit : (x v : ℚ) (ps : List Piece) → Each (LaterFits x v) ps → Each (λ p. SumFits p.x x) ps
starts_fit x v ps h = each_map (LaterFits x v) (λ p. SumFits p.x x) (λ p P. P.start) ps h
