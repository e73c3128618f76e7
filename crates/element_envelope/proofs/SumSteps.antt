-- Windows of what elements make: no step of the lower of two of them is too wide, and it is one again.
use Rattle.std.specs.Prelude.{◌≡◌, ◌⊎◌, pos, List, [], ◌∷◌, Option, Some, None}
use Rattle.std.proofs.Common.{arith, sym, ap, ◌∙◌, subst, inl, inr}
use Rattle.rational.specs.Rational.{ℚ, ◌*ℚ◌, ◌≤ℚ◌, int}
use Rattle.rational.specs.Grid.{Whole}
use Rattle.rational.proofs.Integers.{nat_nonneg}
use Rattle.rational.proofs.Laws.{le_or_lt, le_of_lt, antisym}
use Rattle.upp_curve.specs.declared.affine_segment.line.Line.{Line}
use Rattle.upp_curve.specs.declared.affine_segment.line.Piece.{Piece}
use Rattle.upp_curve.specs.affine_segment.Values.{line_value}
use Rattle.upp_curve.specs.affine_segment.Reading.{read, piece_in, piece_value, line_in}
use Rattle.upp_curve.specs.affine_segment.Pieces.{Each, HasStart}
use Rattle.upp_limits.specs.Limits.{Sizes}
use Rattle.upp_normal.specs.Operand.{AreLimited, answer_room}
use Rattle.upp_curve.specs.affine_segment.Fits.{LineFitsAt}
use Rattle.upp_normal.specs.Room.{TimeHasRoom, LineHasRoom}
use Rattle.upp_curve.proofs.affine_segment.PieceIn.{value_past, value_at_start}
use Rattle.upp_curve.proofs.affine_segment.PieceOrder.{each_map}
use Rattle.upp_normal.proofs.NormaliseRoomy.{each_in, found_early}
use Rattle.upp_normal.proofs.AnswerRoom.{AnswerLine, IsCrossing, room_at_start, crossing_room, line_in_room, line_fits_in, line_value_in, steep_run}
use Rattle.curve_call.specs.Stretches.{CutsFit}
use Rattle.element_envelope.specs.ElementRoom.{SumLine}
use Rattle.element_envelope.specs.SumWindows.{SumStart, SumValueAt, SumLineAt, SumPiece, SumWindow}
use Rattle.element_envelope.proofs.ElementSizes.{sum_within}
use Rattle.upp_limits.proofs.NarrowSizes.{half_bound}

-- ---- times and lines have room
pub time_room : (z : Sizes) (end x : ℚ) → AreLimited z end → SumStart z end x → TimeHasRoom (answer_room z end) x
time_room z end x A s = elim s.place [ inl w ↦ room_at_start z end x A w s.nonneg | inr k ↦ crossing_room z end x A k s.nonneg ]

pub sum_answer : (z : Sizes) (l : Line) → SumLine z l → AnswerLine z 6 l
sum_answer z l L = record {
  icept = L.icept;
  within = L.within;
  slope = L.slope.whole;
  steep = half_bound (int (pos z.steepness)) l.slope (nat_nonneg z.steepness) L.slope.within;
}

pub line_room : (z : Sizes) (end : ℚ) (l : Option Line) → AreLimited z end → SumLineAt z l → LineHasRoom (answer_room z end) 1 l
line_room z end None A L = tt
line_room z end (Some l) A L = line_in_room z end 6 l A (omega arith) (sum_answer z l L)

pub line_fits_at : (z : Sizes) (end x : ℚ) (l : Option Line) → AreLimited z end → SumLineAt z l → SumStart z end x → LineFitsAt x l
line_fits_at z end x l A L s = line_fits_in z end x l A (line_room z end l A L) (time_room z end x A s) (le_of_lt s.before)

-- ---- readings
-- up to the end of the window
pub place_room : (z : Sizes) (end x : ℚ) → AreLimited z end → Whole z.dt x ⊎ IsCrossing z x → int (pos 0) ≤ℚ x → TimeHasRoom (answer_room z end) x
place_room z end x A p low = elim p [ inl w ↦ room_at_start z end x A w low | inr k ↦ crossing_room z end x A k low ]

pub line_fits_to : (z : Sizes) (end x : ℚ) (l : Option Line) → AreLimited z end → SumLineAt z l → Whole z.dt x ⊎ IsCrossing z x → int (pos 0) ≤ℚ x → x ≤ℚ end → LineFitsAt x l
line_fits_to z end x l A L p low high = line_fits_in z end x l A (line_room z end l A L) (place_room z end x A p low) high

pub line_value_to : (z : Sizes) (end x : ℚ) (l : Option Line) → AreLimited z end → SumLineAt z l → int (pos 0) ≤ℚ x → x ≤ℚ end → SumValueAt z x (line_value l x)
line_value_to z end x None A L low high = tt
line_value_to z end x (Some l) A L low high = record {
  whole = λ grid base on. (line_value_in z end 6 grid l x A (omega arith) (sum_answer z l L) base on low high).whole;
  within = sum_within z 6 1 l.icept (l.slope *ℚ x) L.within (steep_run z end l.slope x A (sum_answer z l L).steep low high);
}

pub line_value_on : (z : Sizes) (end x : ℚ) (l : Option Line) → AreLimited z end → SumLineAt z l → SumStart z end x → SumValueAt z x (line_value l x)
line_value_on z end x None A L s = tt
line_value_on z end x (Some l) A L s = record {
  whole = λ grid base on. (line_value_in z end 6 grid l x A (omega arith) (sum_answer z l L) base on s.nonneg (le_of_lt s.before)).whole;
  within = sum_within z 6 1 l.icept (l.slope *ℚ x) L.within (steep_run z end l.slope x A (sum_answer z l L).steep s.nonneg (le_of_lt s.before));
}

pub start_in : (z : Sizes) (end x : ℚ) (ps : List Piece) → Each (SumPiece z end) ps → HasStart x ps → SumStart z end x
start_in z end x [] E h = absurd h
start_in z end x (p ∷ ps) E (inl e) = subst (SumStart z end) e E.0.start
start_in z end x (p ∷ ps) E (inr h) = start_in z end x ps E.1 h

pub sum_line_in : (z : Sizes) (end x : ℚ) (ps : List Piece) → SumWindow z end ps → SumLineAt z (line_in ps x)
sum_line_in z end x [] P = tt
sum_line_in z end x (p ∷ ps) P = each_in (λ q. SumLineAt z q.line) p ps x P.each.0.line (each_map (SumPiece z end) (λ q. SumLineAt z q.line) (λ q h. h.line) ps P.each.1)

pub sum_read : (z : Sizes) (end x : ℚ) (ps : List Piece) → AreLimited z end → SumWindow z end ps → SumStart z end x → SumValueAt z x (read ps x)
unfolding read
sum_read z end x [] A P T = tt
sum_read z end x (p ∷ ps) A P T =
    let q = piece_in p ps x in
    let Q = each_in (SumPiece z end) p ps x P.each.0 P.each.1 in
    let low : p.x ≤ℚ x = subst (λ y. y ≤ℚ x) (sym P.starts.0) T.nonneg in
    let early = found_early p ps x low in
    elim (le_or_lt x q.x) [
      | inl k ↦
          let same : q.x ≡ x = antisym (early, k) in
          subst (SumValueAt z x) (sym (value_at_start q) ∙ ap (piece_value q) same) (subst (λ y. SumValueAt z y q.at) same Q.at)
      | inr k ↦ subst (SumValueAt z x) (sym (value_past q x k)) (line_value_on z end x q.line A Q.line T)
    ]

-- ---- the cuts
pub sum_cuts_fit : (z : Sizes) (end : ℚ) (f g : List Piece) → AreLimited z end → SumWindow z end f → SumWindow z end g → CutsFit f g
sum_cuts_fit z end f g A F G = record {
  left = λ x h. line_fits_at z end x (line_in f x) A (sum_line_in z end x f F) (start_in z end x g G.each h);
  right = λ x h. line_fits_at z end x (line_in g x) A (sum_line_in z end x g G) (start_in z end x f F.each h);
}
