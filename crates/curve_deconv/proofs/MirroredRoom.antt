-- The lines of an operand have room with minus their values, and mirrored in time.
use Rattle.std.specs.Prelude.{◌≡◌, pos, Some}
use Rattle.std.proofs.Common.{arith, sym, subst}
use Rattle.rational.specs.Rational.{ℚ, ◌+ℚ◌, ◌-ℚ◌, ◌*ℚ◌, ◌≤ℚ◌, ◌<ℚ◌, neg_ℚ, int}
use Rattle.rational.specs.Ratio.{SumFits}
use Rattle.rational.specs.Grid.{Whole, Within}
use Rattle.rational.proofs.Grid.{whole_neg, within_neg, within_add}
use Rattle.rational.proofs.Linear.{with1, with2, with3}
use Rattle.rational.proofs.Laws.{le_of_lt}
use Rattle.upp_curve.specs.declared.affine_segment.line.Line.{Line}
use Rattle.upp_curve.specs.declared.affine_segment.line.Piece.{Piece}
use Rattle.upp_curve.specs.affine_segment.Values.{line_at, line_value}
use Rattle.upp_limits.specs.Limits.{Sizes}
use Rattle.upp_limits.specs.Sized.{IsSlope, IsValue, ValueStands, grid_of, times_largest}
use Rattle.upp_normal.specs.Operand.{AreLimited, OperandLine, OperandPiece}
use Rattle.upp_limits.proofs.NarrowSizes.{narrow_gauge}
use Rattle.upp_normal.proofs.AnswerRoom.{operand_line, operand_line_value, steep_run}
use Rattle.curve_call.proofs.CurveTimes.{sum_fits, time_within}
use Rattle.curve_deconv.specs.Mirrored.{neg_line, mirror_line}
use Rattle.element_envelope.proofs.Growth.{line_gains}

-- ---- minus the values
twice_back : (s : ℚ) → int (pos 2) *ℚ neg_ℚ s ≡ neg_ℚ (int (pos 2) *ℚ s)
twice_back s = with1 s (λ c. omega (arith, c.le, c.lt, c.same))

neg_slope : (z : Sizes) (s : ℚ) → IsSlope z s → IsSlope z (neg_ℚ s)
neg_slope z s S = record {
  whole = whole_neg z.ds s S.whole;
  within = subst (Within (int (pos z.steepness))) (sym (twice_back s)) (within_neg (int (pos z.steepness)) (int (pos 2) *ℚ s) S.within);
}

pub neg_operand_line : (z : Sizes) (l : Line) → OperandLine z l → OperandLine z (neg_line l)
neg_operand_line z l L = record {
  slope = neg_slope z l.slope L.slope;
  icept = whole_neg (grid_of z) l.icept L.icept;
  within = within_neg (times_largest 2 z) l.icept L.within;
}

-- ---- pieces that can be mirrored
-- a time from 0 up to `reach`
pub record ReachTime (z : Sizes) (reach t : ℚ) : Type 0 where
  pub whole : Whole z.dt t
  pub low : int (pos 0) ≤ℚ t
  pub high : t ≤ℚ reach

-- a piece of the second operand that starts before `reach`
pub record ReadyPiece (z : Sizes) (end reach : ℚ) (p : Piece) : Type 0 where
  pub piece : OperandPiece z end p
  pub before : p.x <ℚ reach
  pub after : ValueStands z (line_value p.line p.x)

pub piece_time : (z : Sizes) (end reach : ℚ) (p : Piece) → ReadyPiece z end reach p → ReachTime z reach p.x
piece_time z end reach p P = record { whole = P.piece.start; low = P.piece.nonneg; high = le_of_lt P.before }

-- ---- mirrored they stand
one_two : (z : Sizes) → int (pos z.largest) +ℚ times_largest 1 z ≡ times_largest 2 z
one_two z = let v = int (pos z.largest) in with1 v (λ c. omega (arith, c.le, c.lt, c.same))

pub mirror_operand_line : (z : Sizes) (end reach x : ℚ) (l : Line) → AreLimited z end → Whole z.dt reach → int (pos 0) ≤ℚ reach → reach ≤ℚ end → int (pos 0) ≤ℚ x → x ≤ℚ reach
    → OperandLine z l → IsValue z (line_at l x) → OperandLine z (mirror_line reach l)
mirror_operand_line z end reach x l A w low high xl xh L V =
    let far = reach -ℚ x in
    let flow : int (pos 0) ≤ℚ far = with2 reach x (λ c. omega (arith, c.le, c.lt, c.same)) in
    let fhigh : far ≤ℚ end = with3 reach x end (λ c. omega (arith, c.le, c.lt, c.same)) in
    let run = steep_run z end l.slope far A (operand_line z l L).steep flow fhigh in
    record {
      slope = neg_slope z l.slope L.slope;
      icept = (operand_line_value z end reach (Some l) A L w low high).whole;
      within = subst (Within (times_largest 2 z)) (sym (line_gains l x reach))
          (subst (λ m. Within m (line_at l x +ℚ l.slope *ℚ far)) (one_two z) (within_add (int (pos z.largest)) (times_largest 1 z) (line_at l x) (l.slope *ℚ far) V.within run));
    }

-- ---- the steps to it fit
pub back_fits : (z : Sizes) (end a b : ℚ) → AreLimited z end → Whole z.dt a → Whole z.dt b → int (pos 0) ≤ℚ a → a ≤ℚ end → int (pos 0) ≤ℚ b → b ≤ℚ end → SumFits a (neg_ℚ b)
back_fits z end a b A wa wb la ha lb hb =
    let g = A.gauge in
    sum_fits z end a (neg_ℚ b) A.sizes (narrow_gauge z end A.sizes (omega (arith, g))) wa (whole_neg z.dt b wb) (time_within z end a A.sizes la ha) (within_neg _ b (time_within z end b A.sizes lb hb))
