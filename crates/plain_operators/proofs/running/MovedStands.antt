-- The pieces of an operand moved right are those of an operand too; the steps to them fit.
use Rattle.std.specs.Prelude.{◌≡◌, pos, cond, Bool, true, false, List, [], ◌∷◌, map, Option, Some, None}
use Rattle.std.proofs.Common.{arith, sym, ap, ◌∙◌, subst}
use Rattle.rational.specs.Rational.{ℚ, ◌+ℚ◌, ◌*ℚ◌, ◌≤ℚ◌, ◌<ℚ◌, int, neg_ℚ, lt_q}
use Rattle.rational.specs.Grid.{Whole, Within}
use Rattle.rational.specs.Extended.{Ext}
use Rattle.rational.specs.declared.Extended.TheVariants.{Inf}
use Rattle.rational.proofs.Grid.{whole_add, whole_int, whole_neg, within_neg}
use Rattle.rational.proofs.Linear.{with2}
use Rattle.rational.proofs.Laws.{le_refl, le_of_lt, mul_comm, mul_one}
use Rattle.upp_curve.specs.declared.affine_segment.line.Line.{Line}
use Rattle.upp_curve.specs.declared.affine_segment.line.Piece.{Piece}
use Rattle.upp_curve.specs.affine_segment.Values.{line_value}
use Rattle.upp_curve.specs.Curve.{SpecCurve}
use Rattle.upp_curve.specs.Curves.{IsCurve}
use Rattle.min_plus.specs.Functions.{zero_q}
use Rattle.upp_curve.specs.affine_segment.Pieces.{Each}
use Rattle.upp_limits.specs.Limits.{Sizes, curve_numbers}
use Rattle.upp_limits.specs.Sized.{Stands, ValueStands, LineStands, grid_of, times_largest}
use Rattle.upp_normal.specs.Operand.{AreLimited, OperandLineAt, OperandPiece, OperandPieces}
use Rattle.upp_curve.specs.Unrolled.{unroll, upto}
use Rattle.upp_normal.proofs.AnswerRoom.{wide_narrow}
use Rattle.upp_limits.proofs.NarrowSizes.{small_number, small_sum, run_whole, run_within}
use Rattle.upp_curve.proofs.affine_segment.PieceOrder.{each_append, each_map}
use Rattle.upp_normal.proofs.NormaliseLists.{each_upto}
use Rattle.upp_limits.proofs.PieceLists.{starts_nonneg}
use Rattle.upp_normal.proofs.UnrolledPieces.{each_with, each_nonneg, unroll_each, unroll_starts, PieceStands, pieces_stand, operand_line, operand_pieces}
use Rattle.upp_normal.proofs.UnrollSteps.{time_within}
use Rattle.plain_operators.specs.running.Moved.{moved_line, moved_piece, silence, moved_right, LineMoves, PieceMoves}
use Rattle.plain_operators.proofs.running.MovedReads.{moved_line_value, moved_starts}
use Rattle.upp_limits.proofs.PieceCounts.{upto_early}
use Rattle.upp_normal.proofs.StretchSizes.{time_whole}

-- ---- where they stand
at_stands : (z : Sizes) (b : Bool) (v : Ext) → ValueStands z v → ValueStands z (cond b v Inf)
at_stands z true v h = h
at_stands z false v h = tt

line_stands : (z : Sizes) (theta : ℚ) (l : Option Line) → LineStands z l → LineStands z (moved_line theta l)
line_stands z theta None h = h
line_stands z theta (Some l) h = h

moved_stands : (z : Sizes) (end theta : ℚ) (p : Piece) → AreLimited z end → Whole z.dt theta → zero_q ≤ℚ theta → PieceStands z p → zero_q ≤ℚ p.x → (moved_piece theta p).x <ℚ end
    → OperandPiece z end (moved_piece theta p)
moved_stands z end theta p A on low s nonneg before =
    let x = p.x in
    let late : zero_q ≤ℚ x +ℚ theta = with2 x theta (λ c. omega (arith, c.le, c.lt, c.same)) in
    let whole = whole_add z.dt x theta s.start on in
    let same : line_value (moved_line theta p.line) (x +ℚ theta) ≡ line_value p.line x =
    moved_line_value theta (x +ℚ theta) p.line ∙ ap (line_value p.line) (with2 x theta (λ c. omega (arith, c.le, c.lt, c.same))) in
    record {
      start = whole;
      nonneg = late;
      before = before;
      at = at_stands z (lt_q zero_q p.x) p.at s.at;
      line = operand_line z end (moved_line theta p.line) (x +ℚ theta) A.sizes whole late (le_of_lt before) (subst (ValueStands z) (sym same) s.after) (line_stands z theta p.line s.slope);
    }

map_each : (P Q : Piece → Type 0) (m : Piece → Piece) (ps : List Piece) → ((p : Piece) → P p → Q (m p)) → Each P ps → Each Q (map m ps)
map_each P Q m [] f h = tt
map_each P Q m (p ∷ ps) f h = (f p h.0, map_each P Q m ps f h.1)

silence_stands : (z : Sizes) (end theta : ℚ) → zero_q <ℚ end → Each (OperandPiece z end) (silence theta)
silence_stands z end theta some = by_test (lt_q zero_q theta)
  where
    by_test : (b : Bool) → Each (OperandPiece z end) (cond b (record { x = zero_q; at = Inf; line = None } ∷ []) [])
    by_test true = (record { start = whole_int z.dt (pos 0); nonneg = le_refl zero_q; before = some; at = tt; line = tt }, tt)
    by_test false = tt

pub moved_pieces : (z : Sizes) (end theta : ℚ) (c : SpecCurve) → IsCurve c → AreLimited z end → Stands z (curve_numbers end c) → Whole z.dt theta → zero_q ≤ℚ theta → theta <ℚ end
    → OperandPieces z end (moved_right theta end (unroll c end))
moved_pieces z end theta c is A stands on low far =
    let some : zero_q <ℚ end = with2 theta end (λ c. omega (arith, c.le, c.lt, c.same)) in
    let ps = unroll c end in
    let starts = unroll_starts c end some is.normal in
    let each : Each (PieceStands z) ps = unroll_each (PieceStands z) c end is.normal (pieces_stand z end c stands) in
    let early : Each (λ p. zero_q ≤ℚ p.x) ps = each_nonneg ps (starts_nonneg ps starts) in
    let both : Each (λ p. PieceStands z p × (zero_q ≤ℚ p.x)) ps = each_with (PieceStands z) (λ p. zero_q ≤ℚ p.x) (λ p. PieceStands z p × (zero_q ≤ℚ p.x)) (λ p a b. (a, b)) ps each early in
    let all : Each (λ q. q.x <ℚ end → OperandPiece z end q) (map (moved_piece theta) ps) =
    map_each (λ p. PieceStands z p × (zero_q ≤ℚ p.x)) (λ q. q.x <ℚ end → OperandPiece z end q) (moved_piece theta) ps (λ p h l. moved_stands z end theta p A on low h.0 h.1 l) both in
    record {
      starts = moved_starts theta end ps low far starts;
      each = each_append (OperandPiece z end) (silence theta) (upto end (map (moved_piece theta) ps)) (silence_stands z end theta some)
          (each_with (λ q. q.x <ℚ end → OperandPiece z end q) (λ q. q.x <ℚ end) (OperandPiece z end) (λ q f l. f l) (upto end (map (moved_piece theta) ps))
          (each_upto (λ q. q.x <ℚ end → OperandPiece z end q) end (map (moved_piece theta) ps) all) (upto_early end (map (moved_piece theta) ps)));
    }

-- ---- the steps fit
once : (z : Sizes) → times_largest 1 z ≡ int (pos z.largest)
once z = mul_comm (int (pos 1)) (int (pos z.largest)) ∙ mul_one (int (pos z.largest))

line_moves : (z : Sizes) (end theta : ℚ) (l : Option Line) → AreLimited z end → Whole z.dt theta → zero_q ≤ℚ theta → theta ≤ℚ end → OperandLineAt z l → LineMoves theta l
line_moves z end theta None A on low far L = tt
line_moves z end theta (Some l) A on low far L =
    let N = wide_narrow z end A in
    let run = l.slope *ℚ theta in
    let whole : Whole (grid_of z) run = run_whole z l.slope theta L.slope on in
    let within : Within (times_largest 1 z) run = subst (λ m. Within m run) (sym (once z)) (run_within z end l.slope theta A.sizes L.slope low far) in
    record {
      run = small_number z end 1 run A.sizes N (omega arith) whole within;
      icept = small_sum z end 2 1 l.icept (neg_ℚ run) A.sizes N (omega arith) L.icept (whole_neg (grid_of z) run whole) L.within (within_neg (times_largest 1 z) run within);
    }

piece_moves : (z : Sizes) (end theta : ℚ) (p : Piece) → AreLimited z end → Whole z.dt theta → zero_q ≤ℚ theta → theta ≤ℚ end → OperandPiece z end p → PieceMoves theta p
piece_moves z end theta p A on low far P = record {
  start = small_sum z end 1 1 p.x theta A.sizes (wide_narrow z end A) (omega arith) (time_whole z p.x P.start) (time_whole z theta on) (time_within z end p.x A.sizes P.nonneg (le_of_lt P.before)) (time_within z end theta A.sizes low far);
  line = line_moves z end theta p.line A on low far P.line;
}

pub pieces_move : (z : Sizes) (end theta : ℚ) (c : SpecCurve) → IsCurve c → AreLimited z end → Stands z (curve_numbers end c) → Whole z.dt theta → zero_q ≤ℚ theta → theta <ℚ end
    → Each (PieceMoves theta) (unroll c end)
pieces_move z end theta c is A stands on low far =
    let some : zero_q <ℚ end = with2 theta end (λ c. omega (arith, c.le, c.lt, c.same)) in
    each_map (OperandPiece z end) (PieceMoves theta) (λ p P. piece_moves z end theta p A on low (le_of_lt far) P) (unroll c end) (operand_pieces z end c is A some stands).each
