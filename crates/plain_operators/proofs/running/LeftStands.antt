-- The pieces of what is left are finite, and their numbers are sums of the operands' numbers.
use Rattle.std.specs.Prelude.{◌≡◌, ℕ, pos, List, [], ◌∷◌, Option, Some, None}
use Rattle.std.proofs.Common.{arith, sym, ap, ◌∙◌, refl, subst, inl, inr}
use Rattle.rational.specs.Rational.{ℚ, ◌-ℚ◌, ◌≤ℚ◌, ◌<ℚ◌, int}
use Rattle.rational.specs.MinMax.{max_q}
use Rattle.rational.specs.Extended.{Ext}
use Rattle.rational.specs.declared.Extended.TheVariants.{Fin, Inf}
use Rattle.rational.proofs.Grid.{whole_int, within_nonneg}
use Rattle.rational.proofs.Integers.{nat_nonneg}
use Rattle.rational.proofs.Laws.{le_refl, le_of_lt}
use Rattle.rational.proofs.MinMax.{max_q_one}
use Rattle.rational.proofs.ExtendedOrder.{fin_same}
use Rattle.upp_curve.specs.declared.affine_segment.line.Line.{Line}
use Rattle.upp_curve.specs.declared.affine_segment.line.Piece.{Piece}
use Rattle.upp_curve.specs.affine_segment.Values.{line_value}
use Rattle.min_plus.specs.Functions.{zero_q}
use Rattle.upp_curve.specs.affine_segment.Pieces.{Each, StartsAtZero}
use Rattle.min_plus.specs.Pointwise.{excess}
use Rattle.upp_curve.specs.affine_segment.Reading.{read, line_in}
use Rattle.upp_curve.specs.Shapes.{IsFinitePiece, IsNumber, IsLine}
use Rattle.upp_curve.specs.Steady.{last_line}
use Rattle.upp_limits.specs.Limits.{Sizes}
use Rattle.upp_limits.specs.Sized.{grid_of, times_largest}
use Rattle.upp_normal.specs.Operand.{AreLimited, OperandLineAt, OperandPiece, OperandPieces}
use Rattle.upp_normal.proofs.AnswerRoom.{difference_of_lines, value_difference_stands, values_fit, operand_lines_fit}
use Rattle.upp_curve.proofs.Finite.{pieces_finite, each_in}
use Rattle.upp_normal.proofs.NormaliseLists.{last_in}
use Rattle.curve_call.specs.declared.stretch.Both.{Both}
use Rattle.curve_call.specs.Stretches.{EachBoth, IsBothOf, IsOverlay}
use Rattle.curve_call.specs.Pointwise.{mapped}
use Rattle.curve_call.specs.Made.{line_apart, zero_line, ValueApartFits, LineApartFits}
use Rattle.curve_call.proofs.Mapped.{each_map, starts_mapped}
use Rattle.curve_call.proofs.OperandWindows.{operand_both}
use Rattle.plain_operators.specs.running.Lowest.{SumLine, SumPiece}
use Rattle.plain_operators.specs.running.Parts.{left_piece, StretchLeftFits}
use Rattle.plain_operators.proofs.running.SumSizes.{sum_weaken, near_of, value_near}
use Rattle.upp_curve.proofs.affine_segment.PieceIn.{read_is}
use Rattle.curve_call.proofs.MadeStands.{some_largest}
use Rattle.upp_normal.specs.Ahead.{GridValue, AnswerValue}

-- ---- one stretch
zero_sum : (z : Sizes) (k : ℕ) → AnswerValue z k zero_q
zero_sum z k = record { whole = whole_int (grid_of z) (pos 0); within = within_nonneg (times_largest k z) zero_q (le_refl zero_q) (some_largest z k) }

excess_sum : (z : Sizes) (v w : Ext) → IsNumber v → GridValue z v → GridValue z w → (y : ℚ) × (excess v w ≡ Fin y) × AnswerValue z 6 y
excess_sum z Inf w n V W = absurd n
excess_sum z (Fin v) Inf n V W = (zero_q, refl, zero_sum z 6)
excess_sum z (Fin v) (Fin w) n V W =
    let D = value_difference_stands z v w V W in
    let S : AnswerValue z 6 (v -ℚ w) = record { whole = D.whole; within = D.within } in
    (max_q zero_q (v -ℚ w), refl, elim (max_q_one zero_q (v -ℚ w)) [ inl e ↦ subst (AnswerValue z 6) (sym e) (zero_sum z 6) | inr e ↦ subst (AnswerValue z 6) (sym e) S ])

apart_sum : (z : Sizes) (l m : Option Line) → IsLine l → OperandLineAt z l → OperandLineAt z m → (n : Line) × (line_apart l m ≡ Some n) × SumLine z 4 n
apart_sum z l None is L M = (
  zero_line,
  refl,
  record {
    icept = zero_sum z 4;
    slope = whole_int z.ds (pos 0);
    steep = within_nonneg (int (pos z.steepness)) (int (pos 0)) (le_refl (int (pos 0))) (nat_nonneg z.steepness);
  },
)
apart_sum z None (Some m) is L M = absurd is
apart_sum z (Some l) (Some m) is L M =
    let D = difference_of_lines z l m L M in
    (record { icept = l.icept -ℚ m.icept; slope = l.slope -ℚ m.slope }, refl, record { icept = record { whole = D.icept; within = D.within }; slope = D.slope; steep = D.steep })

-- ---- a finite operand
abbrev pub IsFiniteIn : ℚ → List Piece → Type 0
IsFiniteIn end ls = (t : ℚ) → zero_q ≤ℚ t → t <ℚ end → IsNumber (read ls t)

pub each_finite : (end : ℚ) (ps : List Piece) → StartsAtZero ps → Each (λ p. p.x <ℚ end) ps → IsFiniteIn end ps → Each IsFinitePiece ps
each_finite end [] s b h = absurd s
each_finite end (p ∷ ps) s b h =
    pieces_finite (Some record { x = end; at = Inf }) p ps
    record { starts = s.1; early = b; finite = λ t low early. subst IsNumber (read_is p ps t) (h t (subst (λ x. x ≤ℚ t) s.0 low) early) }

line_in_finite : (ps : List Piece) (t : ℚ) → StartsAtZero ps → Each IsFinitePiece ps → IsLine (line_in ps t)
line_in_finite [] t s h = absurd s
line_in_finite (p ∷ ps) t s h = each_in (λ q. IsLine q.line) p ps t (lines (p ∷ ps) h)
  where
    lines : (qs : List Piece) → Each IsFinitePiece qs → Each (λ q. IsLine q.line) qs
    lines [] h = tt
    lines (q ∷ qs) h = (h.0.line, lines qs h.1)

early_each : (z : Sizes) (end : ℚ) (ps : List Piece) → Each (OperandPiece z end) ps → Each (λ p. p.x <ℚ end) ps
early_each z end [] h = tt
early_each z end (p ∷ ps) h = (h.0.before, early_each z end ps h.1)

-- ---- a piece of what is left
-- its line is a difference of two
pub record HasSumLine (z : Sizes) (p : Piece) : Type 0 where
  pub on : Line
  pub is : p.line ≡ Some on
  pub stands : SumLine z 4 on

pub record LeftStands (z : Sizes) (end : ℚ) (p : Piece) : Type 0 where
  pub sum : SumPiece z end p
  pub before : p.x <ℚ end
  pub line : HasSumLine z p

sum_line_weaken : (z : Sizes) (l : Line) → SumLine z 4 l → SumLine z 6 l
sum_line_weaken z l L = record { icept = sum_weaken z 4 6 l.icept (omega arith) L.icept; slope = L.slope; steep = L.steep }

left_stands : (z : Sizes) (end : ℚ) (ls rs : List Piece) (b : Both) → AreLimited z end → OperandPieces z end ls → OperandPieces z end rs → IsFiniteIn end ls → IsBothOf ls rs b → LeftStands z end (left_piece b)
left_stands z end ls rs b A F G finite B =
    let O = operand_both z end ls rs b A F G B in
    let each = each_finite end ls F.starts (early_each z end ls F.each) finite in
    let number : IsNumber b.left.at = subst IsNumber (sym B.left.at) (finite b.left.x O.time.nonneg O.time.before) in
    let line : IsLine b.left.line = subst IsLine (sym B.left.line) (line_in_finite ls b.left.x F.starts each) in
    let (y, e, Y) = excess_sum z b.left.at b.right.at number O.left O.right in
    let (n, k, N) = apart_sum z b.left.line b.right.line line O.left_line O.right_line in
    record {
      sum = record {
        start = O.time.whole;
        nonneg = O.time.nonneg;
        early = le_of_lt O.time.before;
        value = y;
        at = e;
        value_stands = Y;
        on = n;
        line = k;
        line_stands = sum_line_weaken z n N;
      };
      before = O.time.before;
      line = record { on = n; is = k; stands = N };
    }

each_left : (z : Sizes) (end : ℚ) (ls rs : List Piece) (bs : List Both) → AreLimited z end → OperandPieces z end ls → OperandPieces z end rs → IsFiniteIn end ls → EachBoth (IsBothOf ls rs) bs
    → Each (LeftStands z end) (mapped left_piece bs)
each_left z end ls rs [] A F G finite h = tt
each_left z end ls rs (b ∷ bs) A F G finite h = (left_stands z end ls rs b A F G finite h.0, each_left z end ls rs bs A F G finite h.1)

pub lefts_stand : (z : Sizes) (end : ℚ) (ls rs : List Piece) (bs : List Both) → AreLimited z end → OperandPieces z end ls → OperandPieces z end rs → IsFiniteIn end ls → IsOverlay ls rs bs
    → StartsAtZero (mapped left_piece bs) × Each (LeftStands z end) (mapped left_piece bs)
lefts_stand z end ls rs bs A F G finite O = (starts_mapped left_piece bs (λ b. refl) O.starts, each_left z end ls rs bs A F G finite O.each)

-- ---- the limit at the end
pub last_value : (z : Sizes) (end : ℚ) (ps : List Piece) (v : ℚ) → AreLimited z end → Each (LeftStands z end) ps → line_value (last_line ps) end ≡ Fin v → AnswerValue z 6 v
last_value z end [] v A h e = absurd (same_none e)
  where
    same_none : Inf ≡ Fin v → ⊥
    same_none e = cc
last_value z end (p ∷ ps) v A h e =
    let L = (last_in (LeftStands z end) p ps h.0 h.1).line in
    let N = near_of z end end A.sizes.window A.some (le_refl end) in
    subst (AnswerValue z 6) (fin_same (sym (ap (λ l. line_value l end) L.is) ∙ e)) (value_near z end end 4 L.on A L.stands N)

-- ---- the steps to them fit
value_apart : (v w : Ext) (z : Sizes) (end : ℚ) → AreLimited z end → GridValue z v → GridValue z w → ValueApartFits v w
value_apart Inf w z end A V W = tt
value_apart (Fin v) Inf z end A V W = tt
value_apart (Fin v) (Fin w) z end A V W = (values_fit z end v w A V W).1

lines_apart : (l m : Option Line) (z : Sizes) (end : ℚ) → AreLimited z end → OperandLineAt z l → OperandLineAt z m → LineApartFits l m
lines_apart None m z end A L M = tt
lines_apart (Some l) None z end A L M = tt
lines_apart (Some l) (Some m) z end A L M = let F = operand_lines_fit z end l m A L M in (F.apart, F.closing)

pub lefts_fit : (z : Sizes) (end : ℚ) (ls rs : List Piece) (bs : List Both) → AreLimited z end → OperandPieces z end ls → OperandPieces z end rs → IsOverlay ls rs bs → EachBoth StretchLeftFits bs
lefts_fit z end ls rs bs A F G O =
    each_map (IsBothOf ls rs) StretchLeftFits bs
    (λ b B. let P = operand_both z end ls rs b A F G B in
    record { value = value_apart b.left.at b.right.at z end A P.left P.right; line = lines_apart b.left.line b.right.line z end A P.left_line P.right_line }) O.each
