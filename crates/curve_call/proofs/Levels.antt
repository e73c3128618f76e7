-- A level for ever is a curve; how it goes on from a time, and how large its numbers are.
use Rattle.std.specs.Prelude.{◌≡◌, ℕ, pos, [], ◌∷◌, Some, None}
use Rattle.std.proofs.Common.{arith, sym, ap, ◌∙◌, refl, subst, inl, inr}
use Rattle.rational.specs.Rational.{ℚ, ◌*ℚ◌, ◌≤ℚ◌, ◌<ℚ◌, int}
use Rattle.rational.specs.Grid.{Within}
use Rattle.rational.specs.declared.Extended.TheVariants.{Fin}
use Rattle.rational.proofs.Grid.{whole_int, within_nonneg, within_weaken}
use Rattle.rational.proofs.Integers.{nat_nonneg, nat_le, int_mul}
use Rattle.rational.proofs.Over.{lt_q_out}
use Rattle.rational.proofs.Laws.{le_refl, le_lt_trans, mul_le_mul_right, le_or_lt, le_of_lt, antisym}
use Rattle.upp_curve.specs.declared.affine_segment.line.Piece.{Piece}
use Rattle.upp_curve.specs.Curve.{SpecCurve, value_at}
use Rattle.upp_curve.specs.Steady.{rate}
use Rattle.upp_limits.specs.Limits.{Sizes, curve_numbers}
use Rattle.upp_limits.specs.Sized.{IsValue, Stands, times_largest}
use Rattle.upp_normal.specs.Operand.{AreLimited, OperandLine, OperandLineAt}
use Rattle.upp_normal.specs.Ahead.{GoesOn, HasWindow, IsTimeIn, GridValue}
use Rattle.upp_curve.specs.affine_segment.Reading.{read, piece_value}
use Rattle.upp_limits.specs.Spans.{Span, spans, spans_below}
use Rattle.upp_curve.proofs.affine_segment.PieceIn.{piece_in_end, value_past, value_at_start}
use Rattle.upp_limits.proofs.NarrowSizes.{small_number, value_whole, value_within}
use Rattle.upp_normal.proofs.AnswerRoom.{wide_narrow}
use Rattle.upp_curve.proofs.ReadableKinds.{bucket_curve}
use Rattle.upp_limits.proofs.CurveStands.{curve_stands}
use Rattle.curve_call.specs.Levels.{level_curve}
use Rattle.upp_limits.proofs.Copies.{plus_zero}

pub level_value : (l t : ℚ) → int (pos 0) ≤ℚ t → value_at (level_curve l) t ≡ Fin l
unfolding value_at read
level_value l t low = elim (le_or_lt t (int (pos 0))) [
  | inl h ↦
      let p : Piece = record { x = int (pos 0); at = Fin l; line = Some record { icept = l; slope = int (pos 0) } } in
      ap (λ q. piece_value q t) (piece_in_end p t) ∙ ap (piece_value p) (antisym (h, low)) ∙ value_at_start p
  | inr h ↦
      let p : Piece = record { x = int (pos 0); at = Fin l; line = Some record { icept = l; slope = int (pos 0) } } in
      ap (λ q. piece_value q t) (piece_in_end p t) ∙ value_past p t h ∙ ap Fin (plus_zero l t)
]

pub level_rate : (c : SpecCurve) (l z : ℚ) → c ≡ level_curve l → z ≡ int (pos 0) → Fin z ≡ rate c
unfolding rate
level_rate c l z e h = ap Fin h ∙ ap rate (sym e)

pub level_goes : (c : SpecCurve) (l t z : ℚ) → c ≡ level_curve l → z ≡ int (pos 0) → int (pos 0) ≤ℚ t
    → GoesOn (value_at c) t record { at = Fin l; line = Some record { icept = l; slope = z }; next = None }
level_goes c l t z e h low = rw (e, h) record {
  at = sym (level_value l t low);
  line = λ u past k. level_value l u (le_of_lt (le_lt_trans low past)) ∙ ap Fin (sym (plus_zero l u));
  next = tt;
}

level_is_value : (z : Sizes) (end t l : ℚ) → HasWindow z end (level_curve l) → IsTimeIn z end t → IsValue z l
unfolding spans
level_is_value z end t l W T = (curve_stands z end (level_curve l) W.curve.normal.raw (le_lt_trans T.nonneg T.before, tt) W.stands).spans.0.at

more_largest : (z : Sizes) → times_largest 1 z ≤ℚ times_largest 2 z
more_largest z = mul_le_mul_right (int (pos z.largest)) (nat_nonneg z.largest) (nat_le 1 2 (omega arith))

most_largest : (z : Sizes) → times_largest 1 z ≤ℚ times_largest 3 z
most_largest z = mul_le_mul_right (int (pos z.largest)) (nat_nonneg z.largest) (nat_le 1 3 (omega arith))

pub none_within : (n : ℕ) → Within (int (pos n)) (int (pos 2) *ℚ int (pos 0))
none_within n = subst (Within (int (pos n))) (sym (int_mul (pos 2) (pos 0))) (within_nonneg (int (pos n)) (int (pos 0)) (le_refl (int (pos 0))) (nat_nonneg n))

pub level_operand : (z : Sizes) (l : ℚ) → IsValue z l → OperandLine z record { icept = l; slope = int (pos 0) }
level_operand z l V = record {
  slope = record { whole = whole_int z.ds (pos 0); within = none_within z.steepness };
  icept = value_whole z l V;
  within = within_weaken (times_largest 1 z) (times_largest 2 z) l (more_largest z) (value_within z l V);
}

pub level_sizes : (c : SpecCurve) (l t y : ℚ) (z : Sizes) (end : ℚ) → c ≡ level_curve l → y ≡ int (pos 0) → HasWindow z end c → IsTimeIn z end t
    → OperandLineAt z (Some record { icept = l; slope = y }) × GridValue z (Fin l)
level_sizes c l t y z end e h W T =
    let V = level_is_value z end t l (subst (HasWindow z end) e W) T in
    (subst (λ s. OperandLine z record { icept = l; slope = s }) (sym h) (level_operand z l V), record { whole = value_whole z l V; within = within_weaken (times_largest 1 z) (times_largest 3 z) l (most_largest z) (value_within z l V) })

-- ---- it has one span
level_span : ℚ → Span
level_span l = record { piece = record { x = int (pos 0); at = Fin l; line = Some record { icept = l; slope = int (pos 0) } }; next = None }

level_spans : (l end : ℚ) → int (pos 0) <ℚ end → spans_below (level_curve l) end ≡ level_span l ∷ []
unfolding spans_below spans level_span
level_spans l end h = rw (lt_q_out (int (pos 0)) end h) refl

pub level_stands : (z : Sizes) (end l : ℚ) → int (pos 0) <ℚ end → IsValue z l → Stands z (curve_numbers end (level_curve l))
unfolding level_span
level_stands z end l h V =
    let e = level_spans l end h in
    let W = subst (IsValue z) (sym (plus_zero l (int (pos 0)))) V in
    let zero = whole_int z.dt (pos 0) in
    record {
      times = rw e (zero, (zero, tt));
      values = rw e (V, (W, tt));
      slopes = rw e (record { whole = whole_int z.ds (pos 0); within = none_within z.steepness }, tt);
    }

-- ---- the level 0 is a curve of any window
pub zero_window : (z : Sizes) (end : ℚ) → AreLimited z end → int (pos 0) <ℚ end → HasWindow z end (level_curve (int (pos 0)))
zero_window z end A some =
    let v = int (pos 0) in
    let V : IsValue z v = record { whole = whole_int z.dv (pos 0); within = within_nonneg (int (pos z.largest)) v (le_refl v) (nat_nonneg z.largest) } in
    record {
      curve = bucket_curve v v (small_number z end 1 v A.sizes (wide_narrow z end A) (omega arith) (value_whole z v V) (value_within z v V));
      limited = A;
      stands = level_stands z end v some V;
      over = some;
    }
