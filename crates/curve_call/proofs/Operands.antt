-- The operands of a call within its limits: their unrolled pieces below the window's end.
use Rattle.std.specs.Prelude.{◌≡◌, pos, List}
use Rattle.std.proofs.Common.{arith, sym, subst}
use Rattle.rational.specs.Rational.{ℚ, ◌<ℚ◌, int}
use Rattle.rational.proofs.Linear.{with3}
use Rattle.upp_curve.specs.declared.affine_segment.line.Piece.{Piece}
use Rattle.upp_limits.specs.declared.op_kind.OpKind.{OpKind}
use Rattle.upp_curve.specs.Curve.{SpecCurve}
use Rattle.upp_curve.specs.Curves.{IsCurve}
use Rattle.upp_curve.specs.Unrolled.{unroll}
use Rattle.upp_limits.specs.Limits.{Sizes, curve_numbers}
use Rattle.upp_limits.specs.Sized.{Stands}
use Rattle.upp_normal.specs.Operand.{AreLimited, OperandPieces}
use Rattle.upp_normal.specs.Unrolling.{IsOperandTo}
use Rattle.upp_normal.proofs.UnrolledPieces.{operand_pieces}
use Rattle.curve_call.specs.declared.frame.Frame.{Frame}
use Rattle.curve_call.proofs.FrameFacts.{FrameFacts}

-- the window's end is above 0
pub some_end : (op : OpKind) (f g : SpecCurve) (r : Frame) (z : Sizes) → FrameFacts op f g r z → int (pos 0) <ℚ r.end
some_end op f g r z h =
    let low = h.start.nonneg in
    let above = h.period.above in
    let early = h.early.both in
    with3 r.start r.period r.end (λ c. omega (arith, c.le, c.lt, c.same))

pub operand_to : (z : Sizes) (end : ℚ) (c : SpecCurve) → AreLimited z end → Stands z (curve_numbers end c) → IsOperandTo end c
operand_to z end c a h = record { sizes = z; limited = a; stands = h }

-- pieces that are the unrolled ones
pub unrolled_pieces : (z : Sizes) (end : ℚ) (c : SpecCurve) (ps : List Piece) → IsCurve c → AreLimited z end → int (pos 0) <ℚ end → Stands z (curve_numbers end c) → ps ≡ unroll c end
    → OperandPieces z end ps
unrolled_pieces z end c ps is a some h e = subst (OperandPieces z end) (sym e) (operand_pieces z end c is a some h)
