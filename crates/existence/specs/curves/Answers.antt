-- What holds of calls on curves. Own choice.
use Rattle.std.specs.Prelude.{ℕ, List}
use Rattle.rational.specs.Rational.{ℚ}
use Rattle.upp_curve.specs.declared.affine_segment.line.Piece.{Piece}
use Rattle.upp_curve.specs.affine_segment.Reading.{read}
use Rattle.upp_curve.specs.Curve.{SpecCurve, repeated}
use Rattle.upp_curve.specs.Curves.{IsCurve}
use Rattle.upp_limits.specs.declared.op_kind.OpKind.{OpKind}
use Rattle.upp_limits.specs.Gauges.{IsKnownAtOnce}
use Rattle.upp_normal.specs.Normalising.{HasValues}
use Rattle.curve_call.specs.Answering.{IsAnswerWindow}
use Rattle.curve_call.specs.CallWindows.{SecondIsCurve}
use Rattle.existence.specs.curves.Answered.{HasAnswer, IsDecided, HasCurveWithin}
use Rattle.curve_call.specs.Calls.{Applies}

abbrev pub AnswerWindowsHaveCurves : Type 0
AnswerWindowsHaveCurves =
    (ps : List Piece) (from period rise : ℚ) (times values : ℕ) → IsAnswerWindow ps from period rise times values
    → (c : SpecCurve) × IsCurve c × HasValues c (repeated (read ps) from period rise)

abbrev pub DecidedCallsHaveAnswers : Type 0
DecidedCallsHaveAnswers =
    (op : OpKind) (f g : SpecCurve) → IsCurve f → SecondIsCurve op g → ¬ (IsKnownAtOnce op f g) → IsDecided op f g
    → HasCurveWithin op f g → HasAnswer (Applies op f g)
