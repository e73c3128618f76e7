-- A sum has an answer.
use Rattle.std.proofs.Common.{refl}
use Rattle.rational.specs.Rational.{◌+ℚ◌}
use Rattle.upp_curve.specs.Curve.{SpecCurve}
use Rattle.upp_curve.specs.Curves.{IsCurve}
use Rattle.upp_curve.specs.Steady.{rise_over}
use Rattle.upp_curve.specs.Unrolled.{unroll}
use Rattle.upp_limits.specs.declared.op_kind.OpKind.TheVariants.{Sum}
use Rattle.curve_call.proofs.Existing.{sum_of}
use Rattle.curve_call.specs.declared.frame.Frame.{Frame}
use Rattle.curve_call.specs.Answers.{IsMadeBy}
use Rattle.curve_call.specs.Frames.{IsFrame, sizes_at}
use Rattle.curve_call.proofs.Limited.{sum_least}
use Rattle.existence.specs.curves.Answered.{HasAnswer}
use Rattle.existence.proofs.curves.Answered.{at_least}
use Rattle.existence.proofs.curves.Windows.{answer_curve}
use Rattle.plain_operators.proofs.pointwise.SumCall.{sum_call, left_pieces, right_pieces, sum_answer, sum_values}
use Rattle.curve_call.specs.Calls.{Applies}

made : (f g : SpecCurve) (r : Frame) → IsFrame Sum f g 0 0 r → (h : SpecCurve) × IsMadeBy Sum f g h
made f g r F =
    let z = sizes_at Sum f g 0 0 in
    let S = sum_call f g r F in
    let ls = unroll f r.end in
    let rs = unroll g r.end in
    let (ps, W) = sum_of ls rs (left_pieces f g r z ls S refl).starts (right_pieces f g r z rs S refl).starts in
    let rise = rise_over f r.period +ℚ rise_over g r.period in
    let (c, curve, same) = answer_curve ps r.start r.period rise r.times r.values (sum_answer f g r z ls rs ps rise S refl refl W refl) in
    (c, record { curve = curve; answers = sum_values f g r z ls rs ps rise c S refl refl W refl same })

pub sum_answered : (f g : SpecCurve) → IsCurve f → IsCurve g → HasAnswer (Applies Sum f g)
sum_answered f g F G = at_least Sum f g 0 0 F G (λ h. h) (sum_least f g) (made f g)
