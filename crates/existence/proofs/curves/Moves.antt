-- A multiple and a shift have answers.
use Rattle.std.specs.Prelude.{List, [], ◌∷◌, map, Ok}
use Rattle.std.proofs.Common.{refl, ap}
use Rattle.rational.specs.Rational.{ℚ, ◌-ℚ◌, ◌≤ℚ◌}
use Rattle.rational.specs.Extended.{Ext}
use Rattle.rational.specs.declared.Extended.TheVariants.{Fin, Inf}
use Rattle.upp_curve.specs.declared.affine_segment.line.Piece.{Piece}
use Rattle.min_plus.specs.Functions.{zero_q}
use Rattle.upp_curve.specs.Curve.{SpecCurve}
use Rattle.upp_curve.specs.Curves.{IsCurve}
use Rattle.upp_curve.specs.Steady.{rise_over}
use Rattle.upp_curve.specs.Unrolled.{unroll}
use Rattle.upp_limits.specs.declared.op_kind.OpKind.TheVariants.{Scale, Shift}
use Rattle.upp_limits.specs.Gauges.{scaled_piece, scaled_tail}
use Rattle.curve_call.specs.declared.frame.Frame.{Frame}
use Rattle.curve_call.specs.Answers.{IsMadeBy}
use Rattle.curve_call.specs.Frames.{IsFrame, sizes_at}
use Rattle.curve_call.proofs.Limited.{scale_least, shift_least}
use Rattle.existence.proofs.curves.Forms.{curve_with_room}
use Rattle.existence.specs.curves.Answered.{HasAnswer}
use Rattle.existence.proofs.curves.Answered.{at_least, ok_found}
use Rattle.existence.proofs.curves.Nowhere.{nowhere, nowhere_curve, nowhere_values}
use Rattle.existence.proofs.curves.Windows.{answer_curve}
use Rattle.plain_operators.specs.pointwise.Shifting.{moved_left, IsAhead}
use Rattle.plain_operators.proofs.pointwise.ScaleCall.{IsMade, scale_call, made_raw, made_found, made_values}
use Rattle.plain_operators.proofs.pointwise.ShiftCall.{shift_call, window_pieces, shift_answer, shift_values}
use Rattle.curve_call.specs.Calls.{Applies}

-- ---- multiples
scale_made : (q : ℚ) (f : SpecCurve) (r : Frame) → IsFrame (Scale q) f f 0 0 r → (h : SpecCurve) × IsMadeBy (Scale q) f f h
scale_made q f r F =
    let z = sizes_at (Scale q) f f 0 0 in
    let S = scale_call q f r F in
    let ps = map (scaled_piece q) f.pieces in
    let tail = scaled_tail q f.tail in
    let M : IsMade q f ps tail = record { pieces = refl; tail = refl } in
    let found = made_found q f r z ps tail S M in
    let (c, curve, same) = curve_with_room record { pieces = ps; tail = tail } r.times r.values (made_raw q f r z ps tail S M) found.grids found.room in
    (c, record { curve = curve; answers = made_values q f ps tail c M same })

pub scale_answered : (q : ℚ) (f : SpecCurve) → IsCurve f → HasAnswer (Applies (Scale q) f f)
scale_answered q f F = at_least (Scale q) f f 0 0 F tt (λ h. h) (scale_least q f f) (scale_made q f)

-- ---- shifts
abbrev pub left_of : ℚ → List Piece → List Piece
left_of x [] = []
left_of x (p ∷ ps) = moved_left x p ps

shift_made : (x : ℚ) (f : SpecCurve) → zero_q ≤ℚ x → (r : Frame) → IsFrame (Shift (Fin x)) f f 0 0 r → (h : SpecCurve) × IsMadeBy (Shift (Fin x)) f f h
shift_made x f low r F =
    let z = sizes_at (Shift (Fin x)) f f 0 0 in
    let S = shift_call x f r low F in
    let ls = unroll f r.end in
    let ws = left_of x ls in
    let from = r.start -ℚ x in
    let rise = rise_over f r.period in
    let (c, curve, same) = answer_curve ws from r.period rise r.times r.values (shift_answer x f r z ls ws from rise S (window_pieces x f r z ls S refl) (λ p ps e. ap (left_of x) e) refl refl) in
    (c, record { curve = curve; answers = shift_values x f r z ls ws from rise c S refl (λ p ps e. ap (left_of x) e) refl refl same })

-- by infinity nothing is looked at
shift_nowhere : (f : SpecCurve) → HasAnswer (Applies (Shift Inf) f f)
shift_nowhere f = record {
  answer = Ok nowhere;
  is = record {
    within = record { narrow = λ w. w.looks tt; few = λ m. m.looks tt };
    made = record { curve = nowhere_curve; answers = λ t low. nowhere_values t };
  };
  found = ok_found (Ok nowhere) nowhere refl;
}

pub shift_answered : (x : Ext) (f : SpecCurve) → IsAhead x → IsCurve f → HasAnswer (Applies (Shift x) f f)
shift_answered Inf f ahead F = shift_nowhere f
shift_answered (Fin x) f ahead F = at_least (Shift (Fin x)) f f 0 0 F tt (λ h. h) (shift_least (Fin x) f f) (shift_made x f ahead)
