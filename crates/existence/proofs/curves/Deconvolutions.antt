-- A deconvolution has an answer: infinity where the first is the faster, else the curve of its window's pieces, unless the call is over a limit.
use Rattle.std.specs.Prelude.{List, map, Ok}
use Rattle.std.proofs.Common.{refl, sym, ap, subst, inl, inr}
use Rattle.rational.specs.Rational.{ℚ}
use Rattle.rational.specs.Extended.{◌<ₑ◌}
use Rattle.upp_curve.specs.declared.affine_segment.line.Piece.{Piece}
use Rattle.upp_curve.specs.affine_segment.Reading.{read}
use Rattle.min_plus.specs.Functions.{IsFinite}
use Rattle.min_plus.specs.Convolution.{IsDeconvolution}
use Rattle.upp_curve.specs.Curve.{SpecCurve, value_at}
use Rattle.upp_curve.specs.Curves.{IsCurve}
use Rattle.upp_curve.specs.Steady.{steady, rate, rise_over}
use Rattle.upp_curve.specs.Unrolled.{unroll}
use Rattle.upp_limits.specs.declared.op_kind.OpKind.TheVariants.{Deconvolve}
use Rattle.curve_call.proofs.Existing.{sum_of}
use Rattle.curve_call.specs.declared.frame.Frame.{Frame}
use Rattle.curve_call.specs.Answers.{IsMadeBy}
use Rattle.curve_call.specs.Frames.{IsFrame, sizes_at}
use Rattle.curve_call.proofs.Limited.{deconvolve_least}
use Rattle.existence.proofs.curves.Infima.{front_of}
use Rattle.existence.proofs.curves.Moves.{left_of}
use Rattle.plain_operators.proofs.pointwise.LatticeAnswers.{slower_or_not}
use Rattle.element_envelope.proofs.FoundEnvelopes.{convolution_from}
use Rattle.existence.specs.curves.Answered.{HasAnswer}
use Rattle.existence.proofs.curves.Answered.{at_least, ok_found}
use Rattle.existence.proofs.curves.Nowhere.{nowhere, nowhere_curve, nowhere_values}
use Rattle.existence.proofs.curves.Windows.{answer_curve}
use Rattle.curve_deconv.specs.Marks.{first_last, last_of, mark_pieces}
use Rattle.curve_deconv.specs.Mirrored.{neg_piece, mirror_pieces}
use Rattle.curve_deconv.specs.DeconvolutionWindows.{OperandWindows, IsDeconvolutionWindow}
use Rattle.curve_deconv.proofs.Pairs.{pairs_room, pairs_is}
use Rattle.curve_deconv.proofs.Raised.{sum_ready, raised_is}
use Rattle.curve_deconv.proofs.Moved.{deconvolved_is}
use Rattle.curve_deconv.proofs.Slower.{faster_deconvolves}
use Rattle.curve_deconv.proofs.DeconvolveCall.{answer_period, reach_of, deconvolve_call, windows, deconvolve_answer, deconvolve_values, known_within}
use Rattle.curve_call.specs.Calls.{Applies}

-- ---- the pieces of the window
window_of : (end reach : ℚ) (f g : List Piece) → OperandWindows end reach f g → (ps : List Piece) × IsDeconvolutionWindow end reach f g ps
window_of end reach f g W =
    let (front, F) = front_of g reach in
    let xs = map neg_piece f in
    let ys = mirror_pieces reach (read g reach) front in
    let (ps, C) = convolution_from reach end xs ys (pairs_room end reach f g front xs ys W F refl refl) in
    let P = pairs_is end reach f g front ps W F C in
    let last = last_of f end first_last in
    let ms = mark_pieces last reach end in
    let ready = sum_ready end reach f g ps ms last W P refl refl in
    let (rs, S) = sum_of ps ms ready.left ready.right in
    (map neg_piece (left_of reach rs), deconvolved_is end reach f g rs (left_of reach rs) W (raised_is end reach f g ps rs W P S) (λ q qs e. ap (left_of reach) e))

-- ---- where the first is not the faster
made : (f g : SpecCurve) → IsFinite (value_at g) → ¬ (rate g <ₑ rate f) → (r : Frame) → IsFrame Deconvolve f g 0 0 r → (h : SpecCurve) × IsMadeBy Deconvolve f g h
made f g finite slow r F =
    let z = sizes_at Deconvolve f g 0 0 in
    let D = deconvolve_call f g r F in
    let ls = unroll f r.end in
    let rs = unroll g r.end in
    let period = answer_period f g in
    let (ps, W) = window_of r.end (reach_of f g r) ls rs (windows f g r z ls rs D finite refl refl) in
    let (c, curve, same) = answer_curve ps (steady f) period (rise_over f period) r.times r.values (deconvolve_answer f g r z ls rs ps D finite refl refl W) in
    (c, record { curve = curve; answers = λ t low. (deconvolve_values f g r z ls rs ps c D finite slow refl refl W same t low).deconvolves })

-- ---- where it is
infinite : (f g : SpecCurve) → IsCurve f → IsCurve g → IsFinite (value_at g) → rate g <ₑ rate f → HasAnswer (Applies Deconvolve f g)
infinite f g F G finite faster = record {
  answer = Ok nowhere;
  is = record {
    within = known_within f g faster;
    made = record {
      curve = nowhere_curve;
      answers = λ t low.
          subst (IsDeconvolution (value_at f) (value_at g) t) (sym (nowhere_values t)) (faster_deconvolves f g t F G finite faster low);
    };
  };
  found = ok_found (Ok nowhere) nowhere refl;
}

pub deconvolution_answered : (f g : SpecCurve) → IsCurve f → IsCurve g → IsFinite (value_at g) → HasAnswer (Applies Deconvolve f g)
deconvolution_answered f g F G finite = elim (slower_or_not (rate g) (rate f)) [
  | inl faster ↦ infinite f g F G finite faster
  | inr slow ↦ at_least Deconvolve f g 0 0 F G slow (deconvolve_least f g) (made f g finite slow)
]
