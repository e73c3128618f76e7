-- The last convolution of a closure's fold, with the value at 0 set to another, has an answer that is not want of memory.
use Rattle.std.specs.Prelude.{◌≢◌, List, Result, Ok, Err}
use Rattle.std.proofs.Common.{◌≡◌, inl, inr, refl}
use Rattle.rational.specs.Rational.{ℚ, ◌+ℚ◌, ◌-ℚ◌, ◌≤ℚ◌}
use Rattle.rational.specs.declared.Extended.TheVariants.{Fin, Inf}
use Rattle.upp_curve.specs.declared.affine_segment.line.Piece.{Piece}
use Rattle.upp_curve.specs.affine_segment.Reading.{read}
use Rattle.upp_curve.specs.Curve.{SpecCurve, value_at}
use Rattle.upp_curve.specs.Curves.{IsCurve}
use Rattle.upp_curve.specs.Unrolled.{unroll}
use Rattle.min_plus.specs.Functions.{zero_q, IsNonnegative}
use Rattle.upp_limits.specs.declared.op_kind.OpFault.{OpFault}
use Rattle.upp_limits.specs.declared.op_kind.OpFault.TheVariants.{NoMemory}
use Rattle.upp_limits.specs.declared.op_kind.OpKind.TheVariants.{Convolve}
use Rattle.upp_normal.proofs.NormaliseGrids.{ext_same_or}
use Rattle.curve_call.specs.Calls.{IsApplied, Applies}
use Rattle.outcomes.specs.Calls.{Then, goes_on, stops}
use Rattle.curve_call.specs.declared.frame.Frame.{Frame}
use Rattle.curve_conv.proofs.ConvolveAnswers.{windows}
use Rattle.element_envelope.proofs.FoundEnvelopes.{convolution_of}
use Rattle.subadd_closure.specs.Starting.{first_at, started_at}
use Rattle.subadd_closure.specs.StartsAt.{ConvolvesFinitely, ConvolvesPastZero, StartsAt}
use Rattle.subadd_closure.proofs.Made.{start_room, started_convolves, open_keeps, open_convolves, starts_at}
use Rattle.subadd_closure.proofs.StartCurves.{started_values, started_curve}
use Rattle.subadd_closure.proofs.Started.{started_answer}
use Rattle.subadd_closure.proofs.Windowed.{IsConvolved}
use Rattle.existence.specs.curves.Answered.{HasAnswer}
use Rattle.existence.proofs.curves.Answered.{ok_found}
use Rattle.existence.proofs.curves.Convolutions.{convolution_answered, convolve_frame, slower_rise}
use Rattle.existence.proofs.curves.Windows.{answer_curve}
use Rattle.existence.proofs.closures.Stars.{kept_refusal}

module _ (f g : SpecCurve) (start : ℚ) (F : IsCurve f) (G : IsCurve g) (low : IsNonnegative (value_at f)) (high : IsNonnegative (value_at g))
    (fin : ConvolvesFinitely (value_at f) (value_at g)) (from_zero : zero_q ≤ℚ start) where
  abbrev HasStarted : Type 0
  HasStarted = (h : SpecCurve) × IsCurve h × ConvolvesPastZero f g start h

  -- where a period after 0 the convolution is the start and its rise, it repeats from 0 on
  started_whole : (r : Frame) (ps : List Piece) (from rise : ℚ) (C : IsConvolved f g r ps from rise) → read ps r.period ≡ Fin (start +ℚ rise)
      → HasStarted
  started_whole r ps from rise C is =
      let room = start_room f g r ps from rise C start low high fin from_zero is in
      let W = started_answer f g r ps from rise (Fin start) C room in
      let (h, H, same) = answer_curve (first_at (Fin start) ps) from r.period rise r.times r.values W in
      (h, H, started_convolves f g r ps from rise C start h same)

  -- elsewhere its tail is that of the curve that is infinite at 0
  started_late : (r : Frame) (ps : List Piece) (from rise : ℚ) (C : IsConvolved f g r ps from rise)
      → ¬ (read ps r.period ≡ Fin (start +ℚ rise)) → HasStarted
  started_late r ps from rise C other =
      let W = started_answer f g r ps from rise Inf C tt in
      let (c, K, same) = answer_curve (first_at Inf ps) from r.period rise r.times r.values W in
      let keeps = open_keeps f g r ps from rise C start c fin other K.normal same in (
        started_at (Fin start) c,
        started_curve (Fin start) c K keeps,
        open_convolves f g r ps from rise C start c (started_at (Fin start) c) same (started_values (Fin start) c K.normal keeps),
      )

  started : (r : Frame) (ps : List Piece) (from rise : ℚ) → IsConvolved f g r ps from rise → HasStarted
  started r ps from rise C = elim (ext_same_or (read ps r.period) (Fin (start +ℚ rise))) [
    | inl is ↦ started_whole r ps from rise C is
    | inr other ↦ started_late r ps from rise C other
  ]

  within_found : (w : SpecCurve) → IsApplied Convolve f g w → HasStarted
  within_found w A =
      let (r, R) = convolve_frame f g F G A.within in
      let ls = unroll f r.end in
      let rs = unroll g r.end in
      let (ps, W) = convolution_of r.end ls rs (windows f g r ls rs R refl refl) in
      let (rise, rises) = slower_rise f g r.period in
      started r ps (r.end -ℚ r.period) rise record { frame = R; window = W; from_is = refl; rise_is = rises }

  by_answer : (r : Result SpecCurve OpFault) → Applies Convolve f g r → r ≢ Err NoMemory
      → HasAnswer (Then (Applies Convolve f g) (StartsAt start))
  by_answer (Ok w) A found =
      let (h, H, past) = within_found w A in
      record { answer = Ok h; is = goes_on w A (starts_at f g w h start A H past); found = ok_found (Ok h) h refl }
  by_answer (Err fault) a found = record { answer = Err fault; is = stops fault a refl; found = kept_refusal fault found }

  pub last_found : HasAnswer (Then (Applies Convolve f g) (StartsAt start))
  last_found = let a = convolution_answered f g F G in by_answer a.answer a.is a.found
