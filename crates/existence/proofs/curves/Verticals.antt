-- Two curves have a vertical deviation, or their call is over a limit.
use Rattle.std.specs.Prelude.{◌≡◌, ◌≢◌, ◌⊎◌, pos, true, false, List, [], ◌∷◌, Result, Ok, Err, Option, None, Some}
use Rattle.std.proofs.Common.{refl, sym, inl, inr, subst, true≢false}
use Rattle.rational.specs.Rational.{◌+ℚ◌, int}
use Rattle.rational.specs.Extended.{Ext, ◌<ₑ◌}
use Rattle.rational.specs.declared.Extended.TheVariants.{Fin, Inf}
use Rattle.upp_curve.specs.declared.affine_segment.line.Line.{Line}
use Rattle.upp_curve.specs.declared.affine_segment.line.Piece.{Piece}
use Rattle.upp_curve.specs.affine_segment.Pieces.{Each}
use Rattle.min_plus.specs.Deviations.{IsVerticalDeviation}
use Rattle.min_plus.specs.Functions.{IsFinite}
use Rattle.upp_curve.specs.declared.curve.Tail.{Tail}
use Rattle.upp_curve.specs.declared.curve.Tail.TheVariants.{Periodic, Affine, Infinite}
use Rattle.upp_curve.specs.Curve.{SpecCurve, value_at}
use Rattle.upp_curve.specs.Curves.{IsCurve}
use Rattle.upp_curve.specs.Shapes.{IsNumber, IsLine, IsFinitePiece}
use Rattle.upp_curve.specs.Steady.{rate}
use Rattle.upp_curve.proofs.CurveShapes.{finite_answer, not_finite}
use Rattle.upp_curve.proofs.RisingCurves.{GoesOn}
use Rattle.upp_limits.specs.declared.op_kind.OpKind.TheVariants.{Vertical}
use Rattle.upp_limits.specs.declared.op_kind.OpFault.{OpFault}
use Rattle.upp_limits.specs.declared.op_kind.OpFault.TheVariants.{TooMany, TooWide, NoMemory}
use Rattle.upp_limits.specs.Outcome.{IsWithin}
use Rattle.curve_call.specs.declared.frame.Frame.{Frame}
use Rattle.curve_call.specs.Frames.{IsFrame, sizes_at}
use Rattle.curve_call.proofs.Limited.{vertical_least}
use Rattle.curve_call.proofs.TailMoves.{rates_compared, not_both, not_same}
use Rattle.curve_call.specs.declared.gaps.Gap.{Gap}
use Rattle.curve_call.specs.declared.gaps.Gap.TheVariants.{NoTime, Never, Is}
use Rattle.curve_call.specs.Gaps.{InWindow, IsGap}
use Rattle.existence.proofs.curves.Answered.{limited}
use Rattle.curve_call.proofs.GapThere.{gap_there}
use Rattle.net_cells.specs.Answers.{Deviates}
use Rattle.curve_deviation.proofs.AtOnce.{not_finite_deviation}
use Rattle.curve_deviation.proofs.VerticalCall.{frame_compared, known_within, faster_at_once, not_known}
use Rattle.curve_deviation.proofs.WholeGap.{vertical_is, some_time, never_endless, whole_window}

-- ---- whether a curve is finite
number_or : (v : Ext) → IsNumber v ⊎ ¬ (IsNumber v)
number_or Inf = inr (λ h. h)
number_or (Fin x) = inl tt

line_or : (l : Option Line) → IsLine l ⊎ ¬ (IsLine l)
line_or None = inr (λ h. h)
line_or (Some l) = inl tt

piece_or : (p : Piece) → IsFinitePiece p ⊎ ¬ (IsFinitePiece p)
piece_or p = elim (number_or p.at) [
  | inr n ↦ inr (λ h. n h.at)
  | inl v ↦ elim (line_or p.line) [
    | inr n ↦ inr (λ h. n h.line)
    | inl l ↦ inl record { at = v; line = l }
  ]
]

each_or : (ps : List Piece) → Each IsFinitePiece ps ⊎ ¬ (Each IsFinitePiece ps)
each_or [] = inl tt
each_or (p ∷ ps) = elim (piece_or p) [
  | inr n ↦ inr (λ h. n h.0)
  | inl a ↦ elim (each_or ps) [
    | inr n ↦ inr (λ h. n h.1)
    | inl b ↦ inl (a, b)
  ]
]

by_pieces : (c : SpecCurve) → IsCurve c → GoesOn c.tail → IsFinite (value_at c) ⊎ ¬ (IsFinite (value_at c))
by_pieces c F on = elim (each_or c.pieces) [
  | inl e ↦ inl ((finite_answer c c.pieces c.tail true refl F on (λ h. e, λ h. refl)).0 refl)
  | inr n ↦ inr (λ h. true≢false (sym ((finite_answer c c.pieces c.tail false refl F on (λ k. absurd (true≢false (sym k)), λ k. absurd (n k))).1 h)))
]

pub finite_or_not : (c : SpecCurve) → IsCurve c → IsFinite (value_at c) ⊎ ¬ (IsFinite (value_at c))
finite_or_not c F = by_tail c.tail refl
  where
    by_tail : (tail : Tail) → c.tail ≡ tail → IsFinite (value_at c) ⊎ ¬ (IsFinite (value_at c))
    by_tail (Periodic rank period rise) e = by_pieces c F (subst GoesOn (sym e) tt)
    by_tail (Affine rank) e = by_pieces c F (subst GoesOn (sym e) tt)
    by_tail (Infinite rank) e = inr (not_finite c c.pieces c.tail rank refl e F)

-- ---- the deviation
abbrev HasVertical : SpecCurve → SpecCurve → Type 0
HasVertical f g = (r : Result Ext OpFault) × Deviates Vertical IsVerticalDeviation f g r

wide_is : TooWide ≢ NoMemory
wide_is e = cc

many_is : TooMany ≢ NoMemory
many_is e = cc

by_frame : (f g : SpecCurve) (r : Frame) → IsFrame Vertical f g 0 0 r → IsWithin Vertical f g → IsFinite (value_at f) → IsFinite (value_at g) → ¬ (rate g <ₑ rate f) → HasVertical f g
by_frame f g r R within first second slow =
    let z = sizes_at Vertical f g 0 0 in
    let C = frame_compared f g r R in
    let W = whole_window z r.start r.period f g C in
    by_gap (gap_there z f g (int (pos 0)) (r.start +ℚ r.period) W.0 W.1 W.2)
  where
    by_gap : (gap : Gap) × IsGap (InWindow (int (pos 0)) (r.start +ℚ r.period)) (value_at f) (value_at g) gap → HasVertical f g
    by_gap (Is q, h) = (Ok (Fin q), (within, vertical_is (sizes_at Vertical f g 0 0) r.start r.period f g q (frame_compared f g r R) first second slow h))
    by_gap (NoTime, h) = absurd (some_time (value_at g) (r.start +ℚ r.period) (whole_window (sizes_at Vertical f g 0 0) r.start r.period f g (frame_compared f g r R)).3 second h)
    by_gap (Never, h) = absurd (never_endless (value_at f) (value_at g) (r.start +ℚ r.period) first h)

by_limits : (f g : SpecCurve) → IsCurve f → IsCurve g → IsFinite (value_at f) → IsFinite (value_at g) → ¬ (rate g <ₑ rate f) → HasVertical f g
by_limits f g F G first second slow = elim (limited Vertical f g 0 0 F G (not_known f g first slow) (vertical_least f g)) [
  | inl wide ↦ (Err TooWide, (wide, wide_is))
  | inr (inl many) ↦ (Err TooMany, (many, many_is))
  | inr (inr (r, R, within)) ↦ by_frame f g r R within first second slow
]

pub vertical_answered : (f g : SpecCurve) → IsCurve f → IsCurve g → IsFinite (value_at g) → HasVertical f g
vertical_answered f g F G second = elim (finite_or_not f F) [
  | inr not ↦ (Ok Inf, (known_within f g (inl not), not_finite_deviation f g F not second))
  | inl first ↦ elim (rates_compared (rate g) (rate f)) [
    | inl faster ↦ (Ok Inf, (known_within f g (inr faster), faster_at_once f g F G faster first second))
    | inr (inl e) ↦ by_limits f g F G first second (not_same (rate g) (rate f) e)
    | inr (inr l) ↦ by_limits f g F G first second (not_both (rate f) (rate g) l)
  ]
]
