-- What first in, first out leaves of a service has an answer: its pieces, their scans, and its number of periods.
use Rattle.std.specs.Prelude.{ℕ, ◌<◌, ◌^◌, List, [], ◌∷◌, ◌++◌, Some, Ok}
use Rattle.std.proofs.Common.{refl, inl, inr}
use Rattle.std.proofs.lemmas.Bool.{cases_lt}
use Rattle.rational.specs.Rational.{ℚ, ◌+ℚ◌, ◌-ℚ◌}
use Rattle.rational.specs.MinMax.{min_q}
use Rattle.rational.specs.Extended.{Ext}
use Rattle.rational.specs.declared.Extended.TheVariants.{Fin, Inf}
use Rattle.upp_curve.specs.declared.affine_segment.line.Piece.{Piece}
use Rattle.upp_curve.specs.affine_segment.Reading.{read}
use Rattle.upp_curve.specs.affine_segment.Values.{line_value}
use Rattle.min_plus.specs.Deviations.{IsHorizontalDeviation}
use Rattle.min_plus.specs.Functions.{zero_q, IsFinite, IsRising, IsNonnegative}
use Rattle.upp_curve.specs.declared.curve.Tail.TheVariants.{Affine}
use Rattle.upp_curve.specs.Curve.{SpecCurve, value_at}
use Rattle.upp_curve.specs.Curves.{IsCurve}
use Rattle.upp_curve.specs.Steady.{last_line, rise_over}
use Rattle.upp_curve.specs.Unrolled.{unroll}
use Rattle.upp_curve.proofs.Finite.{level_of}
use Rattle.upp_curve.proofs.ReadableKinds.{zero_small}
use Rattle.upp_limits.specs.declared.op_kind.OpFault.TheVariants.{TooWide}
use Rattle.upp_limits.specs.declared.op_kind.OpKind.TheVariants.{FifoLeft}
use Rattle.upp_limits.specs.Gauges.{gauge_at}
use Rattle.upp_limits.specs.Limits.{Sizes}
use Rattle.upp_limits.specs.Periods.{common_period, moved_steady}
use Rattle.upp_limits.specs.Windows.{window_at, IsLeast, Meets}
use Rattle.curve_call.specs.declared.frame.Frame.{Frame}
use Rattle.curve_call.specs.declared.windows.CallWindow.{CallWindow}
use Rattle.curve_call.specs.Answers.{IsMadeBy}
use Rattle.curve_call.specs.FirstWindows.{IsFirstWindow}
use Rattle.curve_call.specs.Frames.{IsFrame}
use Rattle.curve_call.proofs.Limited.{fifo_left_least}
use Rattle.curve_call.specs.Pointwise.{mapped}
use Rattle.curve_call.proofs.Existing.{overlay_of}
use Rattle.existence.specs.curves.Answered.{HasAnswer}
use Rattle.existence.proofs.curves.Answered.{at_least, too_wide, ok_found}
use Rattle.existence.proofs.curves.Windows.{answer_curve}
use Rattle.plain_operators.specs.running.Behind.{IsServed}
use Rattle.plain_operators.specs.running.LeftCall.{IsLeftFrame, IsLeftWindow}
use Rattle.plain_operators.specs.running.Lowest.{level_piece, IsLowestCall, IsLowest}
use Rattle.plain_operators.specs.running.Moved.{moved_right}
use Rattle.plain_operators.specs.running.Parts.{left_piece}
use Rattle.plain_operators.proofs.running.LeftAnswers.{LeftScan, left_operand, right_operand, scan_call, left_answer, left_value}
use Rattle.plain_operators.proofs.running.LeftLimits.{left_wide, left_frame}
use Rattle.plain_operators.proofs.running.LowestCalls.{first_window, first_fits, first_number, last_fits, level_stands, second_window, second_fits, lowest_is}
use Rattle.plain_operators.proofs.running.MostBehind.{least_there}
use Rattle.plain_operators.proofs.running.Nothing.{nothing_curve, nothing_value}
use Rattle.existence.proofs.curves.Infima.{scan_back, front_of}
use Rattle.curve_call.specs.Calls.{Applies}

-- ---- the pieces
window : (f g : SpecCurve) (theta : ℚ) (r : Frame) → IsLeftFrame f g theta r → (ps : List Piece) × IsLeftWindow f g theta r.end ps
window f g theta r F =
    let (bs, O) = overlay_of (unroll f r.end) (moved_right theta r.end (unroll g r.end)) (left_operand f g theta r F).starts (right_operand f g theta r F).starts in
    (mapped left_piece bs, record { stretches = bs; overlay = O; pieces = refl })

lowest : (z : Sizes) (ps : List Piece) (from end far rise : ℚ) → IsLowestCall z ps from end far rise → (qs : List Piece) × IsLowest ps from end far rise qs
lowest z ps from end far rise C =
    let (once, S) = scan_back ps end (first_window z ps from end far rise C) (first_fits z ps from end far rise C) in
    let (low, e) = level_of (read once from) (first_number ps once from end S) in
    let (limit, k) = level_of (line_value (last_line ps) end) (last_fits z ps from end far rise C).1 in
    let level = min_q (low +ℚ rise) limit in
    let V = level_stands z ps once from end far rise low limit C S e k in
    let all = ps ++ level_piece end level ∷ [] in
    let (scanned, T) = scan_back all far (second_window z ps from end far rise level C V) (second_fits z ps from end far rise level C V) in
    let (front, K) = front_of scanned end in
    (front, lowest_is ps once all scanned front from end far rise low limit C.from_low C.from_early S e k refl T K)

-- ---- within both limits
made : (theta : ℚ) (f g : SpecCurve) (k : ℕ) → IsServed (value_at f) (value_at g) theta → IsLeast (Meets (FifoLeft (Fin theta)) f g) k → (r : Frame) → IsFrame (FifoLeft (Fin theta)) f g k 0 r
    → (h : SpecCurve) × IsMadeBy (FifoLeft (Fin theta)) f g h
made theta f g k S L r R =
    let F = left_frame theta f g k r S L R in
    let (ps, W) = window f g theta r F in
    let from = r.end -ℚ r.period in
    let far = r.end +ℚ r.period in
    let rise = rise_over f r.period -ℚ rise_over g r.period in
    let C : LeftScan f g theta r ps from far rise = record { frame = F; served = S; window = W; from_is = refl; far_is = refl; rise_is = refl } in
    let (qs, K) = lowest F.sizes ps from r.end far rise (scan_call f g theta r ps from far rise C) in
    let (c, curve, same) = answer_curve qs from r.period rise r.times r.values (left_answer f g theta r ps qs from far rise C K) in
    (c, record { curve = curve; answers = left_value f g theta r ps qs from far rise c C K same })

-- ---- after a finite wait
gate : ℚ → SpecCurve → SpecCurve → CallWindow
gate theta f g = record { start = moved_steady f g theta; period = common_period f g; end = window_at (FifoLeft (Fin theta)) f g 0 0 }

is_gate : (theta : ℚ) (f g : SpecCurve) → gauge_at (FifoLeft (Fin theta)) f g 0 0 < 2 ^ 120 → IsFirstWindow (FifoLeft (Fin theta)) f g (gate theta f g)
unfolding gate
is_gate theta f g small = record { window = record { start = refl; period = refl; end = refl }; gauge = small }

after : (theta : ℚ) (f g : SpecCurve) → IsCurve f → IsCurve g → IsServed (value_at f) (value_at g) theta → HasAnswer (Applies (FifoLeft (Fin theta)) f g)
after theta f g F G S = elim (cases_lt (gauge_at (FifoLeft (Fin theta)) f g 0 0) (2 ^ 120)) [
  | inr wide ↦ too_wide (FifoLeft (Fin theta)) f g (left_wide theta f g TooWide S (F, G) wide)
  | inl small ↦
      let (k, L) = least_there f g theta (gate theta f g) record { curve = F; other = G; served = S; first = is_gate theta f g small } in
      at_least (FifoLeft (Fin theta)) f g k 0 F G (λ h. h) (fifo_left_least (Fin theta) f g k L) (made theta f g k S L)
]

-- ---- after an infinite wait nothing is looked at
never : (f g : SpecCurve) → HasAnswer (Applies (FifoLeft Inf) f g)
never f g =
    let ps : List Piece = record { x = zero_q; at = Fin zero_q; line = Some record { icept = zero_q; slope = zero_q } } ∷ [] in
    let c : SpecCurve = record { pieces = ps; tail = Affine zero_q } in
    record {
      answer = Ok c;
      is = record {
        within = record { narrow = λ w. w.looks tt; few = λ m. m.looks tt };
        made = record { curve = nothing_curve ps zero_q zero_small (refl, refl); answers = λ t low. nothing_value ps zero_q c t (refl, refl) refl low };
      };
      found = ok_found (Ok c) c refl;
    }

pub left_over_answered : (x : Ext) (f g : SpecCurve) → IsCurve f → IsCurve g → IsFinite (value_at f) → IsRising (value_at f) → IsNonnegative (value_at f) → IsHorizontalDeviation (value_at g) (value_at f) x
    → HasAnswer (Applies (FifoLeft x) f g)
left_over_answered Inf f g F G finite rising nonneg deviation = never f g
left_over_answered (Fin theta) f g F G finite rising nonneg deviation = after theta f g F G record { finite = finite; rising = rising; nonneg = nonneg; deviation = deviation }
