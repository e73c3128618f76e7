-- A convolution's window with the value at 0 set to another that has room: it is an answer of the same call.
use Rattle.std.specs.Prelude.{◌≡◌, ℕ, ◌+◌, List, [], ◌∷◌}
use Rattle.std.proofs.Common.{arith, sym, subst}
use Rattle.rational.specs.Rational.{ℚ, ◌+ℚ◌, ◌-ℚ◌, ◌≤ℚ◌, ◌<ℚ◌}
use Rattle.rational.specs.Grid.{Whole}
use Rattle.rational.specs.Extended.{Ext, ◌≤ₑ◌, ◌+ₑ◌}
use Rattle.rational.proofs.Linear.{with3}
use Rattle.rational.proofs.Laws.{le_of_lt}
use Rattle.upp_curve.specs.declared.affine_segment.line.Piece.{Piece}
use Rattle.upp_curve.specs.affine_segment.Reading.{read}
use Rattle.upp_curve.specs.Curve.{SpecCurve}
use Rattle.min_plus.specs.Functions.{zero_q}
use Rattle.upp_limits.specs.Limits.{Sizes}
use Rattle.upp_curve.specs.affine_segment.Pieces.{StartsAtZero}
use Rattle.upp_curve.proofs.affine_segment.PieceOrder.{each_map}
use Rattle.curve_call.proofs.TailGrids.{TailOf}
use Rattle.curve_call.specs.declared.frame.Frame.{Frame}
use Rattle.curve_call.specs.Answering.{IsAnswerWindow}
use Rattle.curve_call.proofs.Answering.{answer_with_tail}
use Rattle.plain_operators.proofs.pointwise.LatticeCalls.{from_whole}
use Rattle.element_envelope.specs.SumWindows.{SumValueAt, SumPiece, SumWindow}
use Rattle.element_envelope.specs.Arches.{Arches}
use Rattle.element_envelope.proofs.SumRoom.{pieces_room}
use Rattle.element_envelope.proofs.ArchBends.{sums_on_grids}
use Rattle.subadd_closure.specs.Starting.{first_at}
use Rattle.subadd_closure.proofs.Starts.{read_past}
use Rattle.subadd_closure.proofs.Windowed.{IsConvolved, stands_of, arches_of, from_some}
use Rattle.plain_operators.proofs.pointwise.LatticeAnswers.{back}
use Rattle.curve_conv.proofs.ConvolveAnswers.{rise_room}

-- ---- the window
pub window_started : (z : Sizes) (end : ℚ) (v : Ext) (ps : List Piece) → SumWindow z end ps → SumValueAt z zero_q v
    → SumWindow z end (first_at v ps)
window_started z end v [] W V = W
window_started z end v (p ∷ ps) W V =
    let at : SumValueAt z p.x v = subst (λ x. SumValueAt z x v) (sym W.starts.0) V in
    record { starts = W.starts; each = (record { start = W.each.0.start; at = at; line = W.each.0.line }, W.each.1) }

-- it bends as before, since the values that count are past 0
pub arches_started : (T : ℕ) (end : ℚ) (v : Ext) (ps : List Piece) → StartsAtZero ps → Arches T end (read ps)
    → Arches T end (read (first_at v ps))
arches_started T end v ps S A = λ low high y h W.
    let zero = W.nonneg in
    let before = W.before in
    let some = W.some in
    let early : zero_q <ℚ y -ℚ h = with3 low y h (λ c. omega (arith, c.le, c.lt, c.same)) in
    let here : zero_q <ℚ y = with3 low y h (λ c. omega (arith, c.le, c.lt, c.same)) in
    let late : zero_q <ℚ y +ℚ h = with3 low y h (λ c. omega (arith, c.le, c.lt, c.same)) in
    same (read ps (y -ℚ h)) (read ps (y +ℚ h)) (read ps y)
    (read (first_at v ps) (y -ℚ h)) (read (first_at v ps) (y +ℚ h)) (read (first_at v ps) y)
    (read_past v ps (y -ℚ h) S early) (read_past v ps (y +ℚ h) S late) (read_past v ps y S here)
    (A low high y h W)
  where
    same : (a b c d e k : Ext) → d ≡ a → e ≡ b → k ≡ c → a +ₑ b ≤ₑ c +ₑ c → d +ₑ e ≤ₑ k +ₑ k
    same a b c d e k x y z h = rw (x, y, z) h

-- ---- the answer
pub started_answer : (f g : SpecCurve) (r : Frame) (ps : List Piece) (from rise : ℚ) (v : Ext)
    (C : IsConvolved f g r ps from rise)
    → SumValueAt C.frame.sizes zero_q v → IsAnswerWindow (first_at v ps) from r.period rise r.times r.values
started_answer f g r ps from rise v C V =
    let F = C.frame in
    let L = F.call in
    let z = F.sizes in
    let W = stands_of f g r F ps C.window in
    let U = window_started z r.end v ps W V in
    let B = arches_started z.dt r.end v ps W.starts (arches_of f g r F ps C.window) in
    let room = rise_room f g r rise F C.rise_is in
    let whole : Whole z.dt from =
    subst (Whole z.dt) (sym C.from_is) (from_whole f g r.start r.period r.end (F.number + 1) z L) in
    let nonneg : zero_q ≤ℚ from = subst (λ y. zero_q ≤ℚ y) (sym C.from_is) (le_of_lt (from_some f g r F)) in
    let ends = back r.end r.period from C.from_is in
    let tail : TailOf z r.end from r.period rise =
    record { nonneg = nonneg; some = L.above; ends = ends; time = whole; whole = L.period_whole; value = room.whole } in
    answer_with_tail z r.end from r.period rise r.times r.values (first_at v ps) L.limited F.times F.values U.starts
    (each_map (SumPiece z r.end) (λ p. p.x <ℚ r.end) (λ p P. P.start.before) (first_at v ps) U.each)
    (pieces_room z r.end (first_at v ps) L.limited U) tail room.within
    (sums_on_grids z r.end from r.period rise (first_at v ps) L.limited U B tail)
