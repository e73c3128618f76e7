-- A curve as it is some time later, within the limits of the call: each step fits, the pieces of the answer have room, and it repeats with the period.
use Rattle.std.specs.Prelude.{◌≡◌, ℕ, ◌*◌, pos, List, [], ◌∷◌, Option, Some, None}
use Prim.Native.Nat.{◌∣◌}
use Rattle.std.proofs.Common.{arith, sym, ap, ap₂, ◌∙◌, refl, subst}
use Rattle.rational.specs.Rational.{ℚ, ◌+ℚ◌, ◌-ℚ◌, ◌≤ℚ◌, ◌<ℚ◌, int, neg_ℚ}
use Rattle.rational.specs.Ratio.{SumFits}
use Rattle.rational.specs.Grid.{Whole}
use Rattle.rational.specs.Extended.{Ext, ◌+ₑ◌}
use Rattle.rational.specs.declared.Extended.TheVariants.{Fin, Inf}
use Rattle.rational.proofs.Linear.{with2, with3, with4}
use Rattle.rational.proofs.Laws.{le_of_lt, le_refl}
use Rattle.rational.proofs.Grid.{whole_sub, whole_neg, within_neg, within_weaken}
use Rattle.upp_curve.specs.declared.affine_segment.line.Line.{Line}
use Rattle.upp_curve.specs.declared.affine_segment.line.Piece.{Piece}
use Rattle.upp_limits.specs.declared.op_kind.OpKind.{OpKind}
use Rattle.upp_limits.specs.declared.op_kind.OpKind.TheVariants.{Shift}
use Rattle.upp_curve.specs.affine_segment.Reading.{read, piece_in}
use Rattle.upp_curve.specs.Curve.{SpecCurve, repeated, value_at}
use Rattle.upp_curve.specs.Curves.{IsCurve}
use Rattle.upp_curve.specs.affine_segment.Pieces.{Each, StartsAtZero}
use Rattle.upp_normal.specs.Normalising.{HasValues, cut_at, past}
use Rattle.upp_curve.specs.affine_segment.Fits.{LineFitsAt}
use Rattle.upp_curve.specs.Unrolled.{unroll}
use Rattle.upp_curve.specs.Steady.{steady, rise_over, IsWholePeriods}
use Rattle.upp_limits.specs.Windows.{window_at}
use Rattle.min_plus.specs.Pointwise.{IsShift}
use Rattle.upp_limits.specs.Limits.{Sizes, curve_numbers}
use Rattle.upp_limits.specs.Sized.{Stands, grid_of}
use Rattle.upp_normal.specs.Operand.{AreLimited, OperandPiece, OperandPieces, OperandLineAt, answer_room}
use Rattle.upp_normal.specs.Room.{PieceHasRoom, LineHasRoom}
use Rattle.upp_limits.proofs.NarrowSizes.{narrow_gauge, slope_time_divides}
use Rattle.upp_normal.proofs.NormaliseGrids.{PieceOn, ValueOn, LineOn, raw_on}
use Rattle.upp_curve.proofs.affine_segment.PieceOrder.{each_map}
use Rattle.upp_curve.proofs.affine_segment.PieceIn.{read_is}
use Rattle.upp_curve.proofs.Finite.{each_in}
use Rattle.upp_curve.proofs.Steady.{steady_rule}
use Rattle.upp_normal.proofs.Below.{unroll_reads}
use Rattle.upp_normal.proofs.AnswerRoom.{room_at_start, line_in_room, operand_line, operand_line_fits, stands_operand_value, operand_line_value, operand_value_room, more_largest}
use Rattle.curve_call.proofs.OperandWindows.{operand_line_in, operand_read}
use Rattle.curve_call.specs.declared.frame.Frame.{Frame}
use Rattle.curve_call.specs.Frames.{IsFrame, sizes_at}
use Rattle.curve_call.specs.Answering.{IsAnswerWindow}
use Rattle.curve_call.proofs.CurveTimes.{sum_fits, time_within, steady_whole}
use Rattle.curve_call.proofs.CallTimes.{first_stands}
use Rattle.curve_call.proofs.FrameFacts.{FrameFacts, frame_facts}
use Rattle.curve_call.proofs.Operands.{some_end, unrolled_pieces}
use Rattle.curve_call.proofs.CurveRises.{IsRise, rise_is, own_whole}
use Rattle.curve_call.proofs.Answering.{answer_relation}
use Rattle.plain_operators.specs.pointwise.Shifting.{left_line, left_piece, moved_left, LeftFits}
use Rattle.plain_operators.proofs.pointwise.LeftWindow.{left_reads, left_starts, each_past, each_moved}
use Rattle.upp_normal.specs.Ahead.{GridValue, IsTimeIn}
use Rattle.upp_curve.proofs.SteadyTimes.{steady_nonneg}

-- the piece at x can be read there
pub here_fits : (x : ℚ) (ps : List Piece) (here : Piece) → StartsAtZero ps → Each (LeftFits x) ps → ((p : Piece) (qs : List Piece) → ps ≡ p ∷ qs → here ≡ piece_in p qs x) → LineFitsAt x here.line
here_fits x [] here starts fits is = absurd starts
here_fits x (p ∷ qs) here starts fits is = subst (λ (q : Piece). LineFitsAt x q.line) (sym (is p qs refl)) (each_in (LeftFits x) p qs x fits).line

-- ---- what the frame gives
pub record ShiftCall (x : ℚ) (f : SpecCurve) (r : Frame) (z : Sizes) : Type 0 where
  pub is : IsCurve f
  pub facts : FrameFacts (Shift (Fin x)) f f r z
  pub stands : Stands z (curve_numbers r.end f)
  pub by : Whole z.dt x
  pub low : int (pos 0) ≤ℚ x
  pub before : x <ℚ r.end
  pub start : r.start -ℚ x ≡ steady f
  pub ends : r.end ≡ steady f +ℚ r.period +ℚ x
  pub periods : IsWholePeriods f.tail r.period
  pub rise : IsRise z f r.period

pub shift_call : (x : ℚ) (f : SpecCurve) (r : Frame) → int (pos 0) ≤ℚ x → IsFrame (Shift (Fin x)) f f 0 0 r → ShiftCall x f r (sizes_at (Shift (Fin x)) f f 0 0)
unfolding window_at
shift_call x f r low h =
    let op : OpKind = Shift (Fin x) in
    let z = sizes_at op f f 0 0 in
    let facts = frame_facts op f f 0 0 r low h in
    let stands = first_stands op z r.end f f facts.stands in
    let p = facts.period in
    let s = steady f in
    let some = steady_nonneg f h.first in
    let above = p.above in
    let q = r.period in
    let e = h.start in
    let ends : r.end ≡ s +ℚ q +ℚ x = h.end ∙ ap (λ y. s +ℚ y +ℚ x) (sym h.period) in
    let periods : IsWholePeriods f.tail q = subst (IsWholePeriods f.tail) (sym h.period) (own_whole f h.first) in
    record {
      is = h.first;
      facts = facts;
      stands = stands;
      by = facts.stands.times.0;
      low = low;
      before = subst (λ y. x <ℚ y) (sym ends) (with3 s q x (λ c. omega (arith, c.le, c.lt, c.same)));
      start = let a = r.start in with3 a s x (λ c. omega (arith, c.le, c.lt, c.same));
      ends = ends;
      periods = periods;
      rise = rise_is z r.end f q facts.limited h.first stands periods p.whole p.above (subst (λ y. s +ℚ q ≤ℚ y) (sym ends) (with3 s q x (λ c. omega (arith, c.le, c.lt, c.same))));
    }

-- ---- the steps
back_fits : (x : ℚ) (f : SpecCurve) (r : Frame) (z : Sizes) (a : ℚ) → ShiftCall x f r z → Whole z.dt a → int (pos 0) ≤ℚ a → a ≤ℚ r.end → SumFits a (neg_ℚ x)
back_fits x f r z a h w some l =
    let A = h.facts.limited in
    let g = A.gauge in
    sum_fits z r.end a (neg_ℚ x) A.sizes (narrow_gauge z r.end A.sizes (omega arith)) w (whole_neg z.dt x h.by) (time_within z r.end a A.sizes some l)
    (within_neg _ x (time_within z r.end x A.sizes h.low (le_of_lt h.before)))

pub zero_fits : (x : ℚ) (f : SpecCurve) (r : Frame) (z : Sizes) → ShiftCall x f r z → SumFits x (neg_ℚ x)
zero_fits x f r z h = back_fits x f r z x h h.by h.low (le_of_lt h.before)

pub start_fits : (x : ℚ) (f : SpecCurve) (r : Frame) (z : Sizes) → ShiftCall x f r z → SumFits r.start (neg_ℚ x)
start_fits x f r z h = back_fits x f r z r.start h h.facts.start.whole h.facts.start.nonneg h.facts.early.start

pub window_pieces : (x : ℚ) (f : SpecCurve) (r : Frame) (z : Sizes) (ls : List Piece) → ShiftCall x f r z → ls ≡ unroll f r.end → OperandPieces z r.end ls
window_pieces x f r z ls h e = unrolled_pieces z r.end f ls h.is h.facts.limited (some_end (Shift (Fin x)) f f r z h.facts) h.stands e

pub pieces_fit : (x : ℚ) (f : SpecCurve) (r : Frame) (z : Sizes) (ls : List Piece) → ShiftCall x f r z → ls ≡ unroll f r.end → Each (LeftFits x) ls
pieces_fit x f r z ls h e =
    each_map (OperandPiece z r.end) (LeftFits x)
    (λ p k. record { start = back_fits x f r z p.x h k.start k.nonneg (le_of_lt k.before); line = operand_line_fits z r.end x p.line h.facts.limited k.line h.by h.low (le_of_lt h.before) })
    ls (window_pieces x f r z ls h e).each

-- ---- the moved pieces have room
record LeftRoom (z : Sizes) (end far : ℚ) (q : Piece) : Type 0 where
  room : PieceHasRoom (answer_room z end) 1 q
  on : PieceOn z.dt z.ds (grid_of z) q
  before : q.x <ℚ far

left_line_room : (z : Sizes) (end x : ℚ) (l : Option Line) → AreLimited z end → OperandLineAt z l → Whole z.dt x → int (pos 0) ≤ℚ x → x ≤ℚ end
    → LineHasRoom (answer_room z end) 1 (left_line x l) × LineOn z.ds (grid_of z) (left_line x l)
left_line_room z end x None A L on low early = (tt, tt)
left_line_room z end x (Some l) A L on low early =
    let V = operand_line_value z end x (Some l) A L on low early in
    let O = operand_line z l L in
    (line_in_room z end 3 _ A (omega arith) record { icept = V.whole; within = V.within; slope = O.slope; steep = O.steep }, (V.whole, O.slope))

value_on : (z : Sizes) (v : Ext) → GridValue z v → ValueOn (grid_of z) v
value_on z Inf h = tt
value_on z (Fin v) h = h.whole

left_room : (z : Sizes) (end x : ℚ) (p : Piece) → AreLimited z end → Whole z.dt x → int (pos 0) ≤ℚ x → x ≤ℚ end → Whole z.dt p.x → x ≤ℚ p.x → p.x <ℚ end → GridValue z p.at
    → OperandLineAt z p.line → LeftRoom z end (end -ℚ x) (left_piece x p)
left_room z end x p A wx low early wp late before v l =
    let a = p.x in
    let start : Whole z.dt (a -ℚ x) = whole_sub z.dt a x wp wx in
    let some : int (pos 0) ≤ℚ a -ℚ x = with2 a x (λ c. omega (arith, c.le, c.lt, c.same)) in
    let T = room_at_start z end (a -ℚ x) A start some in
    let line = left_line_room z end x p.line A l wx low early in
    record {
      room = record { time = T; at = operand_value_room z end T.grid p.at T.base v; line = line.0 };
      on = record { start = start; at = value_on z p.at v; line = line.1 };
      before = with3 a x end (λ c. omega (arith, c.le, c.lt, c.same));
    }

left_rooms : (x : ℚ) (f : SpecCurve) (r : Frame) (z : Sizes) (p : Piece) (ps : List Piece) → ShiftCall x f r z → OperandPieces z r.end (p ∷ ps) → Each (LeftRoom z r.end (r.end -ℚ x)) (moved_left x p ps)
left_rooms x f r z p ps h P =
    let A = h.facts.limited in
    let early = le_of_lt h.before in
    let time : IsTimeIn z r.end x = record { whole = h.by; nonneg = h.low; before = h.before } in (
      left_room z r.end x (cut_at p ps x) A h.by h.low early h.by (le_refl x) h.before
          (subst (GridValue z) (read_is p ps x) (operand_read z r.end x (p ∷ ps) A P time)) (operand_line_in z r.end x (p ∷ ps) P),
      each_moved (λ q. OperandPiece z r.end q × (x <ℚ q.x)) (LeftRoom z r.end (r.end -ℚ x)) x (past x ps)
          (λ q k. left_room z r.end x q A h.by h.low early k.0.start (le_of_lt k.1) k.0.before (stands_operand_value z q.at k.0.at) k.0.line) (each_past (OperandPiece z r.end) x ps P.each.1),
    )

-- ---- the answer
shift_at : (x : ℚ) (f : SpecCurve) (r : Frame) (z : Sizes) (p : Piece) (ps ws : List Piece) → ShiftCall x f r z → OperandPieces z r.end (p ∷ ps) → ws ≡ moved_left x p ps
    → IsAnswerWindow ws (steady f) r.period (rise_over f r.period) r.times r.values
shift_at x f r z p ps ws h P e =
    let facts = h.facts in
    let s = steady f in
    let q = r.period in
    let far : r.end -ℚ x ≡ s +ℚ q = let a = r.end in let k = h.ends in with4 a s q x (λ c. omega (arith, c.le, c.lt, c.same)) in
    let some = h.low in
    let ends = h.ends in
    let rooms : Each (LeftRoom z r.end (s +ℚ q)) ws = subst (λ y. Each (LeftRoom z r.end y) ws) far (subst (Each (LeftRoom z r.end (r.end -ℚ x))) (sym e) (left_rooms x f r z p ps h P)) in
    let starts : StartsAtZero ws = subst StartsAtZero (sym e) (left_starts x p ps P.starts) in
    let before : Each (λ w. w.x <ℚ s +ℚ q) ws = each_map (LeftRoom z r.end (s +ℚ q)) (λ w. w.x <ℚ s +ℚ q) (λ w k. k.before) ws rooms in
    let from_whole = steady_whole z r.end f h.stands in
    let nonneg = steady_nonneg f h.is in
    record {
      sizes = z;
      end = r.end;
      limited = facts.limited;
      times_is = facts.times;
      values_is = facts.values;
      starts = starts;
      before = before;
      room = each_map (LeftRoom z r.end (s +ℚ q)) (PieceHasRoom (answer_room z r.end) 1) (λ w k. k.room) ws rooms;
      from_whole = from_whole;
      nonneg = nonneg;
      period_whole = facts.period.whole;
      above = facts.period.above;
      early = subst (λ y. s +ℚ q ≤ℚ y) (sym ends) (with3 s q x (λ c. omega (arith, c.le, c.lt, c.same)));
      rise_whole = h.rise.whole;
      rise_within = within_weaken _ _ _ (more_largest z 3 8 (omega arith)) h.rise.within;
      grids = raw_on z.dt z.ds (grid_of z) ws s q (rise_over f q) (nested z) starts record { nonneg = nonneg; some = facts.period.above; starts = before }
          (each_map (LeftRoom z r.end (s +ℚ q)) (PieceOn z.dt z.ds (grid_of z)) (λ w k. k.on) ws rooms) from_whole facts.period.whole h.rise.whole;
    }
  where
    swapped : (s t : ℕ) → s * t ≡ t * s
    swapped s t = omega arith

    nested : (z : Sizes) → z.dt * z.ds ∣ grid_of z
    nested z = subst (λ n. n ∣ grid_of z) (swapped z.ds z.dt) (slope_time_divides z)

-- what the code makes of the window's pieces ls
abbrev pub IsLeftOf : ℚ → List Piece → List Piece → Type 0
IsLeftOf x ls ws = (p : Piece) (ps : List Piece) → ls ≡ p ∷ ps → ws ≡ moved_left x p ps

pub shift_answer : (x : ℚ) (f : SpecCurve) (r : Frame) (z : Sizes) (ls ws : List Piece) (from rise : ℚ) → ShiftCall x f r z → OperandPieces z r.end ls → IsLeftOf x ls ws
    → from ≡ r.start -ℚ x → rise ≡ rise_over f r.period → IsAnswerWindow ws from r.period rise r.times r.values
shift_answer x f r z [] ws from rise h P m ef er = absurd P.starts
shift_answer x f r z (p ∷ ps) ws from rise h P m ef er =
    subst (λ y. IsAnswerWindow ws y r.period rise r.times r.values) (sym (ef ∙ h.start))
    (subst (λ y. IsAnswerWindow ws (steady f) r.period y r.times r.values) (sym er) (shift_at x f r z p ps ws h P (m p ps refl)))

-- ---- its values
again : (t d x : ℚ) → t +ℚ x +ℚ d ≡ t +ℚ d +ℚ x
again t d x = with3 t d x (λ c. omega (arith, c.le, c.lt, c.same))

shift_reads : (x : ℚ) (f : SpecCurve) (r : Frame) (z : Sizes) (ls ws : List Piece) (t : ℚ) → ShiftCall x f r z → ls ≡ unroll f r.end → OperandPieces z r.end ls → IsLeftOf x ls ws
    → int (pos 0) ≤ℚ t → t <ℚ steady f +ℚ r.period → read ws t ≡ value_at f (t +ℚ x)
shift_reads x f r z [] ws t h e P m low early = absurd P.starts
shift_reads x f r z (p ∷ ps) ws t h e P m low early =
    let some = h.low in
    let s = steady f in
    let q = r.period in
    let ends = h.ends in
    let before : t +ℚ x <ℚ r.end = subst (λ y. t +ℚ x <ℚ y) (sym ends) (with4 t x s q (λ c. omega (arith, c.le, c.lt, c.same))) in
    ap (λ us. read us t) (m p ps refl) ∙ left_reads x t p ps P.starts h.low low ∙ ap (λ us. read us (t +ℚ x)) e
    ∙ unroll_reads f r.end (t +ℚ x) h.is.normal (with2 t x (λ c. omega (arith, c.le, c.lt, c.same))) before

pub shift_values : (x : ℚ) (f : SpecCurve) (r : Frame) (z : Sizes) (ls ws : List Piece) (from rise : ℚ) (c : SpecCurve) → ShiftCall x f r z → ls ≡ unroll f r.end → IsLeftOf x ls ws
    → from ≡ r.start -ℚ x → rise ≡ rise_over f r.period → HasValues c (repeated (read ws) from r.period rise) → (t : ℚ) → int (pos 0) ≤ℚ t → IsShift (value_at f) (Fin x) t (value_at c t)
shift_values x f r z ls ws from rise c h e m ef er same =
    let p = h.facts.period in
    let some = h.low in
    let at : from ≡ steady f = ef ∙ h.start in
    let rule = steady_rule f r.period h.is.normal.raw h.periods (le_of_lt p.above) in
    answer_relation (IsShift (value_at f) (Fin x)) c (read ws) from r.period rise same (subst (λ y. int (pos 0) ≤ℚ y) (sym at) (steady_nonneg f h.is)) p.above
    (λ t low early. shift_reads x f r z ls ws t h e (window_pieces x f r z ls h e) m low (subst (λ y. t <ℚ y +ℚ r.period) at early))
    (λ t v late k.
    let l : steady f ≤ℚ t = subst (λ y. y ≤ℚ t) at late in
    let s = steady f in
    ap₂ (λ (w : Ext) (y : ℚ). w +ₑ Fin y) k er ∙ sym (rule.rule (t +ℚ x) (with3 s t x (λ c. omega (arith, c.le, c.lt, c.same)))) ∙ ap (value_at f) (again t r.period x))
