-- The sizes and the times of a call for what is left, and how what is left repeats.
use Rattle.std.specs.Prelude.{◌≡◌, ℕ, suc, ◌+◌, ◌<◌, ◌^◌, pos, ◌⊎◌}
use Rattle.std.proofs.Common.{arith, sym, ap, ◌∙◌, refl, subst, inl, inr}
use Rattle.rational.specs.Rational.{ℚ, ◌+ℚ◌, ◌-ℚ◌, ◌*ℚ◌, ◌≤ℚ◌, ◌<ℚ◌, int}
use Rattle.rational.specs.Extended.{Ext, ◌≤ₑ◌, ◌<ₑ◌, ◌+ₑ◌}
use Rattle.rational.specs.declared.Extended.TheVariants.{Fin}
use Rattle.rational.proofs.Linear.{with2, with3, with4, with5}
use Rattle.rational.proofs.Laws.{le_trans, le_of_lt, lt_irrefl, lt_le_trans, le_lt_trans, mul_nonneg, mul_le_mul}
use Rattle.rational.proofs.Integers.{nat_nonneg}
use Rattle.rational.proofs.Whole.{one_more_times}
use Rattle.rational.proofs.MinMax.{max_q_ge_left, max_q_ge_right}
use Rattle.rational.proofs.ExtendedOrder.{add_le_ext}
use Rattle.upp_limits.specs.declared.op_kind.OpKind.{OpKind}
use Rattle.upp_limits.specs.declared.op_kind.OpKind.TheVariants.{FifoLeft}
use Rattle.upp_curve.specs.Curve.{SpecCurve, value_at}
use Rattle.upp_curve.specs.Curves.{IsCurve}
use Rattle.min_plus.specs.Functions.{zero_q}
use Rattle.upp_curve.specs.Steady.{Repeats, steady, rate, rise_over}
use Rattle.upp_limits.specs.Periods.{common_period, moved_steady, periods_after}
use Rattle.min_plus.specs.Pointwise.{excess}
use Rattle.min_plus.specs.Running.{left_after}
use Rattle.upp_limits.specs.Windows.{window_at, IsBelowFor}
use Rattle.upp_limits.specs.Limits.{Sizes, sizes_of}
use Rattle.upp_limits.specs.Gauges.{numbers_over, gauge_over, gauge_at}
use Rattle.upp_curve.specs.Unrolled.{unroll}
use Rattle.upp_normal.specs.Operand.{OperandPieces}
use Rattle.upp_normal.proofs.Below.{unroll_reads}
use Rattle.upp_limits.proofs.CurveStands.{are_sizes}
use Rattle.upp_curve.proofs.Repeats.{repeats_times}
use Rattle.upp_limits.proofs.Stands.{sizes_stand}
use Rattle.upp_curve.proofs.Steady.{steady_rule}
use Rattle.upp_normal.proofs.UnrolledPieces.{operand_pieces, unroll_starts}
use Rattle.curve_call.specs.Frames.{sizes_at}
use Rattle.curve_call.proofs.CallTimes.{first_stands, second_stands, IsCall, start_on, period_on, window_is}
use Rattle.curve_call.proofs.CallFits.{call_early}
use Rattle.curve_call.proofs.CurveRises.{IsRise, rise_is, common_first, common_second}
use Rattle.curve_call.proofs.LeastNumber.{gains}
use Rattle.curve_call.proofs.MostAbove.{moved_back}
use Rattle.curve_call.proofs.TailMoves.{rates_compared, excess_above, excess_both}
use Rattle.plain_operators.specs.running.Behind.{moved, IsServed}
use Rattle.plain_operators.specs.running.LeftCall.{LeftCall}
use Rattle.plain_operators.specs.running.Moved.{moved_right}
use Rattle.plain_operators.proofs.running.LeftReads.{IsLeftOf}
use Rattle.plain_operators.proofs.running.MovedReads.{moved_past, moved_up_to}
use Rattle.plain_operators.proofs.running.Served.{no_faster, other_finite}
use Rattle.plain_operators.proofs.pointwise.LatticeAnswers.{same_rises}
use Rattle.plain_operators.proofs.pointwise.LatticeCalls.{earlier}
use Rattle.curve_call.proofs.FiniteAnswers.{late_left}
use Rattle.upp_curve.proofs.SteadyTimes.{steady_nonneg}
use Rattle.upp_normal.specs.Ahead.{AnswerValue}

-- ---- from a kind of call
pub left_call : (f g : SpecCurve) (theta : ℚ) (k : ℕ) → IsCurve f → IsCurve g → zero_q ≤ℚ theta → gauge_at (FifoLeft (Fin theta)) f g k 0 < 2 ^ 120
    → LeftCall f g theta (moved_steady f g theta) (common_period f g) (window_at (FifoLeft (Fin theta)) f g k 0) k (sizes_at (FifoLeft (Fin theta)) f g k 0)
unfolding gauge_over
left_call f g theta k F G low small =
    let op : OpKind = FifoLeft (Fin theta) in
    let end = window_at op f g k 0 in
    let n = numbers_over op f g end in
    let z = sizes_of end n in
    let stands = sizes_stand end n in
    let call : IsCall op f g z end = record { first = F; second = G; forward = low; stands = stands } in
    let start = start_on op f g z end call in
    let period = period_on op f g z end call in
    let early = call_early op f g k 0 z end call in
    record {
      first = F;
      second = G;
      limited = record { sizes = are_sizes end n; gauge = small; some = le_trans start.nonneg early.start };
      left = first_stands op z end f g stands;
      right = second_stands op z end f g stands;
      theta_whole = stands.times.0;
      theta_low = low;
      start_whole = start.whole;
      nonneg = start.nonneg;
      left_steady = max_q_ge_left (steady f) (steady g +ℚ theta);
      right_steady = max_q_ge_right (steady f) (steady g +ℚ theta);
      period_whole = period.whole;
      above = period.above;
      left_periods = common_first f g F G;
      right_periods = common_second f g F G;
      ends = window_is op f g k 0;
    }

-- the same times under other names
pub at_times : (f g : SpecCurve) (theta s p e start period end : ℚ) (k : ℕ) (z : Sizes) → LeftCall f g theta s p e k z → start ≡ s → period ≡ p → end ≡ e → LeftCall f g theta start period end k z
at_times f g theta s p e start period end k z L a b c =
    subst (λ x. LeftCall f g theta x period end k z) (sym a) (subst (λ y. LeftCall f g theta s y end k z) (sym b) (subst (λ w. LeftCall f g theta s p w k z) (sym c) L))

-- ---- its times
-- the time from which on the answer repeats is one period past that from which on the two curves are in order
pub record LeftTimes (theta s p e : ℚ) (k : ℕ) : Type 0 where
  pub run : ℚ
  pub run_is : run ≡ int (pos k) *ℚ p
  pub run_low : zero_q ≤ℚ run
  pub ends : e ≡ s +ℚ run +ℚ p +ℚ p
  pub late : theta ≤ℚ s
  pub low : zero_q ≤ℚ s
  pub theta_low : zero_q ≤ℚ theta
  pub some : zero_q <ℚ p

pub left_times : (f g : SpecCurve) (theta s p e : ℚ) (k : ℕ) (z : Sizes) → LeftCall f g theta s p e k z → LeftTimes theta s p e k
left_times f g theta s p e k z L =
    let run = int (pos k) *ℚ p in
    let n : k + 2 ≡ suc (suc k) = omega arith in
    let two : int (pos (k + 2)) *ℚ p ≡ run +ℚ p +ℚ p = ap (λ m. int (pos m) *ℚ p) n ∙ one_more_times (suc k) p ∙ ap (λ y. y +ℚ p) (one_more_times k p) in
    let begin = steady_nonneg g L.second in
    let right = L.right_steady in
    let first = steady g in
    record {
      run = run;
      run_is = refl;
      run_low = mul_nonneg (nat_nonneg k) (le_of_lt L.above);
      ends = L.ends ∙ ap (λ y. s +ℚ y) two ∙ with3 s run p (λ c. omega (arith, c.le, c.lt, c.same));
      late = with3 first theta s (λ c. omega (arith, c.le, c.lt, c.same));
      low = L.nonneg;
      theta_low = L.theta_low;
      some = L.above;
    }

pub from_past : (theta s p e : ℚ) (k : ℕ) → LeftTimes theta s p e k → theta <ℚ e -ℚ p
from_past theta s p e k T =
    let run = T.run in
    let a = T.run_low in
    let b = T.ends in
    let l = T.late in
    let m = T.some in
    with5 theta s p e run (λ c. omega (arith, c.le, c.lt, c.same))

pub theta_before : (theta s p e : ℚ) (k : ℕ) → LeftTimes theta s p e k → theta <ℚ e
theta_before theta s p e k T =
    let past = from_past theta s p e k T in
    let some = T.some in
    with3 theta p e (λ c. omega (arith, c.le, c.lt, c.same))

pub period_early : (theta s p e : ℚ) (k : ℕ) → LeftTimes theta s p e k → p ≤ℚ e
period_early theta s p e k T =
    let run = T.run in
    let a = T.run_low in
    let b = T.ends in
    let l = T.low in
    let m = T.some in
    with4 s p e run (λ c. omega (arith, c.le, c.lt, c.same))

pub start_early : (theta s p e : ℚ) (k : ℕ) → LeftTimes theta s p e k → s +ℚ p ≤ℚ e
start_early theta s p e k T =
    let run = T.run in
    let a = T.run_low in
    let b = T.ends in
    let m = T.some in
    with4 s p e run (λ c. omega (arith, c.le, c.lt, c.same))

pub end_some : (theta s p e : ℚ) (k : ℕ) → LeftTimes theta s p e k → zero_q <ℚ e
end_some theta s p e k T = le_lt_trans T.theta_low (theta_before theta s p e k T)

-- ---- sizes
pub left_pieces : (f g : SpecCurve) (theta s p e : ℚ) (k : ℕ) (z : Sizes) → LeftCall f g theta s p e k z → OperandPieces z e (unroll f e)
left_pieces f g theta s p e k z L = operand_pieces z e f L.first L.limited (end_some theta s p e k (left_times f g theta s p e k z L)) L.left

right_by : (f g : SpecCurve) (theta s p e : ℚ) (k : ℕ) (z : Sizes) → LeftCall f g theta s p e k z → steady g ≤ℚ s
right_by f g theta s p e k z L = let r = L.right_steady in let low = L.theta_low in let x = steady g in with3 x theta s (λ c. omega (arith, c.le, c.lt, c.same))

pub left_rise : (f g : SpecCurve) (theta s p e : ℚ) (k : ℕ) (z : Sizes) → LeftCall f g theta s p e k z → IsRise z f p
left_rise f g theta s p e k z L =
    rise_is z e f p L.limited L.first L.left L.left_periods L.period_whole L.above (earlier (steady f) s p e L.left_steady (start_early theta s p e k (left_times f g theta s p e k z L)))

pub right_rise : (f g : SpecCurve) (theta s p e : ℚ) (k : ℕ) (z : Sizes) → LeftCall f g theta s p e k z → IsRise z g p
right_rise f g theta s p e k z L =
    rise_is z e g p L.limited L.second L.right L.right_periods L.period_whole L.above (earlier (steady g) s p e (right_by f g theta s p e k z L) (start_early theta s p e k (left_times f g theta s p e k z L)))

pub rise_sum : (z : Sizes) (c : SpecCurve) (p : ℚ) → IsRise z c p → AnswerValue z 3 (rise_over c p)
rise_sum z c p R = record { whole = R.whole; within = R.within }

-- ---- how the two repeat
pub left_moves : (f g : SpecCurve) (theta s p e : ℚ) (k : ℕ) (z : Sizes) → LeftCall f g theta s p e k z → Repeats (value_at f) s p (rise_over f p)
left_moves f g theta s p e k z L = record { rule = λ t h. (steady_rule f p L.first.normal.raw L.left_periods (le_of_lt L.above)).rule t (le_trans L.left_steady h) }

pub right_moves : (f g : SpecCurve) (theta s p e : ℚ) (k : ℕ) (z : Sizes) → LeftCall f g theta s p e k z → Repeats (value_at g) s p (rise_over g p)
right_moves f g theta s p e k z L =
    record { rule = λ t h. (steady_rule g p L.second.normal.raw L.right_periods (le_of_lt L.above)).rule t (le_trans (right_by f g theta s p e k z L) h) }

pub moved_moves : (f g : SpecCurve) (theta s p e : ℚ) (k : ℕ) (z : Sizes) → LeftCall f g theta s p e k z → Repeats (moved (value_at g) theta) s p (rise_over g p)
moved_moves f g theta s p e k z L = record {
  rule = λ t h.
      let r = L.right_steady in
      let x = steady g in
      let same : (t +ℚ p) -ℚ theta ≡ (t -ℚ theta) +ℚ p = with3 t p theta (λ c. omega (arith, c.le, c.lt, c.same)) in
      ap (value_at g) same ∙ (steady_rule g p L.second.normal.raw L.right_periods (le_of_lt L.above)).rule (t -ℚ theta) (with4 x theta s t (λ c. omega (arith, c.le, c.lt, c.same)));
}

-- the one that is served rises by no more over a period
pub rises_less : (f g : SpecCurve) (theta s p e : ℚ) (k : ℕ) (z : Sizes) → LeftCall f g theta s p e k z → IsServed (value_at f) (value_at g) theta → rise_over g p ≤ℚ rise_over f p
rises_less f g theta s p e k z L S =
    no_faster (value_at f) (value_at g) theta s p (rise_over f p) (rise_over g p) S L.nonneg (le_of_lt L.above) (left_moves f g theta s p e k z L) (right_moves f g theta s p e k z L)

pub not_slower : (f g : SpecCurve) (theta s p e : ℚ) (k : ℕ) (z : Sizes) → LeftCall f g theta s p e k z → IsServed (value_at f) (value_at g) theta → ¬ (rate f <ₑ rate g)
not_slower f g theta s p e k z L S h =
    let less = rises_less f g theta s p e k z L S in
    let (v, e') = other_finite (value_at f) (value_at g) theta S s L.nonneg in
    let a = rise_over f p in
    let b = rise_over g p in
    let gain = gains f g p s v L.second L.above h (right_by f g theta s p e k z L) e' in
    lt_irrefl zero_q (with2 a b (λ c. omega (arith, c.le, c.lt, c.same)))

-- it is the slower one, or the two rise alike
pub slower_or_same : (f g : SpecCurve) (theta s p e : ℚ) (k : ℕ) (z : Sizes) → LeftCall f g theta s p e k z → IsServed (value_at f) (value_at g) theta
    → (rate g <ₑ rate f) ⊎ (rise_over f p ≡ rise_over g p)
slower_or_same f g theta s p e k z L S = elim (rates_compared (rate f) (rate g)) [
  | inl h ↦ absurd (not_slower f g theta s p e k z L S h)
  | inr (inl h) ↦ inr (same_rises f g p h)
  | inr (inr h) ↦ inl h
]

pub lead_some : (f g : SpecCurve) (theta s p e : ℚ) (k : ℕ) (z : Sizes) → LeftCall f g theta s p e k z → IsServed (value_at f) (value_at g) theta → rate g <ₑ rate f
    → zero_q <ℚ rise_over f p -ℚ rise_over g p
lead_some f g theta s p e k z L S h = let (v, e') = S.finite s L.nonneg in gains g f p s v L.first L.above h L.left_steady e'

-- ---- below for a period, below ever after
pub below_ever : (slow fast : ℚ → Ext) (from d a b start t : ℚ) → zero_q <ℚ d → b ≤ℚ a → Repeats slow from d b → Repeats fast from d a → from ≤ℚ start → IsBelowFor slow fast start d → start ≤ℚ t
    → slow t ≤ₑ fast t
below_ever slow fast from d a b start t some less F G low below h =
    let B = moved_back fast start d a t some record { rule = λ s k. G.rule s (le_trans low k) } h in
    let u = B.early in
    let n = B.number in
    let na = int (pos n) *ℚ a in
    let nb = int (pos n) *ℚ b in
    let slow_is : slow t ≡ slow u +ₑ Fin nb = ap slow (sym B.back) ∙ (repeats_times slow from d b n (le_of_lt some) F).rule u (le_trans low B.among.start) in
    subst (λ v. v ≤ₑ fast t) (sym slow_is) (subst (λ v. slow u +ₑ Fin nb ≤ₑ v) (sym B.is)
    (add_le_ext (slow u) (fast u) (Fin nb) (Fin na) (below u B.among.start B.among.before) (mul_le_mul (int (pos n)) (nat_nonneg n) less)))

-- ---- what is left repeats
pub left_repeats : (f g : SpecCurve) (theta s p e : ℚ) (k : ℕ) (z : Sizes) → LeftCall f g theta s p e k z → IsServed (value_at f) (value_at g) theta
    → (rate g <ₑ rate f → IsBelowFor (moved (value_at g) theta) (value_at f) (periods_after s k p) p)
    → Repeats (left_after (value_at f) (value_at g) theta) (e -ℚ p) p (rise_over f p -ℚ rise_over g p)
left_repeats f g theta s p e k z L S enough = record { rule = rule }
  where
    a : ℚ
    a = rise_over f p

    b : ℚ
    b = rise_over g p

    T : LeftTimes theta s p e k
    T = left_times f g theta s p e k z L

    F : ℚ → Ext
    F = value_at f

    G : ℚ → Ext
    G = moved (value_at g) theta

    ordered : rate g <ₑ rate f → (t : ℚ) → e -ℚ p ≤ℚ t → G t ≤ₑ F t
    ordered h t late =
        let run = T.run in
        let r = T.run_low in
        let ends = T.ends in
        let m = T.some in
        let at = ap (λ y. s +ℚ y) (T.run_is) in
        let start = s +ℚ run in
        below_ever G F s p a b start t L.above (rises_less f g theta s p e k z L S) (moved_moves f g theta s p e k z L) (left_moves f g theta s p e k z L)
        (with2 s run (λ c. omega (arith, c.le, c.lt, c.same))) (subst (λ y. IsBelowFor G F y p) (sym at) (enough h)) (with5 s run p e t (λ c. omega (arith, c.le, c.lt, c.same)))

    rule : (t : ℚ) → e -ℚ p ≤ℚ t → left_after (value_at f) (value_at g) theta (t +ℚ p) ≡ left_after (value_at f) (value_at g) theta t +ₑ Fin (a -ℚ b)
    rule t late =
        let past = from_past theta s p e k T in
        let here : theta <ℚ t = lt_le_trans past late in
        let some = T.some in
        let there : theta <ℚ t +ℚ p = with3 theta t p (λ c. omega (arith, c.le, c.lt, c.same)) in
        let run = T.run in
        let r = T.run_low in
        let ends = T.ends in
        let begun : s ≤ℚ t = with5 s run p e t (λ c. omega (arith, c.le, c.lt, c.same)) in
        let later : e -ℚ p ≤ℚ t +ℚ p = with3 e p t (λ c. omega (arith, c.le, c.lt, c.same)) in
        let (x, is) = S.finite t (le_trans L.nonneg begun) in
        let first : F (t +ℚ p) ≡ F t +ₑ Fin a = (left_moves f g theta s p e k z L).rule t begun in
        let second : G (t +ℚ p) ≡ G t +ₑ Fin b = (moved_moves f g theta s p e k z L).rule t begun in
        let moves : excess (F t) (G t) +ₑ Fin (a -ℚ b) ≡ excess (F (t +ℚ p)) (G (t +ℚ p)) = elim (slower_or_same f g theta s p e k z L S) [
          | inl h ↦
              subst (λ v. excess v (G t) +ₑ Fin (a -ℚ b) ≡ excess (F (t +ℚ p)) (G (t +ℚ p))) (sym is)
              (excess_above x (G t) (F (t +ℚ p)) (G (t +ℚ p)) a b (subst (λ v. F (t +ℚ p) ≡ v +ₑ Fin a) is first) second (subst (λ v. G t ≤ₑ v) is (ordered h t late)) (ordered h (t +ℚ p) later))
          | inr h ↦
              subst (λ y. excess (F t) (G t) +ₑ Fin y ≡ excess (F (t +ℚ p)) (G (t +ℚ p))) (sym (with2 a b (λ c. omega (arith, c.le, c.lt, c.same))))
              (excess_both (F t) (G t) (F (t +ℚ p)) (G (t +ℚ p)) a first (second ∙ ap (λ y. G t +ₑ Fin y) (sym h)))
        ] in
        late_left (value_at f) (value_at g) theta (t +ℚ p) there ∙ sym moves ∙ ap (λ v. v +ₑ Fin (a -ℚ b)) (sym (late_left (value_at f) (value_at g) theta t here))

-- ---- what is read in the window
pub left_of : (f g : SpecCurve) (theta s p e : ℚ) (k : ℕ) (z : Sizes) → LeftCall f g theta s p e k z → IsServed (value_at f) (value_at g) theta
    → IsLeftOf (value_at f) (value_at g) theta e (unroll f e) (moved_right theta e (unroll g e))
left_of f g theta s p e k z L S =
    let T = left_times f g theta s p e k z L in
    let starts = unroll_starts g e (end_some theta s p e k T) L.second.normal in
    let low = T.theta_low in
    record {
      served = S;
      left = λ t h l. unroll_reads f e t L.first.normal h l;
      early = λ t h l m. moved_up_to theta e t (unroll g e) starts (theta_before theta s p e k T) h l;
      late = λ t h l.
          moved_past theta e t (unroll g e) starts h l
          ∙ unroll_reads g e (t -ℚ theta) L.second.normal (with2 theta t (λ c. omega (arith, c.le, c.lt, c.same))) (with3 theta t e (λ c. omega (arith, c.le, c.lt, c.same)));
    }
