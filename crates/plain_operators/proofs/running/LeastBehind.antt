-- The least number of periods after which the one that is served is nowhere above the service, from how far it is above at its worst and
-- how much the service gains in a period.
use Rattle.std.specs.Prelude.{◌≡◌, ℕ, pos, ◌⊎◌}
use Rattle.std.proofs.Common.{arith, sym, ◌∙◌, subst, inl, inr}
use Rattle.rational.specs.Rational.{ℚ, ◌+ℚ◌, ◌-ℚ◌, ◌*ℚ◌, ◌/ℚ◌, ◌≤ℚ◌, ◌<ℚ◌, neg_ℚ, int}
use Rattle.rational.specs.Ratio.{IsSmall, SumFits}
use Rattle.rational.specs.Gauge.{size_up}
use Rattle.rational.specs.Extended.{Ext, ◌≤ₑ◌, ◌<ₑ◌, ◌+ₑ◌}
use Rattle.rational.specs.declared.Extended.TheVariants.{Fin, Inf}
use Rattle.rational.proofs.Linear.{with1, with2, with3, with4, with5}
use Rattle.rational.proofs.Laws.{le_or_lt, le_trans, le_of_lt, lt_irrefl, mul_nonneg}
use Rattle.rational.proofs.Integers.{nat_nonneg}
use Rattle.rational.proofs.ExtendedOrder.{add_le_ext, le_ext_refl, le_ext_trans}
use Rattle.upp_limits.specs.declared.op_kind.OpKind.TheVariants.{FifoLeft}
use Rattle.upp_curve.specs.Curve.{SpecCurve, value_at}
use Rattle.min_plus.specs.Functions.{zero_q}
use Rattle.upp_curve.specs.Steady.{Repeats, steady, rate, rise_over}
use Rattle.upp_limits.specs.Periods.{common_period, moved_steady, periods_after}
use Rattle.upp_limits.specs.Windows.{IsBelowFor, IsLeast, Meets}
use Rattle.upp_limits.specs.Limits.{Sizes, curve_numbers}
use Rattle.upp_limits.specs.Sized.{Stands}
use Rattle.upp_normal.specs.Operand.{AreLimited}
use Rattle.curve_call.specs.Rises.{CurveRiseFits}
use Rattle.upp_normal.specs.Ahead.{HasWindow}
use Rattle.curve_call.specs.Frames.{sizes_at}
use Rattle.curve_call.specs.declared.windows.CallWindow.{CallWindow}
use Rattle.curve_call.specs.Compared.{RepeatsIn}
use Rattle.curve_call.specs.Gaps.{InWindow, IsWithin}
use Rattle.curve_call.specs.GapSteps.{IsGapValue}
use Rattle.curve_call.proofs.LeastNumber.{number_fits, number_least}
use Rattle.curve_call.proofs.RateRises.{has_window}
use Rattle.curve_call.proofs.Shifts.{below_in, below_out, same_least, least_zero}
use Rattle.plain_operators.specs.running.Behind.{moved, IsBehindCall, IsBehindAt, IsMostBehind, IsMost}
use Rattle.plain_operators.specs.running.LeftCall.{LeftCall, IsLeftGate}
use Rattle.plain_operators.proofs.running.LeftCalls.{left_call, at_times, LeftTimes, left_times, left_rise, right_rise, left_moves, moved_moves, rises_less, not_slower, slower_or_same, lead_some}
use Rattle.plain_operators.proofs.running.Served.{theta_nonneg}
use Rattle.plain_operators.proofs.running.SumSizes.{sums_fit}

-- ---- the first window
pub gate_sizes : SpecCurve → SpecCurve → ℚ → Sizes
gate_sizes f g theta = sizes_at (FifoLeft (Fin theta)) f g 0 0

pub gate_call : (f g : SpecCurve) (theta : ℚ) (w : CallWindow) → IsLeftGate f g theta w → LeftCall f g theta w.start w.period w.end 0 (gate_sizes f g theta)
unfolding gate_sizes
gate_call f g theta w G =
    let W = G.first.window in
    let L = left_call f g theta 0 G.curve G.other (theta_nonneg (value_at f) (value_at g) theta G.served) G.first.gauge in
    at_times f g theta _ _ _ w.start w.period w.end 0 (gate_sizes f g theta) L W.start W.period W.end

-- it ends two periods after the start
pub record GateTimes (s p e : ℚ) : Type 0 where
  pub two : e ≡ s +ℚ p +ℚ p
  pub some : zero_q <ℚ p

pub gate_times : (theta s p e : ℚ) → LeftTimes theta s p e 0 → GateTimes s p e
gate_times theta s p e T =
    let run = T.run in
    let none : run ≡ zero_q = T.run_is ∙ with1 p (λ c. omega (arith, c.le, c.lt, c.same)) in
    let ends = T.ends in
    record { two = with4 s p e run (λ c. omega (arith, c.le, c.lt, c.same)); some = T.some }

late_window : (z : Sizes) (s p e : ℚ) (c : SpecCurve) (f g : SpecCurve) (theta : ℚ) → LeftCall f g theta s p e 0 z → RepeatsIn z (e -ℚ p) p c → HasWindow z e c
late_window z s p e c f g theta L R =
    let same : (e -ℚ p) +ℚ p ≡ e = with2 e p (λ c. omega (arith, c.le, c.lt, c.same)) in
    subst (λ x. HasWindow z x c) same (has_window z (e -ℚ p) p c R.curve (subst (AreLimited z) (sym same) L.limited) L.above R)

pub behind_call : (f g : SpecCurve) (theta : ℚ) (w : CallWindow) → IsLeftGate f g theta w → IsBehindCall (gate_sizes f g theta) f g theta w.start w.end
behind_call f g theta w G =
    let L = gate_call f g theta w G in
    let z = gate_sizes f g theta in
    let s = w.start in
    let p = w.period in
    let e = w.end in
    let T = left_times f g theta s p e 0 z L in
    let D = gate_times theta s p e T in
    let two = D.two in
    let some = D.some in
    let same : e ≡ (e -ℚ p) +ℚ p = with2 e p (λ c. omega (arith, c.le, c.lt, c.same)) in
    let a = steady f in
    let b = steady g in
    let left = L.left_steady in
    let right = L.right_steady in
    let low = T.theta_low in
    record {
      served = G.served;
      first = late_window z s p e f f g theta L record {
        curve = L.first;
        stands = subst (λ x. Stands z (curve_numbers x f)) same L.left;
        steady_by = with4 a s p e (λ c. omega (arith, c.le, c.lt, c.same));
        periods = L.left_periods;
      };
      second = late_window z s p e g f g theta L record {
        curve = L.second;
        stands = subst (λ x. Stands z (curve_numbers x g)) same L.right;
        steady_by = with5 b theta s p e (λ c. omega (arith, c.le, c.lt, c.same));
        periods = L.right_periods;
      };
      time = record { whole = L.start_whole; nonneg = L.nonneg; before = with3 s p e (λ c. omega (arith, c.le, c.lt, c.same)) };
      theta_whole = L.theta_whole;
      theta_low = L.theta_low;
      theta_early = T.late;
    }

-- ---- what the service gains
pub first_fits : (f g : SpecCurve) (theta : ℚ) (w : CallWindow) → IsLeftGate f g theta w → CurveRiseFits f w.period × CurveRiseFits g w.period
first_fits f g theta w G =
    let L = gate_call f g theta w G in
    let z = gate_sizes f g theta in
    ((left_rise f g theta w.start w.period w.end 0 z L).fits, (right_rise f g theta w.start w.period w.end 0 z L).fits)

pub lead_fits : (f g : SpecCurve) (theta : ℚ) (w : CallWindow) → IsLeftGate f g theta w → SumFits (rise_over f w.period) (neg_ℚ (rise_over g w.period))
lead_fits f g theta w G =
    let L = gate_call f g theta w G in
    let z = gate_sizes f g theta in
    let a = left_rise f g theta w.start w.period w.end 0 z L in
    let b = right_rise f g theta w.start w.period w.end 0 z L in
    (sums_fit z w.end 3 3 (rise_over f w.period) (rise_over g w.period) L.limited (omega arith) record { whole = a.whole; within = a.within } record { whole = b.whole; within = b.within }).1

pub quotient_fits : (f g : SpecCurve) (theta most : ℚ) (w : CallWindow) → IsLeftGate f g theta w → IsGapValue (gate_sizes f g theta) most → zero_q <ℚ rise_over f w.period -ℚ rise_over g w.period
    → IsSmall (most /ℚ (rise_over f w.period -ℚ rise_over g w.period))
quotient_fits f g theta most w G V some =
    let L = gate_call f g theta w G in
    let z = gate_sizes f g theta in
    let a = left_rise f g theta w.start w.period w.end 0 z L in
    let b = right_rise f g theta w.start w.period w.end 0 z L in
    number_fits z w.end most (rise_over f w.period) (rise_over g w.period) L.limited V record { whole = a.whole; within = a.within } record { whole = b.whole; within = b.within } some

-- ---- enough
pub to_meets : (f g : SpecCurve) (theta : ℚ) (w : CallWindow) (k : ℕ) → IsLeftGate f g theta w → (rate g <ₑ rate f → IsBelowFor (moved (value_at g) theta) (value_at f) (periods_after w.start k w.period) w.period)
    → Meets (FifoLeft (Fin theta)) f g k
to_meets f g theta w k G enough =
    let W = G.first.window in
    let L = gate_call f g theta w G in
    record {
      first = λ h. absurd (not_slower f g theta w.start w.period w.end 0 (gate_sizes f g theta) L G.served h);
      second = λ h.
          subst (λ x. IsBelowFor (moved (value_at g) theta) (value_at f) (periods_after x k (common_period f g)) (common_period f g)) W.start
          (subst (λ x. IsBelowFor (moved (value_at g) theta) (value_at f) (periods_after w.start k x) x) W.period (enough h));
    }

pub from_meets : (f g : SpecCurve) (theta : ℚ) (start period : ℚ) (k : ℕ) → start ≡ moved_steady f g theta → period ≡ common_period f g → Meets (FifoLeft (Fin theta)) f g k → rate g <ₑ rate f
    → IsBelowFor (moved (value_at g) theta) (value_at f) (periods_after start k period) period
from_meets f g theta start period k a b M h =
    subst (λ x. IsBelowFor (moved (value_at g) theta) (value_at f) (periods_after x k period) period) (sym a)
    (subst (λ x. IsBelowFor (moved (value_at g) theta) (value_at f) (periods_after (moved_steady f g theta) k x) x) (sym b) (M.second h))

-- nothing is behind, or the two have one rate
pub least_none : (f g : SpecCurve) (theta most : ℚ) (w : CallWindow) → IsLeftGate f g theta w → IsMost (gate_sizes f g theta) (value_at f) (moved (value_at g) theta) w.start w.end most → most ≤ℚ zero_q
    → IsLeast (Meets (FifoLeft (Fin theta)) f g) 0
least_none f g theta most w G M none =
    least_zero (Meets (FifoLeft (Fin theta)) f g) (to_meets f g theta w 0 G (λ h t a b. below t a b))
  where
    lowered : (v : Ext) (c : ℚ) → c ≤ℚ zero_q → v +ₑ Fin c ≤ₑ v
    lowered Inf c h = tt
    lowered (Fin v) c h = with2 v c (λ k. omega (arith, k.le, k.lt, k.same))

    below : (t : ℚ) → periods_after w.start 0 w.period ≤ℚ t → t <ℚ periods_after w.start 0 w.period +ℚ w.period → moved (value_at g) theta t ≤ₑ value_at f t
    below t a b =
        let L = gate_call f g theta w G in
        let s = w.start in
        let p = w.period in
        let e = w.end in
        let D = gate_times theta s p e (left_times f g theta s p e 0 (gate_sizes f g theta) L) in
        let two = D.two in
        let some = D.some in
        let zero = int (pos 0) *ℚ p in
        let nothing : zero ≡ zero_q = with1 p (λ c. omega (arith, c.le, c.lt, c.same)) in
        let bound = M.most.above t record { start = with3 s zero t (λ c. omega (arith, c.le, c.lt, c.same)); before = with5 s zero p t e (λ c. omega (arith, c.le, c.lt, c.same)) } in
        le_ext_trans (moved (value_at g) theta t) (value_at f t +ₑ Fin most) (value_at f t) bound (lowered (value_at f t) most none)

pub least_same : (f g : SpecCurve) (theta : ℚ) (w : CallWindow) → IsLeftGate f g theta w → ¬ (zero_q <ℚ rise_over f w.period -ℚ rise_over g w.period) → IsLeast (Meets (FifoLeft (Fin theta)) f g) 0
least_same f g theta w G none =
    least_zero (Meets (FifoLeft (Fin theta)) f g)
    (to_meets f g theta w 0 G (λ h. absurd (none (lead_some f g theta w.start w.period w.end 0 (gate_sizes f g theta) (gate_call f g theta w G) G.served h))))

-- ---- the number
-- at its worst it is no more than i times the gain above: what is true at some time is true at one of the first period
worst : (fast slow : ℚ → Ext) (s p e a b most y : ℚ) → e ≡ s +ℚ p +ℚ p → b ≤ℚ a → ((t : ℚ) → s ≤ℚ t → (v : ℚ) × (fast t ≡ Fin v)) → Repeats fast s p a → Repeats slow s p b → zero_q ≤ℚ y
    → IsMostBehind fast slow s e most → IsWithin (InWindow s (s +ℚ p)) slow fast y → most ≤ℚ y
worst fast slow s p e a b most y two less finite F G low M h = by_near M.near
  where
    at_time : (u : ℚ) → s ≤ℚ u → slow u ≤ₑ fast u +ₑ Fin y → fast u +ₑ Fin most ≡ slow u → most ≤ℚ y
    at_time u l k e' =
        let (v, is) = finite u l in
        let bound : v +ℚ most ≤ℚ v +ℚ y = subst (λ x. x +ₑ Fin most ≤ₑ x +ₑ Fin y) is (subst (λ x. x ≤ₑ fast u +ₑ Fin y) (sym e') k) in
        with3 v most y (λ c. omega (arith, c.le, c.lt, c.same))

    -- a period on, the gap has grown by no more than the service has gained less
    later : (u : ℚ) → s ≤ℚ u → slow u ≤ₑ fast u +ₑ Fin y → slow (u +ℚ p) ≤ₑ fast (u +ℚ p) +ₑ Fin y
    later u l k =
        let (v, is) = finite u l in
        subst (λ x. x ≤ₑ fast (u +ℚ p) +ₑ Fin y) (sym (G.rule u l)) (subst (λ x. slow u +ₑ Fin b ≤ₑ x +ₑ Fin y) (sym (F.rule u l))
        (subst (λ x. slow u +ₑ Fin b ≤ₑ (x +ₑ Fin a) +ₑ Fin y) (sym is)
        (grown (slow u) v (subst (λ x. slow u ≤ₑ x +ₑ Fin y) is k))))
      where
        grown : (x : Ext) (v : ℚ) → x ≤ₑ Fin (v +ℚ y) → x +ₑ Fin b ≤ₑ Fin ((v +ℚ a) +ℚ y)
        grown Inf v h = h
        grown (Fin x) v h = with5 x v y a b (λ c. omega (arith, c.le, c.lt, c.same))

    by_near : (most ≡ zero_q) ⊎ IsBehindAt fast slow s e most → most ≤ℚ y
    by_near (inl k) = subst (λ x. x ≤ℚ y) (sym k) low
    by_near (inr B) =
        let u = B.at in
        let first = B.among.start in
        let last = B.among.before in
        elim (le_or_lt (s +ℚ p) u) [
          | inr l ↦ at_time u first (h u record { start = first; before = l }) B.is
          | inl l ↦
              let early : s ≤ℚ u -ℚ p = with3 s p u (λ c. omega (arith, c.le, c.lt, c.same)) in
              let before : u -ℚ p <ℚ s +ℚ p = with4 s p u e (λ c. omega (arith, c.le, c.lt, c.same)) in
              let same : (u -ℚ p) +ℚ p ≡ u = with2 u p (λ c. omega (arith, c.le, c.lt, c.same)) in
              at_time u first (subst (λ x. slow x ≤ₑ fast x +ₑ Fin y) same (later (u -ℚ p) early (h (u -ℚ p) record { start = early; before = before }))) B.is
        ]

pub least_behind : (f g : SpecCurve) (theta most : ℚ) (w : CallWindow) → IsLeftGate f g theta w → IsMost (gate_sizes f g theta) (value_at f) (moved (value_at g) theta) w.start w.end most → zero_q <ℚ most
    → zero_q <ℚ rise_over f w.period -ℚ rise_over g w.period → IsLeast (Meets (FifoLeft (Fin theta)) f g) (size_up (most /ℚ (rise_over f w.period -ℚ rise_over g w.period)))
least_behind f g theta most w G M some gain =
    same_least (Meets (FifoLeft (Fin theta)) f g) (λ i. most ≤ℚ int (pos i) *ℚ lead) (size_up (most /ℚ lead)) out back (number_least most lead some gain)
  where
    s : ℚ
    s = w.start

    p : ℚ
    p = w.period

    a : ℚ
    a = rise_over f w.period

    b : ℚ
    b = rise_over g w.period

    lead : ℚ
    lead = rise_over f w.period -ℚ rise_over g w.period

    L : LeftCall f g theta w.start w.period w.end 0 (gate_sizes f g theta)
    L = gate_call f g theta w G

    D : GateTimes w.start w.period w.end
    D = gate_times theta w.start w.period w.end (left_times f g theta w.start w.period w.end 0 (gate_sizes f g theta) L)

    F : Repeats (value_at f) w.start w.period (rise_over f w.period)
    F = left_moves f g theta w.start w.period w.end 0 (gate_sizes f g theta) L

    S : Repeats (moved (value_at g) theta) w.start w.period (rise_over g w.period)
    S = moved_moves f g theta w.start w.period w.end 0 (gate_sizes f g theta) L

    slower : rate g <ₑ rate f
    slower = elim (slower_or_same f g theta w.start w.period w.end 0 (gate_sizes f g theta) L G.served) [
      | inl h ↦ h
      | inr h ↦ absurd (lt_irrefl zero_q (with2 a b (λ c. omega (arith, c.le, c.lt, c.same))))
    ]

    out : (i : ℕ) → Meets (FifoLeft (Fin theta)) f g i → most ≤ℚ int (pos i) *ℚ lead
    out i m =
        let below = from_meets f g theta w.start w.period i G.first.window.start G.first.window.period m slower in
        let within = below_out (moved (value_at g) theta) (value_at f) w.start w.period (rise_over g w.period) (rise_over f w.period) i (le_of_lt L.above) S F below in
        worst (value_at f) (moved (value_at g) theta) w.start w.period w.end (rise_over f w.period) (rise_over g w.period) most (int (pos i) *ℚ lead) D.two
        (rises_less f g theta w.start w.period w.end 0 (gate_sizes f g theta) L G.served) (λ t h. G.served.finite t (le_trans L.nonneg h)) F S (mul_nonneg (nat_nonneg i) (le_of_lt gain)) M.most within

    back : (i : ℕ) → most ≤ℚ int (pos i) *ℚ lead → Meets (FifoLeft (Fin theta)) f g i
    back i h = to_meets f g theta w i G (λ k.
        below_in (moved (value_at g) theta) (value_at f) w.start w.period (rise_over g w.period) (rise_over f w.period) i (le_of_lt L.above) S F (λ t j. bound t j h))
      where
        bound : (t : ℚ) → InWindow w.start (w.start +ℚ w.period) t → most ≤ℚ int (pos i) *ℚ lead → moved (value_at g) theta t ≤ₑ value_at f t +ₑ Fin (int (pos i) *ℚ lead)
        bound t j h =
            let two = D.two in
            let more = D.some in
            let e = w.end in
            let begin = w.start in
            let long = w.period in
            let early = j.before in
            le_ext_trans (moved (value_at g) theta t) (value_at f t +ₑ Fin most) (value_at f t +ₑ Fin (int (pos i) *ℚ lead))
            (M.most.above t record { start = j.start; before = with4 begin long t e (λ c. omega (arith, c.le, c.lt, c.same)) })
            (add_le_ext (value_at f t) (value_at f t) (Fin most) (Fin (int (pos i) *ℚ lead)) (le_ext_refl (value_at f t)) h)
