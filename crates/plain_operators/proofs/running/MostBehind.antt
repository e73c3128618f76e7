-- The least number of periods is there, and no greater than what one period of the service tells: what is served theta
-- later is above the service nowhere more than the service rises over a period of its own.
use Rattle.std.specs.Prelude.{◌≡◌, ℕ, zero, suc, ◌<◌, pos}
use Rattle.std.proofs.Common.{arith, sym, ◌∙◌, refl, subst, inl, inr}
use Rattle.std.proofs.lemmas.Bool.{cases_lt}
use Rattle.rational.specs.Rational.{ℚ, ◌+ℚ◌, ◌-ℚ◌, ◌*ℚ◌, ◌/ℚ◌, ◌≤ℚ◌, ◌<ℚ◌, int}
use Rattle.rational.specs.MinMax.{max_q}
use Rattle.rational.specs.Ratio.{IsSmall}
use Rattle.rational.specs.Gauge.{size_up}
use Rattle.rational.specs.Extended.{◌≤ₑ◌, ◌+ₑ◌}
use Rattle.rational.specs.declared.Extended.TheVariants.{Fin}
use Rattle.rational.proofs.Linear.{with2, with4}
use Rattle.rational.proofs.Laws.{le_or_lt, le_trans, le_of_lt, lt_irrefl, lt_le_trans}
use Rattle.rational.proofs.Grid.{whole_sub}
use Rattle.rational.proofs.Quotients.{div_le}
use Rattle.upp_limits.proofs.CommonDen.{size_up_within}
use Rattle.rational.proofs.ExtendedOrder.{add_le_ext, le_ext_refl, le_ext_trans}
use Rattle.upp_limits.specs.declared.op_kind.OpKind.TheVariants.{FifoLeft}
use Rattle.upp_curve.specs.Curve.{SpecCurve, value_at}
use Rattle.min_plus.specs.Functions.{zero_q}
use Rattle.upp_curve.specs.Steady.{steady, rise_over}
use Rattle.upp_curve.proofs.Steady.{steady_rule}
use Rattle.upp_limits.specs.Limits.{Sizes, curve_numbers}
use Rattle.upp_limits.specs.Sized.{Stands}
use Rattle.upp_limits.specs.Windows.{IsLeast, Meets}
use Rattle.upp_normal.specs.Operand.{AreLimited}
use Rattle.upp_normal.proofs.AnswerRoom.{value_difference_stands}
use Rattle.curve_call.specs.Rises.{CurveRiseFits}
use Rattle.curve_call.specs.declared.windows.CallWindow.{CallWindow}
use Rattle.curve_call.proofs.CurveRises.{IsRise, rise_is}
use Rattle.curve_call.specs.declared.bounds.Bounds.{Bounds}
use Rattle.curve_call.specs.Bounds.{AreBounds, own_or}
use Rattle.curve_call.specs.Compared.{IsLookedAt}
use Rattle.curve_call.specs.GapSteps.{earlier_of}
use Rattle.curve_call.proofs.FoundCurves.{curve_goes}
use Rattle.curve_call.proofs.GapWalk.{steps_left}
use Rattle.curve_call.proofs.LeastNumber.{times_small}
use Rattle.curve_call.proofs.OwnPeriods.{OwnPeriod, own_period_is}
use Rattle.curve_call.proofs.Shifts.{below_in}
use Rattle.plain_operators.specs.running.Behind.{moved, IsBehindCall, IsMost}
use Rattle.plain_operators.specs.running.LeftCall.{IsLeftGate}
use Rattle.plain_operators.proofs.running.BehindWalk.{BehindWalk, FoundAt, beta_time, cross_time, next_past_it, behind_start, behind_step, behind_fewer, behind_end}
use Rattle.plain_operators.proofs.running.LeastBehind.{gate_sizes, gate_call, gate_times, behind_call, to_meets, least_none, least_same, least_behind}
use Rattle.plain_operators.proofs.running.LeftCalls.{left_times, left_rise, right_rise, left_moves, moved_moves}
use Rattle.plain_operators.proofs.running.Served.{other_finite, reached_by}

-- ---- how far it is above at its worst is there: found by proof alone, where no code runs
record Further (f g : SpecCurve) (theta from end t : ℚ) : Type 0 where
  next : ℚ
  past : t <ℚ next
  most : ℚ
  walk : BehindWalk f g theta from end next most

further : (z : Sizes) (f g : SpecCurve) (theta from end t most : ℚ) → IsBehindCall z f g theta from end → BehindWalk f g theta from end t most → t <ℚ end → Further f g theta from end t
further z f g theta from end t most C W h =
    let T = beta_time z f g theta from end t most C W h in
    let U = cross_time z f g theta from end t most C W h in
    let A = curve_goes z end f t C.first T in
    let B = curve_goes z end g (t -ℚ theta) C.second U in
    let (u, here) = C.served.finite t T.nonneg in
    let (v, there) = other_finite (value_at f) (value_at g) theta C.served (t -ℚ theta) U.nonneg in
    let found : FoundAt f g theta t A.stretch B.stretch u v = record { ahead = A.goes; served = B.goes; first = A.goes.at ∙ here; second = B.goes.at ∙ there } in
    let next = earlier_of end A.stretch.next in
    let N = next_past_it end t next A.stretch.next h A.goes.next refl in
    record {
      next = next;
      past = N.past;
      most = max_q most (v -ℚ u);
      walk = behind_step f g theta from end t next most u v A.stretch B.stretch C.served C.theta_early W h found A.times refl
          (λ w D. ((A.sizes w end D.first (beta_time w f g theta from end t most D W h)).1, (B.sizes w end D.second (cross_time w f g theta from end t most D W h)).1));
    }

walk_on : (z : Sizes) (f g : SpecCurve) (theta from end t most : ℚ) (n : ℕ) → IsBehindCall z f g theta from end → BehindWalk f g theta from end t most → steps_left f f from end t < n
    → (q : ℚ) × IsMost z (value_at f) (moved (value_at g) theta) from end q
walk_on z f g theta from end t most zero C W l = absurd (omega (arith, l))
walk_on z f g theta from end t most (suc n) C W l = elim (le_or_lt end t) [
  | inl late ↦ (most, behind_end z f g theta from end t most C W (λ h. lt_irrefl t (lt_le_trans h late)))
  | inr h ↦
      let F = further z f g theta from end t most C W h in
      let fewer = behind_fewer f g theta from end t F.next most F.most W F.walk F.past in
      walk_on z f g theta from end F.next F.most n C F.walk (omega (arith, l, fewer))
]

most_there : (z : Sizes) (f g : SpecCurve) (theta from end : ℚ) → IsBehindCall z f g theta from end → (q : ℚ) × IsMost z (value_at f) (moved (value_at g) theta) from end q
most_there z f g theta from end C = walk_on z f g theta from end from zero_q (suc (steps_left f f from end from)) C (behind_start f g theta from end zero_q C.time.before refl) (omega arith)

-- so is the least number
pub least_there : (f g : SpecCurve) (theta : ℚ) (w : CallWindow) → IsLeftGate f g theta w → (k : ℕ) × IsLeast (Meets (FifoLeft (Fin theta)) f g) k
least_there f g theta w G =
    let (q, M) = most_there (gate_sizes f g theta) f g theta w.start w.end (behind_call f g theta w G) in
    let lead = rise_over f w.period -ℚ rise_over g w.period in
    elim (le_or_lt q zero_q) [
      | inl none ↦ (0, least_none f g theta q w G M none)
      | inr some ↦ elim (le_or_lt lead zero_q) [
        | inl none ↦ (0, least_same f g theta w G (λ h. lt_irrefl zero_q (lt_le_trans h none)))
        | inr gain ↦ (size_up (q /ℚ lead), least_behind f g theta q w G M some gain)
      ]
    ]

-- ---- the service over a period of its own
looked : (f g : SpecCurve) (theta : ℚ) (w : CallWindow) → IsLeftGate f g theta w → IsLookedAt (gate_sizes f g theta) (w.end -ℚ w.period) w.period f
looked f g theta w G =
    let L = gate_call f g theta w G in
    let z = gate_sizes f g theta in
    let s = w.start in
    let p = w.period in
    let e = w.end in
    let D = gate_times theta s p e (left_times f g theta s p e 0 z L) in
    let two = D.two in
    let some = D.some in
    let same : e ≡ (e -ℚ p) +ℚ p = with2 e p (λ c. omega (arith, c.le, c.lt, c.same)) in
    let a = steady f in
    let left = L.left_steady in
    record {
      limited = subst (AreLimited z) same L.limited;
      start = whole_sub z.dt e p L.limited.sizes.window L.period_whole;
      some = L.above;
      curve = record {
        curve = L.first;
        stands = subst (λ x. Stands z (curve_numbers x f)) same L.left;
        steady_by = with4 a s p e (λ c. omega (arith, c.le, c.lt, c.same));
        periods = L.left_periods;
      };
    }

own : (f g : SpecCurve) (theta : ℚ) (w : CallWindow) → IsLeftGate f g theta w → OwnPeriod (gate_sizes f g theta) w.period (own_or w.period f) f.tail
own f g theta w G = own_period_is (gate_sizes f g theta) (w.end -ℚ w.period) w.period f (looked f g theta w G)

own_rise : (f g : SpecCurve) (theta : ℚ) (w : CallWindow) → IsLeftGate f g theta w → IsRise (gate_sizes f g theta) f (own_or w.period f)
own_rise f g theta w G =
    let L = gate_call f g theta w G in
    let z = gate_sizes f g theta in
    let P = own f g theta w G in
    rise_is z w.end f (own_or w.period f) L.limited L.first L.left P.periods P.whole P.some
    (early (steady f) (own_or w.period f) w.period w.end (looked f g theta w G).curve.steady_by P.high)
  where
    early : (a q p e : ℚ) → a ≤ℚ e -ℚ p → q ≤ℚ p → a +ℚ q ≤ℚ e
    early a q p e left high = with4 a q p e (λ c. omega (arith, c.le, c.lt, c.same))

pub own_fits : (f g : SpecCurve) (theta q : ℚ) (w : CallWindow) → IsLeftGate f g theta w → q ≡ own_or w.period f → CurveRiseFits f q
own_fits f g theta q w G e = subst (CurveRiseFits f) (sym e) (own_rise f g theta w G).fits

pub most_fits : (f g : SpecCurve) (theta : ℚ) (w : CallWindow) → IsLeftGate f g theta w → zero_q <ℚ rise_over f w.period -ℚ rise_over g w.period
    → IsSmall (rise_over f (own_or w.period f) /ℚ (rise_over f w.period -ℚ rise_over g w.period))
most_fits f g theta w G some =
    let L = gate_call f g theta w G in
    let z = gate_sizes f g theta in
    let a = left_rise f g theta w.start w.period w.end 0 z L in
    let b = right_rise f g theta w.start w.period w.end 0 z L in
    let r = own_rise f g theta w G in
    times_small z w.end (rise_over f (own_or w.period f)) (rise_over f w.period -ℚ rise_over g w.period) 3 L.limited (omega arith) record { whole = r.whole; within = r.within }
    (value_difference_stands z (rise_over f w.period) (rise_over g w.period) record { whole = a.whole; within = a.within } record { whole = b.whole; within = b.within }) some

-- ---- above it nowhere more than it rises over that
above : (f g : SpecCurve) (theta : ℚ) (w : CallWindow) (t : ℚ) → IsLeftGate f g theta w → w.start ≤ℚ t → moved (value_at g) theta t ≤ₑ value_at f t +ₑ Fin (rise_over f (own_or w.period f))
above f g theta w t G h =
    let L = gate_call f g theta w G in
    let T = left_times f g theta w.start w.period w.end 0 (gate_sizes f g theta) L in
    let P = own f g theta w G in
    let q = own_or w.period f in
    let some = P.some in
    let risen = (steady_rule f q L.first.normal.raw P.periods (le_of_lt some)).rule t (le_trans L.left_steady h) in
    subst (λ v. moved (value_at g) theta t ≤ₑ v) risen (reached_by (value_at f) (value_at g) theta t (t +ℚ q) G.served (le_trans T.late h) (with2 t q (λ c. omega (arith, c.le, c.lt, c.same))))

enough : (f g : SpecCurve) (theta : ℚ) (w : CallWindow) (k : ℕ) → IsLeftGate f g theta w → rise_over f (own_or w.period f) ≤ℚ int (pos k) *ℚ (rise_over f w.period -ℚ rise_over g w.period)
    → Meets (FifoLeft (Fin theta)) f g k
enough f g theta w k G h =
    let L = gate_call f g theta w G in
    let z = gate_sizes f g theta in
    let F = left_moves f g theta w.start w.period w.end 0 z L in
    let S = moved_moves f g theta w.start w.period w.end 0 z L in
    let y = int (pos k) *ℚ (rise_over f w.period -ℚ rise_over g w.period) in
    to_meets f g theta w k G (λ slower.
    below_in (moved (value_at g) theta) (value_at f) w.start w.period (rise_over g w.period) (rise_over f w.period) k (le_of_lt L.above) S F
    (λ t i. le_ext_trans (moved (value_at g) theta t) (value_at f t +ₑ Fin (rise_over f (own_or w.period f))) (value_at f t +ₑ Fin y) (above f g theta w t G i.start)
    (add_le_ext (value_at f t) (value_at f t) (Fin (rise_over f (own_or w.period f))) (Fin y) (le_ext_refl (value_at f t)) h)))

pub number_bounded : (f g : SpecCurve) (theta : ℚ) (w : CallWindow) (b : Bounds) → IsLeftGate f g theta w → b.low ≡ 0
    → rise_over f (own_or w.period f) ≤ℚ int (pos b.high) *ℚ (rise_over f w.period -ℚ rise_over g w.period) → AreBounds (Meets (FifoLeft (Fin theta)) f g) b
number_bounded f g theta w b G low high =
    let (k, least) = least_there f g theta w G in
    let met = enough f g theta w b.high G high in
    record { number = k; least = least; low = omega (arith, low); high = elim (cases_lt b.high k) [ inl l ↦ absurd (least.least b.high l met) | inr l ↦ l ] }

pub number_none : (f g : SpecCurve) (theta : ℚ) (w : CallWindow) (b : Bounds) → IsLeftGate f g theta w → ¬ (zero_q <ℚ rise_over f w.period -ℚ rise_over g w.period) → b.low ≡ 0 → b.high ≡ 0
    → AreBounds (Meets (FifoLeft (Fin theta)) f g) b
number_none f g theta w b G none low high = record { number = 0; least = least_same f g theta w G none; low = omega (arith, low); high = omega (arith, high) }

-- the number of the upper bound
pub most_number : (q e : ℚ) (n : ℕ) → zero_q <ℚ e → n ≡ size_up (q /ℚ e) → q ≤ℚ int (pos n) *ℚ e
most_number q e n some same =
    subst (λ m. q ≤ℚ int (pos m) *ℚ e) (sym same) ((div_le q e (int (pos (size_up (q /ℚ e)))) some).0 (size_up_within (q /ℚ e)).high)
