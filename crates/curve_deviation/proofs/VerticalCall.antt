-- A call for the vertical deviation: what its frame gives, and its limits where it is known at once.
use Rattle.std.specs.Prelude.{◌≡◌, pos}
use Rattle.std.proofs.Common.{sym, ap₂, ◌∙◌, subst, inl, inr}
use Rattle.rational.specs.Rational.{ℚ, ◌+ℚ◌, ◌≤ℚ◌, int}
use Rattle.rational.specs.Extended.{◌<ₑ◌}
use Rattle.rational.specs.declared.Extended.TheVariants.{Inf}
use Rattle.rational.proofs.MinMax.{max_q_ge_left, max_q_ge_right}
use Rattle.rational.proofs.Laws.{le_trans}
use Rattle.upp_limits.specs.declared.op_kind.OpKind.TheVariants.{Vertical}
use Rattle.upp_limits.specs.declared.op_kind.OpFault.{OpFault}
use Rattle.upp_limits.specs.declared.op_kind.OpFault.TheVariants.{NoMemory}
use Rattle.upp_curve.specs.Curve.{SpecCurve, value_at}
use Rattle.upp_curve.specs.Curves.{IsCurve}
use Rattle.min_plus.specs.Functions.{IsFinite}
use Rattle.upp_curve.specs.Steady.{steady, rate, IsWholePeriods}
use Rattle.upp_limits.specs.Periods.{common_period, both_steady}
use Rattle.upp_limits.specs.Windows.{window_at}
use Rattle.upp_limits.specs.Limits.{curve_numbers, sizes_of}
use Rattle.upp_limits.specs.Sized.{Stands}
use Rattle.upp_normal.specs.Operand.{AreLimited}
use Rattle.upp_limits.specs.Gauges.{IsKnownAtOnce, both_numbers}
use Rattle.upp_limits.specs.Outcome.{IsWithin}
use Rattle.min_plus.specs.Deviations.{IsVerticalDeviation}
use Rattle.upp_limits.proofs.Stands.{sizes_stand, stands_left, stands_right}
use Rattle.curve_call.specs.declared.frame.Frame.{Frame}
use Rattle.curve_call.specs.Frames.{IsFrame, IsRefusedAt, sizes_at}
use Rattle.curve_call.proofs.CallTimes.{first_stands, second_stands}
use Rattle.curve_call.proofs.CurveTimes.{both_on}
use Rattle.curve_call.proofs.CurveRises.{common_first, common_second}
use Rattle.curve_call.proofs.FrameFacts.{frame_facts}
use Rattle.curve_call.specs.Compared.{AreCompared}
use Rattle.curve_call.specs.Ever.{RepeatsBy}
use Rattle.curve_deviation.proofs.AtOnce.{faster_deviation}
use Rattle.upp_curve.proofs.SteadyTimes.{steady_nonneg}

pub frame_compared : (f g : SpecCurve) (r : Frame) → IsFrame Vertical f g 0 0 r → AreCompared (sizes_at Vertical f g 0 0) r.start r.period f g
unfolding window_at
frame_compared f g r h =
    let z = sizes_at Vertical f g 0 0 in
    let facts = frame_facts Vertical f g 0 0 r tt h in
    let ends : r.end ≡ r.start +ℚ r.period = h.end ∙ sym (ap₂ (λ (x y : ℚ). x +ℚ y) h.start h.period) in
    record {
      limited = subst (AreLimited z) ends facts.limited;
      start = facts.start.whole;
      some = facts.period.above;
      first = record {
        curve = h.first;
        stands = subst (λ e. Stands z (curve_numbers e f)) ends (first_stands Vertical z r.end f g facts.stands);
        steady_by = subst (λ s. steady f ≤ℚ s) (sym h.start) (max_q_ge_left (steady f) (steady g));
        periods = subst (IsWholePeriods f.tail) (sym h.period) (common_first f g h.first h.second);
      };
      second = record {
        curve = h.second;
        stands = subst (λ e. Stands z (curve_numbers e g)) ends (second_stands Vertical z r.end f g facts.stands);
        steady_by = subst (λ s. steady g ≤ℚ s) (sym h.start) (max_q_ge_right (steady f) (steady g));
        periods = subst (IsWholePeriods g.tail) (sym h.period) (common_second f g h.first h.second);
      };
    }

pub known_within : (f g : SpecCurve) → IsKnownAtOnce Vertical f g → IsWithin Vertical f g
known_within f g known = record { narrow = λ w. w.looks known; few = λ m. m.looks known }

-- the faster curve, with the period that both have
pub faster_at_once : (f g : SpecCurve) → IsCurve f → IsCurve g → rate g <ₑ rate f → IsFinite (value_at f) → IsFinite (value_at g) → IsVerticalDeviation (value_at f) (value_at g) Inf
faster_at_once f g F G faster first second =
    let end = int (pos 0) in
    let z = sizes_of end (both_numbers end f g) in
    let all : Stands z (both_numbers end f g) = sizes_stand end (both_numbers end f g) in
    let period = both_on z end f g F G (stands_left z (curve_numbers end f) (curve_numbers end g) all) (stands_right z (curve_numbers end f) (curve_numbers end g) all) in
    let from = both_steady f g in
    let f_by : RepeatsBy from (common_period f g) f = record { curve = F; steady_by = max_q_ge_left (steady f) (steady g); periods = common_first f g F G } in
    let g_by : RepeatsBy from (common_period f g) g = record { curve = G; steady_by = max_q_ge_right (steady f) (steady g); periods = common_second f g F G } in
    faster_deviation f g from (common_period f g) period.above (le_trans (steady_nonneg f F) (max_q_ge_left (steady f) (steady g))) f_by g_by faster first second

-- ---- neither early answer
pub not_known : (f g : SpecCurve) → IsFinite (value_at f) → ¬ (rate g <ₑ rate f) → ¬ (IsKnownAtOnce Vertical f g)
not_known f g finite slow k = elim k [
  | inl not ↦ not finite
  | inr faster ↦ slow faster
]

-- want of memory is no refusal
pub not_memory : (f g : SpecCurve) (e : OpFault) → IsRefusedAt Vertical f g 0 0 e → ¬ (e ≡ NoMemory)
not_memory f g e h same = subst (IsRefusedAt Vertical f g 0 0) same h
