-- The sizes of a call, made without unrolling its operands.
use Rattle.std.specs.Prelude.{◌≡◌, ◌≤◌, ◌<◌, ◌^◌, Option, Some, None, MatchOption}
use Rattle.std.proofs.Common.{subst, ◌∙◌}
use Rattle.rational.specs.Rational.{ℚ}
use Rattle.upp_curve.specs.Curve.{SpecCurve}
use Rattle.upp_limits.specs.declared.op_kind.OpKind.{OpKind}
use Rattle.upp_limits.specs.declared.op_kind.Operands.{Operands}
use Rattle.upp_limits.specs.Limits.{joined, time_alone, sizes_of}
use Rattle.upp_limits.specs.Gathered.{Gathers}
use Rattle.upp_limits.specs.declared.gathered.Gathered.{Gathered}
use Rattle.upp_limits.specs.declared.call_sizes.CallNumbers.{CallNumbers}
use Rattle.upp_limits.specs.declared.call_sizes.CallGrids.{CallGrids}
use Rattle.upp_limits.specs.CallNumbers.{AreCallNumbers}
use Rattle.upp_limits.specs.Covered.{AreGridsBelow, AreNarrowGrids}
use Rattle.upp_limits.specs.Gauges.{gauge_over, kind_numbers, operands_of, numbers_over}
use Rattle.upp_limits.specs.ClosedOperands.{closed_operands}
use Rattle.upp_limits.proofs.JoinedNumbers.{joined_assoc}
use Rattle.upp_limits.proofs.Operands.{operands_equal}
use Rattle.upp_limits.proofs.SameSizes.{equals_self, equals_joined, same_sizes}

pub closed_sizes : (op : OpKind) (f g : SpecCurve) (end : ℚ)
    → sizes_of end (joined (kind_numbers op) (closed_operands (operands_of op) end f g)) ≡ sizes_of end (numbers_over op f g end)
closed_sizes op f g end =
    same_sizes end (joined (kind_numbers op) (closed_operands (operands_of op) end f g)) (numbers_over op f g end)
    (equals_joined _ _ _ _ (equals_self (kind_numbers op)) (operands_equal (operands_of op) end f g))

-- what was gathered, the window's end first, then the kind's own numbers, then the operands'
pub gathered_all : (op : OpKind) (f g : SpecCurve) (end : ℚ) (k : Operands) (found : Gathered) → k ≡ operands_of op
    → Gathers found (joined (joined (time_alone end) (kind_numbers op)) (closed_operands k end f g))
    → Gathers found (joined (time_alone end) (joined (kind_numbers op) (closed_operands (operands_of op) end f g)))
gathered_all op f g end k found e h =
    let own = kind_numbers op in
    let P : Operands → Type 0 = λ k. Gathers found (joined (joined (time_alone end) own) (closed_operands k end f g)) in
    subst (Gathers found) (joined_assoc (time_alone end) own (closed_operands (operands_of op) end f g)) (subst P e h)

-- ---- the grids, where the gauge itself is below 2 ^ 120
pub narrow_by_gauge : (op : OpKind) (f g : SpecCurve) (end : ℚ) (n : CallNumbers) (found : Option CallGrids) → AreCallNumbers (sizes_of end (numbers_over op f g end)) n
    → MatchOption found (2 ^ 120 ≤ n.gauge) (AreGridsBelow n) → MatchOption found (2 ^ 120 ≤ gauge_over op f g end) (AreNarrowGrids op f g end)
unfolding gauge_over
narrow_by_gauge op f g end n None h m = subst (λ z. 2 ^ 120 ≤ z) h.gauge m
narrow_by_gauge op f g end n (Some k) h m = record { gauge = subst (λ z. z < 2 ^ 120) h.gauge m.gauge; times = m.times ∙ h.times; values = m.values ∙ h.values }
