-- The three calls that make the service of a priority queue: what the service has above the higher queues' curve,
-- that less one packet of the lower queues, and its running supremum. (Le Boudec and Thiran, non-preemptive priority;
-- the order of the calls is own choice.)
use Rattle.std.specs.Prelude.{◌≡◌, ℕ, List, Result, Ok}
use Rattle.rational.specs.Rational.{ℚ}
use Rattle.upp_limits.specs.declared.op_kind.OpKind.TheVariants.{PosDiff, PosMinus, RunSup}
use Rattle.upp_limits.specs.declared.op_kind.OpFault.{OpFault}
use Rattle.upp_curve.specs.Curve.{SpecCurve, value_at}
use Rattle.run_laws.specs.Cards.{whole, of_queue, before_queue, after_queue, ServerStep}
use Rattle.run_laws.specs.Servers.{Priority, Server}
use Rattle.run_laws.specs.Allows.{IsLawfulView}
use Rattle.run_laws.specs.Premises.{KeepsArrivals, KeepsService, KeepsSizes, IsZeroAtStart}
use Rattle.run_laws.specs.Serves.{Serves}
use Rattle.plain_operators.specs.CurveCalls.{Applies, AppliesTo, IsDetermined}
use Rattle.outcomes.specs.Calls.{Then}

-- the first two calls
abbrev pub LeavesPriority : SpecCurve → SpecCurve → ℕ → Result SpecCurve OpFault → Type 0
LeavesPriority β higher lower r = Then (Applies PosDiff β higher) (AppliesTo (PosMinus (whole lower))) r

-- all three
abbrev pub MakesPriority : SpecCurve → SpecCurve → ℕ → Result SpecCurve OpFault → Type 0
MakesPriority β higher lower r = Then (LeavesPriority β higher lower) (AppliesTo RunSup) r

-- want of memory apart, one answer
abbrev pub PriorityIsDetermined : Type 0
PriorityIsDetermined = (β higher : SpecCurve) (lower : ℕ) → IsDetermined (MakesPriority β higher lower)

-- the curve c that the calls make of the server's curve, the higher queues' curve and the lower queues' longest
-- packet serves the queue
abbrev pub PriorityCurveServes : Type 0
PriorityCurveServes = (server : Server) (end : ℚ) (view : List ServerStep)
    (queues i lower : ℕ) (β higher c : SpecCurve) →
    MakesPriority β higher lower (Ok c) →
    IsLawfulView server end view → server.discipline ≡ Priority queues → KeepsService (value_at β) end view →
    IsZeroAtStart (value_at β) →
    KeepsArrivals (before_queue i) (value_at higher) view → KeepsSizes (after_queue i) lower view →
    Serves (of_queue i) (value_at c) end view
