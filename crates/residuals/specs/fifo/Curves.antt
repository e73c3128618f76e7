-- The curve that serves a flow of a first in, first out queue, as a call makes it. (Le Boudec and Thiran, chapter 6.)
use Rattle.std.specs.Prelude.{ℕ, pos, List, Ok}
use Rattle.rational.specs.Rational.{ℚ, int}
use Rattle.rational.specs.Extended.{Ext, ◌≤ₑ◌}
use Rattle.rational.specs.declared.Extended.TheVariants.{Fin}
use Rattle.upp_limits.specs.declared.op_kind.OpKind.TheVariants.{FifoLeft}
use Rattle.upp_curve.specs.Curve.{SpecCurve, value_at}
use Rattle.run_laws.specs.Cards.{Class, ServerStep}
use Rattle.run_laws.specs.Classes.{IsOfQueue, AreParts}
use Rattle.run_laws.specs.Servers.{Server}
use Rattle.run_laws.specs.Allows.{IsLawfulView}
use Rattle.run_laws.specs.Premises.{KeepsArrivals}
use Rattle.run_laws.specs.Serves.{Serves}
use Rattle.plain_operators.specs.CurveCalls.{Applies}

-- the queue Q is the flow f and the others, which keep the curve `cross`; beta serves Q: the curve c that the call
-- makes of beta and cross serves f
abbrev pub FifoCurveServes : Type 0
FifoCurveServes = (server : Server) (end : ℚ) (view : List ServerStep) (Q f others : Class) (queue : ℕ)
    (β cross c : SpecCurve) (θ : Ext) → Applies (FifoLeft θ) β cross (Ok c) →
    IsLawfulView server end view → IsOfQueue Q queue view → AreParts Q f others view →
    KeepsArrivals others (value_at cross) view → Serves Q (value_at β) end view →
    Fin (int (pos 0)) ≤ₑ θ → Serves f (value_at c) end view
