-- What a flow of a first in, first out queue is served. (Le Boudec and Thiran, section 6.4. Any theta from 0 on is
-- right; the horizontal deviation of the others' curve and the service is this project's choice.)
use Rattle.std.specs.Prelude.{ℕ, pos, List}
use Rattle.rational.specs.Rational.{ℚ, int, ◌≤ℚ◌}
use Rattle.rational.specs.Extended.{Ext, ◌≤ₑ◌}
use Rattle.rational.specs.declared.Extended.TheVariants.{Fin}
use Rattle.min_plus.specs.Running.{IsFifoLeftover}
use Rattle.run_laws.specs.Cards.{Class, ServerStep}
use Rattle.run_laws.specs.Classes.{IsOfQueue, AreParts}
use Rattle.run_laws.specs.Servers.{Server}
use Rattle.run_laws.specs.Allows.{IsLawfulView}
use Rattle.run_laws.specs.Premises.{KeepsArrivals}
use Rattle.run_laws.specs.Serves.{Serves}

-- R is what β leaves of the others' curve
abbrev pub IsResidual : (ℚ → Ext) → (ℚ → Ext) → Ext → (ℚ → Ext) → Type 0
IsResidual β cross θ R = (t : ℚ) → int (pos 0) ≤ℚ t → IsFifoLeftover β cross θ t (R t)

-- the queue Q is the flow f and the others, which keep the curve `cross`
abbrev pub FifoServes : Type 0
FifoServes = (server : Server) (end : ℚ) (view : List ServerStep) (Q f others : Class) (queue : ℕ)
    (β cross R : ℚ → Ext) (θ : Ext)
    → IsLawfulView server end view → IsOfQueue Q queue view → AreParts Q f others view
    → KeepsArrivals others cross view → Serves Q β end view →
    Fin (int (pos 0)) ≤ₑ θ → IsResidual β cross θ R → Serves f R end view
