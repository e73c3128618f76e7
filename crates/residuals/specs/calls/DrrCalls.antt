-- The quanta of a deficit round robin server, and the two calls that make the service of one of its queues: a share
-- of the server's service, and that less what is owed. (Bouillard, Boyer and Le Corronc; the order of the calls and
-- the limits are own choice.)
use Rattle.std.specs.Prelude.{◌≡◌, ◌≤◌, ◌<◌, ◌^◌, ℕ, List, length, get_or, sum, All, Result, Ok}
use Rattle.rational.specs.Rational.{ℚ}
use Rattle.upp_limits.specs.declared.op_kind.OpKind.TheVariants.{Scale, PosMinus}
use Rattle.upp_limits.specs.declared.op_kind.OpFault.{OpFault}
use Rattle.upp_curve.specs.Curve.{SpecCurve, value_at}
use Rattle.run_laws.specs.Cards.{of_queue, ServerStep}
use Rattle.run_laws.specs.Servers.{Drr, Server}
use Rattle.run_laws.specs.Allows.{IsLawfulView}
use Rattle.run_laws.specs.Premises.{KeepsService, KeepsSizes, IsZeroAtStart}
use Rattle.run_laws.specs.Serves.{Serves}
use Rattle.plain_operators.specs.CurveCalls.{AppliesTo, IsDetermined}
use Rattle.outcomes.specs.Calls.{Then}
use Rattle.residual_laws.specs.DrrLaws.{share, owed}

-- ---- quanta
-- a quantum has 1 to 2^24 bits
abbrev pub IsQuantum : ℕ → Type 0
IsQuantum bits = (1 ≤ bits) × (bits ≤ 2 ^ 24)

-- 1 to 8 quanta, and as many longest packets
pub record AreQueues (quanta longest : List ℕ) : Type 0 where
  pub some : 1 ≤ length quanta
  pub few : length quanta ≤ 8
  pub each : All IsQuantum quanta
  pub paired : length longest ≡ length quanta

-- ---- calls
-- of queue i: its share, and what is owed
abbrev pub share_in : List ℕ → ℕ → ℚ
share_in quanta i = share (get_or quanta i 0) (sum quanta)

abbrev pub owed_in : (quanta longest : List ℕ) → ℕ → ℚ
owed_in quanta longest i = owed (get_or quanta i 0) (get_or longest i 0) (sum quanta) (sum longest)

abbrev pub MakesDrr : SpecCurve → (quanta longest : List ℕ) → ℕ → Result SpecCurve OpFault → Type 0
MakesDrr β quanta longest i r =
    Then (AppliesTo (Scale (share_in quanta i)) β) (AppliesTo (PosMinus (owed_in quanta longest i))) r

-- want of memory apart, one answer
abbrev pub DrrIsDetermined : Type 0
DrrIsDetermined = (β : SpecCurve) (quanta longest : List ℕ) (i : ℕ) → IsDetermined (MakesDrr β quanta longest i)

-- the curve c that the calls make of the server's curve, its quanta and the longest packets of its queues serves
-- queue i
abbrev pub DrrCurveServes : Type 0
DrrCurveServes = (server : Server) (end : ℚ) (view : List ServerStep)
    (quanta longest : List ℕ) (i : ℕ) (β c : SpecCurve) →
    AreQueues quanta longest → i < length quanta → MakesDrr β quanta longest i (Ok c) →
    IsLawfulView server end view → server.discipline ≡ Drr quanta →
    ((q : ℕ) → KeepsSizes (of_queue q) (get_or longest q 0) view) → KeepsService (value_at β) end view →
    IsZeroAtStart (value_at β) →
    Serves (of_queue i) (value_at c) end view
