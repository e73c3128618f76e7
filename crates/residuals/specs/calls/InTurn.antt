-- At which of some calls that are made one after the other one is refused, by how many of them are counted by then: the
-- refused one is the last of these. So want of memory at so many says that each of them is within its limits. Own choice.
use Rattle.std.specs.Prelude.{◌≡◌, ◌≢◌, ℕ, ◌+◌, ◌<◌, ◌≤◌, List, Result, Ok, Err}
use Rattle.upp_limits.specs.declared.op_kind.OpKind.TheVariants.{PosDiff, PosMinus, RunSup, Scale}
use Rattle.upp_limits.specs.declared.op_kind.OpFault.{OpFault}
use Rattle.upp_limits.specs.declared.op_kind.OpFault.TheVariants.{NoMemory}
use Rattle.upp_curve.specs.Curve.{SpecCurve}
use Rattle.run_laws.specs.Cards.{whole}
use Rattle.plain_operators.specs.CurveCalls.{Applies, AppliesTo}
use Rattle.residuals.specs.calls.PriorityCalls.{LeavesPriority, MakesPriority}
use Rattle.residuals.specs.calls.DrrCalls.{share_in, owed_in, MakesDrr}

-- the first call that is counted is refused
abbrev pub AtCall : {A : Type 0} → (Result A OpFault → Type 0) → OpFault → ℕ → Type 0
AtCall P fault n = (n ≡ 1) × P (Err fault)

-- one of those with which P is made, which are k, or one of those that come after what P answers
pub data InTurn {A : Type 0} (before : OpFault → ℕ → Type 0) (P : Result A OpFault → Type 0) (k : ℕ)
    (after : A → OpFault → ℕ → Type 0) (fault : OpFault) (n : ℕ) : Type 0 where
  on_the_way : before fault n → InTurn before P k after fault n
  past : (x : A) (m : ℕ) → P (Ok x) → n ≡ k + m → after x fault m → InTurn before P k after fault n

-- R tells where the calls with which P is made, at most k, are refused: what P is refused for has a place, and what has
-- one P is refused for; for want of memory no more than k are counted, and where a call is over a limit it is counted
-- itself; so want of memory has fewer counted than a limit that is passed
pub record IsPlaced {A : Type 0} (R : OpFault → ℕ → Type 0) (P : Result A OpFault → Type 0) (k : ℕ) : Type 0 where
  pub place : (fault : OpFault) → P (Err fault) → (n : ℕ) × R fault n
  pub refused : (fault : OpFault) (n : ℕ) → R fault n → P (Err fault)
  pub most : (n : ℕ) → R NoMemory n → n ≤ k
  pub least : (fault : OpFault) (n : ℕ) → fault ≢ NoMemory → R fault n → 1 ≤ n
  pub sooner : (fault : OpFault) (n m : ℕ) → fault ≢ NoMemory → R NoMemory n → R fault m → n < m

-- ---- the services of queues
-- by priority: of the first two calls, and of all three
abbrev pub LeftRefused : SpecCurve → SpecCurve → ℕ → OpFault → ℕ → Type 0
LeftRefused β higher lower fault n =
    InTurn (AtCall (Applies PosDiff β higher)) (Applies PosDiff β higher) 1 (λ c. AtCall (AppliesTo (PosMinus (whole lower)) c)) fault n

abbrev pub PriorityRefused : SpecCurve → SpecCurve → ℕ → OpFault → ℕ → Type 0
PriorityRefused β higher lower fault n =
    InTurn (LeftRefused β higher lower) (LeavesPriority β higher lower) 2 (λ c. AtCall (AppliesTo RunSup c)) fault n

-- by deficit round robin
abbrev pub DrrRefused : SpecCurve → (quanta longest : List ℕ) → ℕ → OpFault → ℕ → Type 0
DrrRefused β quanta longest i fault n =
    InTurn (AtCall (AppliesTo (Scale (share_in quanta i)) β)) (AppliesTo (Scale (share_in quanta i)) β) 1
    (λ c. AtCall (AppliesTo (PosMinus (owed_in quanta longest i)) c)) fault n

-- both laws
pub record ServicesArePlaced : Type 0 where
  pub priority : (β higher : SpecCurve) (lower : ℕ) → IsPlaced (PriorityRefused β higher lower) (MakesPriority β higher lower) 3
  pub deficit : (β : SpecCurve) (quanta longest : List ℕ) (i : ℕ)
      → IsPlaced (DrrRefused β quanta longest i) (MakesDrr β quanta longest i) 2
