-- A periodic flow over a fork of three servers of a limited pace: each of its queues and branches is bounded by
-- numbers in every run, and one branch reaches its number.
use Rattle.std.specs.Prelude.{◌≡◌, ◌<◌, ℕ, zero, suc, List, [], ◌∷◌}
use Rattle.rational.specs.Rational.{ℚ, ◌+ℚ◌}
use Rattle.rational.specs.Extended.{Ext, ◌≤ₑ◌}
use Rattle.rational.specs.declared.Extended.TheVariants.{Fin, Inf}
use Rattle.min_plus.specs.Formulas.{stair_value, rate_latency_value}
use Rattle.run_laws.specs.declared.steps.Step.TheVariants.{Enter, Reach, Work, Leave}
use Rattle.run_laws.specs.Runs.{SpecRun}
use Rattle.run_laws.specs.Cards.{whole, of_queue}
use Rattle.run_laws.specs.Delays.{hop_delays, backlog}
use Rattle.run_laws.specs.Examples.{paced_server, hop, ends_at}
use Rattle.run_laws.specs.Routes.{Hop}
use Rattle.run_laws.specs.Servers.{Fifo}
use Rattle.run_laws.specs.Views.{view}
use Rattle.net_laws.specs.Paths.{sum_along}
use Rattle.tree_runs.specs.Trees.{TreeRoutes, IsOverTrees, flat, IsLawfulTree, KeepsTreePremises}
use Rattle.tree_runs.specs.Branches.{delays_to, IsBranch}
use Rattle.tree_runs.specs.Bounded.{GrowsByStays, stays_along, stay_in, IsBoundedByQueues}
use Rattle.tree_runs.specs.Orders.{TreeGoesForward}
use Rattle.tree_runs.specs.Parts.{AreTreePaced}
use Rattle.tree_runs.specs.Examples.{forked}

-- ---- the network, and what its runs keep
-- server 0, and servers 1 and 2 over its link, which takes 5; none works faster than 100
abbrev pub paced_fork : TreeRoutes
paced_fork =
    record forked { servers = paced_server Fifo 100 ∷ paced_server Fifo 100 ∷ paced_server Fifo 100 ∷ [] }

-- the flow has packets of at most 12000 bits, one each 1000; each server works at 100 after a latency of 10
abbrev pub longest : ℕ → ℕ
longest i = 12000

abbrev pub at_entry : ℕ → ℚ → Ext
at_entry i = stair_value (whole 12000) (whole 1000) (whole 0)

abbrev pub service : ℕ → ℚ → Ext
service s = rate_latency_value (whole 100) (whole 10)

-- ---- the numbers
-- a packet stays at most 130 in the one queue of a server, and at most one is there; a server has no other queue
abbrev pub delay : ℕ → ℕ → Ext
delay s zero = Fin (whole 130)
delay s (suc q) = Inf

abbrev pub held : ℕ → ℕ → Ext
held s zero = Fin (whole 12000)
held s (suc q) = Inf

-- so behind server 0 the flow comes up to 130 early
abbrev pub jitter : ℕ → ℕ → ℚ
jitter i zero = whole 0
jitter i (suc s) = whole 130

abbrev pub arrival : ℕ → ℕ → ℚ → Ext
arrival i s = stair_value (whole 12000) (whole 1000) (jitter i s)

-- the branch to server 1
abbrev pub branch : List Hop
branch = hop 0 0 ∷ hop 1 0 ∷ []

-- ---- a run: server 1 lets the packet wait for its latency, as server 0 does, and server 2 does not
abbrev pub over_the_fork : SpecRun
over_the_fork =
    ends_at 265
    (Enter 0 0 (whole 0) 12000 ∷ Work 0 0 (whole 10) (whole 130) (whole 12000) ∷ Leave 0 0 (whole 130)
    ∷ Reach 1 0 (whole 130 +ℚ whole 5) ∷ Reach 2 0 (whole 130 +ℚ whole 5)
    ∷ Work 1 0 (whole 145) (whole 265) (whole 12000) ∷ Leave 1 0 (whole 265)
    ∷ Work 2 0 (whole 135) (whole 255) (whole 12000) ∷ Leave 2 0 (whole 255) ∷ [])

-- every run that keeps the premises is within the numbers; and this one, which does, reaches them at two queues and at
-- the end of the branch, so that no lesser ones hold
pub record BranchReachesItsSum : Type 0 where
  -- what `trees_are_bounded_by_parts` asks of the network and of the numbers
  pub over_trees : IsOverTrees paced_fork
  pub forward : TreeGoesForward paced_fork (λ s. s)
  pub paced : (s q : ℕ) → s < 3 → AreTreePaced paced_fork s q longest (λ p. 12000) (λ p. whole 100)
  pub nonneg : (s q : ℕ) → Fin (whole 0) ≤ₑ delay s q
  pub grows : GrowsByStays paced_fork arrival (stay_in paced_fork delay)
  -- the runs
  pub bounded : (run : SpecRun) → IsLawfulTree paced_fork run →
      KeepsTreePremises paced_fork longest at_entry service run →
      IsBoundedByQueues paced_fork run arrival delay held
  pub lawful : IsLawfulTree paced_fork over_the_fork
  pub keeps : KeepsTreePremises paced_fork longest at_entry service over_the_fork
  pub is_branch : IsBranch paced_fork 0 branch
  pub its_sum : sum_along (flat paced_fork) branch (stays_along (stay_in paced_fork delay) 0 branch) ≡ Fin (whole 265)
  pub its_delay : delays_to paced_fork over_the_fork 0 1 ≡ whole 265 ∷ []
  pub at_the_other : delays_to paced_fork over_the_fork 0 2 ≡ whole 255 ∷ []
  pub its_stay : hop_delays (of_queue 0) over_the_fork.end (view (flat paced_fork) over_the_fork 1) ≡ whole 130 ∷ []
  pub its_backlog : backlog (of_queue 0) (view (flat paced_fork) over_the_fork 0) (whole 0) ≡ whole 12000
