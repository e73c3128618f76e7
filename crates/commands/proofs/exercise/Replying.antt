-- The reply on a workload, from its parts.
use Rattle.std.proofs.Common.{◌≡◌, ℕ, List, inl, inr, sym, subst}
use Rattle.net_model.specs.Networks.{Net}
use Rattle.net_model.specs.Orders.{IsOrder}
use Rattle.net_model.specs.Traces.{SpecTrace}
use Rattle.net_model.specs.Walks.{IsCycle, IsFeedForward}
use Rattle.net_model.proofs.net_graph.Returns.{cycle_is_closed}
use Rattle.net_model.specs.stated_runs.FromTraces.{IsTraceOf}
use Rattle.net_cells.specs.Meanings.{CellTable}
use Rattle.command_replies.specs.Replies.{Reply}
use Rattle.command_replies.specs.simulated_findings.Found.{IsSimulationReplyBy}
use Rattle.exercise_load.specs.Loads.{AreOfWorkload}
use Rattle.exercise_load.specs.Workloads.{network_of}
use Rattle.exercise_load.specs.exercise_report.Summary.{summary_of}
use Rattle.exercise_load.proofs.Stand.{workloads_stand}
use Rattle.outcomes.specs.Stages.{stops}
use Rattle.commands.specs.Tabled.{IsStopped}
use Rattle.commands.specs.exercise.OnSeeds.{IsExerciseReply, IsReplyBeside, IsReplyInOrder}

-- a workload's network is that of its number
pub in_order : (seed : ℕ) (net : Net) (order : List ℕ) (reply : Reply) → net ≡ network_of seed → IsOrder net order
    → IsReplyInOrder seed net order reply → IsExerciseReply seed reply
in_order seed net order reply e o h =
    (order, subst (λ n. IsOrder n order) e o, subst (λ n. IsReplyInOrder seed n order reply) e h)

-- and so is its trace
pub beside : (seed : ℕ) (net : Net) (trace : SpecTrace) (at : CellTable) (reply : Reply)
    → AreOfWorkload seed net trace → IsSimulationReplyBy (summary_of seed) net trace at reply
    → IsReplyBeside seed at reply
beside seed net trace at reply w simulated =
    subst (λ t. IsSimulationReplyBy (summary_of seed) (network_of seed) t at reply) w.trace
    (subst (λ n. IsSimulationReplyBy (summary_of seed) n trace at reply) w.net simulated)

-- ---- what the call asks for
pub is_named : (seed : ℕ) (net : Net) (trace : SpecTrace) → AreOfWorkload seed net trace → IsTraceOf net trace
is_named seed net trace w =
    subst (λ n. IsTraceOf n trace) (sym w.net) (subst (λ t. IsTraceOf (network_of seed) t) (sym w.trace)
    (workloads_stand seed).named)

pub is_free : (seed : ℕ) (net : Net) (trace : SpecTrace) → AreOfWorkload seed net trace → IsFeedForward net
is_free seed net trace w = subst IsFeedForward (sym w.net) (workloads_stand seed).feed_forward

-- no flows of a workload go round
pub stopped : (seed : ℕ) (net : Net) (reply : Reply) → net ≡ network_of seed → IsStopped net reply
    → IsExerciseReply seed reply
stopped seed net reply e (inl h) =
    let round : IsCycle (network_of seed) h.walk = subst (λ n. IsCycle n h.walk) e h.cycle in
    absurd ((workloads_stand seed).feed_forward h.walk (cycle_is_closed (network_of seed) h.walk round))
stopped seed net reply e (inr (order, o, h)) = in_order seed net order reply e o (stops h)
