-- A workload has one reply; within the limits it is a summary.
use Rattle.std.proofs.Common.{ℕ, List}
use Rattle.net_model.specs.Orders.{IsOrder}
use Rattle.net_model.proofs.net_graph.OneOrders.{one_order}
use Rattle.command_replies.specs.OnFiles.{IsTableOf, OnCurves}
use Rattle.outcomes.specs.Stages.{AreAlike, IsEqual, GoOnAlike}
use Rattle.command_replies.proofs.OneReply.{order_alike, order_reached}
use Rattle.outcomes.proofs.Stages.{on_one}
use Rattle.command_replies.proofs.simulated_findings.OneSimulation.{same_simulation, on_simulation}
use Rattle.exercise_load.specs.Workloads.{network_of, trace_of}
use Rattle.exercise_load.proofs.Stand.{workloads_stand}
use Rattle.exercise_load.specs.exercise_report.Summary.{summary_of}
use Rattle.exercise_load.proofs.exercise_report.OneSummary.{one_summary}
use Rattle.commands.specs.exercise.OnSeeds.{IsReplyBeside, IsReplyInOrder}
use Rattle.commands.specs.exercise.Laws.{RepliesAreDetermined, RepliesAreComplete}

summaries_alike : (seed : ℕ) (order : List ℕ) → IsOrder (network_of seed) order
    → GoOnAlike IsEqual (IsTableOf (network_of seed) order) (OnCurves (network_of seed) (IsReplyBeside seed))
summaries_alike seed order o at other x y m n h k =
    let s = workloads_stand seed in
    same_simulation (summary_of seed) (network_of seed) (trace_of seed) at other x y s.accepted s.keeps s.named h.0
    (λ found. one_summary seed (network_of seed) order at other found s.accepted o m.meets n.meets) h.1 k.1

in_order : (seed : ℕ) (order : List ℕ) → IsOrder (network_of seed) order
    → AreAlike IsEqual (IsReplyInOrder seed (network_of seed) order)
in_order seed order o =
    order_alike IsEqual (λ x y same. same) (network_of seed) order (OnCurves (network_of seed) (IsReplyBeside seed))
    (workloads_stand seed).accepted o (summaries_alike seed order o)

pub replies_are_determined : RepliesAreDetermined
replies_are_determined seed x y h k =
    let net = network_of seed in
    on_one (IsOrder net) (IsReplyInOrder seed net) IsEqual (λ a b o p. one_order net a b o p) (in_order seed)
    h.0 k.0 x y h.1 k.1 h.2 k.2

-- ---- within the limits
pub replies_are_complete : RepliesAreComplete
replies_are_complete seed reply w h =
    let net = network_of seed in
    let told =
    order_reached net h.0 (OnCurves net (IsReplyBeside seed)) reply (λ c fault. w.within h.0 c fault h.1) h.2 in
    on_simulation (summary_of seed) net (trace_of seed) told.0 reply w.narrow told.1.1
