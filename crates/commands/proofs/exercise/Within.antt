-- A summary without a breach shows no number above its bound; the largest bound of each holds for every run.
use Rattle.std.proofs.Common.{◌≡◌, ℕ, ◌<◌, List, [], ◌∷◌, length, sym, ap, subst, ◌∙◌}
use Rattle.std.specs.Prelude.{IsTrue, Some, None, is_some, slice_get}
use Rattle.std.proofs.lemmas.Option.{slice_get-get_or, same_Some}
use Rattle.rational.specs.Rational.{ℚ}
use Rattle.rational.specs.Extended.{Ext, ◌≤ₑ◌}
use Rattle.rational.specs.declared.Extended.TheVariants.{Fin}
use Rattle.rational.proofs.ExtendedOrder.{le_ext_trans}
use Rattle.run_laws.specs.Delays.{AreAtMost}
use Rattle.run_laws.specs.FlowDelays.{delays}
use Rattle.run_laws.specs.Lawful.{IsLawful}
use Rattle.net_model.specs.Accepted.{IsAccepted}
use Rattle.net_model.specs.Networks.{Net}
use Rattle.net_model.specs.NetRoutes.{routes_of}
use Rattle.net_model.specs.Orders.{IsOrder}
use Rattle.net_cells.specs.Equations.{MeetsEquations}
use Rattle.net_cells.specs.Meanings.{CellTable}
use Rattle.net_cells.specs.Numbered.{is_live}
use Rattle.net_bounds.specs.NetRuns.{IsRunOf}
use Rattle.net_bounds.proofs.Kept.{table_bounds_every_run}
use Rattle.command_replies.specs.Replies.{Reply}
use Rattle.command_replies.specs.run_findings.RunBounds.{AreWithinBounds}
use Rattle.command_replies.proofs.run_findings.Bounded.{within}
use Rattle.command_replies.proofs.simulated_findings.Lawful.{lawful}
use Rattle.command_replies.proofs.run_findings.Reports.{tells}
use Rattle.exercise_load.specs.Workloads.{network_of, trace_of}
use Rattle.exercise_load.proofs.Stand.{workloads_stand, flow_at, flow_count}
use Rattle.exercise_load.specs.exercise_report.Summary.{summary_of}
use Rattle.exercise_load.specs.exercise_report.Largest.{largest_bound, largest_delay}
use Rattle.exercise_load.proofs.exercise_report.LargestIs.{largest_bound_is, delays_below}
use Rattle.commands.specs.exercise.OnSeeds.{IsSummarised}
use Rattle.commands.specs.exercise.Laws.{SummaryTellsPremises, IsQuietSummary, QuietSummariesAreWithinBounds}
use Rattle.commands.specs.exercise.Laws.{BoundsEachDelay, SummariesGuarantee}
use Rattle.commands.proofs.exercise.Causes.{causes}

-- ---- statuses
law_of : (seed : ℕ) (reply : Reply) (h : IsSummarised seed reply) → IsLawful (routes_of (network_of seed)) h.report.run
law_of seed reply h =
    let s = workloads_stand seed in
    lawful (network_of seed) (trace_of seed) h.report.run s.accepted s.keeps s.named h.report.stated

pub status_tells : SummaryTellsPremises
status_tells seed reply h =
    tells (summary_of seed) (network_of seed) h.report.run (length (trace_of seed).packets) h.at reply
    (law_of seed reply h) (workloads_stand seed).accepted h.analysed.curves h.report.tells

-- ---- a quiet summary
-- each flow of a workload is live
all_live : (seed i : ℕ) → i < 24 → IsTrue (is_live (network_of seed) i)
all_live seed i h = ap is_some (flow_at seed i None h)

largest_within : (seed : ℕ) (reply : Reply) (h : IsSummarised seed reply)
    → AreWithinBounds (network_of seed) h.at h.report.tells.found
    → Fin (largest_delay h.report.tells.found.worst) ≤ₑ largest_bound (network_of seed) h.at
largest_within seed reply h w =
    let net = network_of seed in
    let l = largest_bound_is net h.at in
    let worst = h.report.tells.found.worst in
    delays_below worst (largest_bound net h.at) l.from_zero
    (λ x there.
    let i = there.0 in
    let inside : i < 24 =
    subst (λ n. i < n) (flow_count seed) (subst (λ n. i < n) h.report.tells.finds.worst.as_many there.1) in
    let live = all_live seed i inside in
    let own = w.delays i live in
    let shown : slice_get worst i ≡ Some x = slice_get-get_or worst i x there.1 ∙ ap Some there.2 in
    let same : own.value ≡ x = same_Some own.value x (sym own.is ∙ shown) in
    let most = own.within in
    le_ext_trans (Fin x) most.value (largest_bound net h.at) (subst (λ y. Fin y ≤ₑ most.value) same most.holds)
    (l.above i most.value record { live = live; is = most.is }))

quiet : (seed : ℕ) (reply : Reply) → IsSummarised seed reply → reply.status ≡ 0 → IsQuietSummary seed reply
quiet seed reply h zero =
    let is_run : IsRunOf (network_of seed) h.report.run =
    record { lawful = law_of seed reply h; keeps = (status_tells seed reply h).keeps.0 zero } in
    let a = h.analysed in
    let w = within (network_of seed) a.order h.at h.report.run (length (trace_of seed).packets) h.report.tells.found
    (workloads_stand seed).accepted a.ordered a.meets is_run h.report.tells.finds in
    record { summary = h; is_run = is_run; within = w; largest = largest_within seed reply h w }

pub quiet_summaries : QuietSummariesAreWithinBounds
quiet_summaries seed reply h zero = quiet seed reply ((causes seed reply h).done zero) zero

-- ---- the guarantee
at_most : (x y : Ext) (xs : List ℚ) → AreAtMost x xs → x ≤ₑ y → AreAtMost y xs
at_most x y [] h l = tt
at_most x y (z ∷ zs) h l = (le_ext_trans (Fin z) x y h.0 l, at_most x y zs h.1 l)

each_delay : (net : Net) (order : List ℕ) (at : CellTable) → IsAccepted net → IsOrder net order → MeetsEquations net at
    → BoundsEachDelay net at
each_delay net order at a o meets run i is_run live =
    let own = ((table_bounds_every_run net order at run a o meets is_run).paths i live).bound in
    at_most own.value (largest_bound net at) (delays (routes_of net) run i) own.holds
    ((largest_bound_is net at).above i own.value record { live = live; is = own.is })

pub guarantee : SummariesGuarantee
guarantee seed reply h =
    let a = h.analysed in
    let accepted = (workloads_stand seed).accepted in
    record {
      table = λ run is_run.
          table_bounds_every_run (network_of seed) a.order h.at run accepted a.ordered a.meets is_run;
      largest = each_delay (network_of seed) a.order h.at accepted a.ordered a.meets;
    }
