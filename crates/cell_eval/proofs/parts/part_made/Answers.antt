use Rattle.std.proofs.Common.{rules, ◌≡◌, ℕ, ◌-◌, List, [], map, sym, subst}
use Rattle.std.specs.Prelude.{Result, Ok, Err}
use Rattle.upp_limits.specs.declared.op_kind.OpFault.{OpFault}
use Rattle.net_cells.specs.declared.cell.Kind.TheVariants.{In}
use Rattle.net_cells.specs.declared.visit.Visit.{Visit}
use Rattle.net_cells.specs.Order.{at_visit}
use Rattle.net_cells.specs.QueueParts.{in_part}
use Rattle.net_cells.specs.CellFormulas.{part_sum}
use Rattle.net_cells.specs.Refusals.{RefusedAt}
use Rattle.cell_eval.specs.declared.curve_sums.Partial.{Partial}
use Rattle.outcomes.specs.Spending.{Counts}
use Rattle.cell_eval.specs.Partial.{Adds}
use Rattle.cell_eval.specs.Parts.{MakesPart, part_answer, part_work}
use Rattle.cell_numbers.proofs.Choosing.{part_visits}
use Rattle.outcomes.proofs.Spending.{counts_all}
use Rattle.cell_eval.proofs.OperatorStopping.{err_map}
use Rattle.cell_eval.proofs.SumSteps.{failed_at}
use Rattle.cell_eval.proofs.PartSteps.{entering, entering_counts, refused_part, refused_counts, part_refused}
use Rattle.cell_eval.proofs.parts.part_made.Given.{Over}
use Rattle.cell_eval.proofs.parts.part_made.Goals.{After-flows_sum}
use Rattle.cell_eval.proofs.parts.part_made.Goals as goal

-- ---- the sum of the part's flows
abbrev visits : (g : Over) → After-flows_sum g → List Visit
visits g c = in_part c.args.inputs.now.net.now c.args.place.0 c.args.place.1 c.args.part

abbrev Adding : (g : Over) → After-flows_sum g → List Visit → Result Partial OpFault → Type 0
Adding g c vs = Adds (g.T.Table.at c.args.inputs.now.table.now) [] (map (at_visit In) vs) c.args.steps.now c.flows_sum.new.steps

summed : (g : Over) (c : After-flows_sum g) (r : Result Partial OpFault) → c.flows_sum.result ≡ r → Adding g c (visits g c) r
summed g c r is =
    subst (Adding g c (visits g c)) is
    (subst (λ (vs : List Visit). Adding g c vs c.flows_sum.result) (sym (part_visits c.args.inputs.now.net.now c.args.place.0 c.args.place.1 c.args.part))
    c.flows_sum.ensures.sum)

-- of the flows that enter there
entered : (g : Over) (c : After-flows_sum g) (p : Partial) → c.flows_sum.result ≡ Ok p → c.args.part ≡ 0
    → Adding g c (in_part c.args.inputs.now.net.now c.args.place.0 c.args.place.1 0) (Ok p)
entered g c p is none =
    subst (λ k. Adding g c (in_part c.args.inputs.now.net.now c.args.place.0 c.args.place.1 k) (Ok p)) none (summed g c (Ok p) is)

pub returns-then-part-eq0-clause-part : goal.returns-then-part-eq0-clause-part
returns-then-part-eq0-clause-part g c =
    let adds = entered g (goal.at.returns-then-part-eq0-clause-part g c).After-flows_sum c.in-Ok.flows c.in-Ok.is c.if-part-eq0.true in
    let at = g.T.Table.at c.args.inputs.now.table.now in
    subst (λ k. MakesPart at c.args.inputs.now.net.now c.args.place.0 c.args.place.1 k (Ok c.in-Ok.flows)) (sym c.if-part-eq0.true)
    (entering at c.args.inputs.now.net.now c.args.place.0 c.args.place.1 c.in-Ok.flows adds.0 (search rules))

pub returns-then-part-eq0-clause-counts : goal.returns-then-part-eq0-clause-counts
returns-then-part-eq0-clause-counts g c =
    let adds = entered g (goal.at.returns-then-part-eq0-clause-counts g c).After-flows_sum c.in-Ok.flows c.in-Ok.is c.if-part-eq0.true in
    let net = c.args.inputs.now.net.now in
    let old = c.args.steps.now in
    let new = c.flows_sum.new.steps in
    let r = part_answer (g.T.Table.at c.args.inputs.now.table.now) (Ok c.in-Ok.flows) in
    subst (λ k. Counts (part_work net c.args.place.0 c.args.place.1 k) old new r) (sym c.if-part-eq0.true)
    (counts_all (part_work net c.args.place.0 c.args.place.1 0) old new r
    (entering_counts net c.args.place.0 c.args.place.1 old new (g.T.Table.at c.args.inputs.now.table.now) c.in-Ok.flows adds))

-- of those that come over a link
pub returns-else-part-eq0-clause-part : goal.returns-else-part-eq0-clause-part
returns-else-part-eq0-clause-part g c =
    c.cut_part.ensures.part c.args.steps.now
    (summed g (goal.at.returns-else-part-eq0-clause-part g c).After-flows_sum (Ok c.in-Ok.flows) c.in-Ok.is)

pub returns-else-part-eq0-clause-counts : goal.returns-else-part-eq0-clause-counts
returns-else-part-eq0-clause-counts g c =
    c.cut_part.ensures.counts c.args.steps.now
    (summed g (goal.at.returns-else-part-eq0-clause-counts g c).After-flows_sum (Ok c.in-Ok.flows) c.in-Ok.is)

pub returns-else-part-eq0-clause-refused : goal.returns-else-part-eq0-clause-refused
returns-else-part-eq0-clause-refused g c =
    let here = (goal.at.returns-else-part-eq0-clause-refused g c).After-flows_sum in
    let at = g.T.Table.at c.args.inputs.now.table.now in
    let vs = visits g here in
    let sum = part_sum c.args.inputs.now.net.now c.args.part vs in
    err_map c.cut_part.result
    (λ e. (old : ℕ) → Adds at [] (map (at_visit In) vs) old c.flows_sum.new.steps (Ok c.in-Ok.flows)
    → RefusedAt at sum e (c.cut_part.new.steps - old))
    (λ e. RefusedAt at sum e (c.cut_part.new.steps - c.args.steps.now))
    (λ e r. r c.args.steps.now (summed g here (Ok c.in-Ok.flows) c.in-Ok.is)) c.cut_part.ensures.refused

-- where the flows' sum is refused
pub returns-in-Err-clause-part : goal.returns-in-Err-clause-part
returns-in-Err-clause-part g c =
    let here = (goal.at.returns-in-Err-clause-part g c).After-flows_sum in
    let net = c.args.inputs.now.net.now in
    refused_part (g.T.Table.at c.args.inputs.now.table.now) net c.args.place.0 c.args.place.1 c.args.part c.args.steps.now c.flows_sum.new.steps
    c.in-Err.fault (summed g here (Err c.in-Err.fault) c.in-Err.is).0

pub returns-in-Err-clause-counts : goal.returns-in-Err-clause-counts
returns-in-Err-clause-counts g c =
    let here = (goal.at.returns-in-Err-clause-counts g c).After-flows_sum in
    refused_counts c.args.inputs.now.net.now c.args.place.0 c.args.place.1 c.args.part c.args.steps.now c.flows_sum.new.steps
    (g.T.Table.at c.args.inputs.now.table.now) c.in-Err.fault (summed g here (Err c.in-Err.fault) c.in-Err.is)

pub returns-in-Err-clause-refused : goal.returns-in-Err-clause-refused
returns-in-Err-clause-refused g c =
    let here = (goal.at.returns-in-Err-clause-refused g c).After-flows_sum in
    let at = g.T.Table.at c.args.inputs.now.table.now in
    let new = c.flows_sum.new.steps in
    part_refused at c.args.inputs.now.net.now c.args.part (visits g here) c.in-Err.fault (new - c.args.steps.now)
    (failed_at at (map (at_visit In) (visits g here)) c.args.steps.now new c.in-Err.fault
    (summed g here (Err c.in-Err.fault) c.in-Err.is).0)
