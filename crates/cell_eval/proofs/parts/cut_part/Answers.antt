use Rattle.std.proofs.Common.{ℕ, sym, ap, ◌∙◌, subst, [], map}
use Rattle.std.specs.Prelude.{Some, Ok}
use Rattle.net_cells.specs.declared.cell.Kind.TheVariants.{In}
use Rattle.net_cells.specs.Order.{at_visit}
use Rattle.net_cells.specs.QueueParts.{in_part}
use Rattle.net_cells.specs.Meanings.{curve}
use Rattle.cell_eval.specs.Partial.{IsSummed, Adds}
use Rattle.cell_eval.specs.Parts.{part_answer}
use Rattle.cell_eval.proofs.SumSteps.{one_summed, made_summed}
use Rattle.cell_eval.proofs.PartSteps.{none_there, some_there, none_counts, cut_counts, cut_refused}
use Rattle.cell_eval.proofs.parts.cut_part.Given.{Over}
use Rattle.cell_eval.proofs.parts.cut_part.Goals.{After-deref, In-Made}
use Rattle.cell_eval.proofs.parts.cut_part.Goals as goal

-- ---- no hop
pub returns-in-Nothing-clause-part : goal.returns-in-Nothing-clause-part
returns-in-Nothing-clause-part g c = λ old a.
    let hops = in_part c.args.inputs.now.net.now c.args.place.0 c.args.place.1 c.args.part in
    none_there hops (subst (λ p. Adds (g.T.Table.at c.args.inputs.now.table.now) [] (map (at_visit In) hops) old c.args.steps.now (Ok p)) c.in-Nothing.is a).0

pub returns-in-Nothing-clause-counts : goal.returns-in-Nothing-clause-counts
returns-in-Nothing-clause-counts g c = λ old a.
    let at = g.T.Table.at c.args.inputs.now.table.now in
    let cells = map (at_visit In) (in_part c.args.inputs.now.net.now c.args.place.0 c.args.place.1 c.args.part) in
    let adds = subst (λ p. Adds at [] cells old c.args.steps.now (Ok p)) c.in-Nothing.is a in
    none_counts c.args.inputs.now.net.now c.args.place.0 c.args.place.1 c.args.part old c.args.steps.now at _ adds

-- ---- one hop: its cell's own curve
one : (g : Over) (c : After-deref g) (old : ℕ)
    → Adds (g.T.Table.at c.args.inputs.now.table.now) [] (map (at_visit In) (in_part c.args.inputs.now.net.now c.args.place.0 c.args.place.1 c.args.part)) old
    c.args.steps.now (Ok c.args.flows)
    → IsSummed (g.T.Table.at c.args.inputs.now.table.now) (map (at_visit In) (in_part c.args.inputs.now.net.now c.args.place.0 c.args.place.1 c.args.part))
    c.deref.result.now
one g c old a =
    let at = g.T.Table.at c.args.inputs.now.table.now in
    let cells = map (at_visit In) (in_part c.args.inputs.now.net.now c.args.place.0 c.args.place.1 c.args.part) in
    one_summed at cells c.in-One.cell c.deref.result.now (subst (λ p. Adds at [] cells old c.args.steps.now (Ok p)) c.in-One.is a).0
    (c.curve_at.ensures ∙ ap (λ f. Some (curve f)) (sym c.deref.ensures))

pub returns-in-One-clause-part : goal.returns-in-One-clause-part
returns-in-One-clause-part g c = λ old a.
    let is = one g (goal.at.returns-in-One-clause-part g c).After-deref old a in
    let hops = in_part c.args.inputs.now.net.now c.args.place.0 c.args.place.1 c.args.part in
    c.cut_sum.ensures.part (g.T.Table.at c.args.inputs.now.table.now) (some_there hops 1 is.some) is.answers

pub returns-in-One-clause-counts : goal.returns-in-One-clause-counts
returns-in-One-clause-counts g c = λ old a.
    let is = one g (goal.at.returns-in-One-clause-counts g c).After-deref old a in
    let hops = in_part c.args.inputs.now.net.now c.args.place.0 c.args.place.1 c.args.part in
    let at = g.T.Table.at c.args.inputs.now.table.now in
    cut_counts c.args.inputs.now.net.now c.args.place.0 c.args.place.1 c.args.part old c.args.steps.now c.cut_sum.new.steps at c.args.flows
    (part_answer at c.cut_sum.result) c.requires.link (some_there hops 1 is.some) a (c.cut_sum.ensures.counts at)

pub returns-in-One-clause-refused : goal.returns-in-One-clause-refused
returns-in-One-clause-refused g c =
    let at = g.T.Table.at c.args.inputs.now.table.now in
    cut_refused c.args.inputs.now.net.now c.args.place.0 c.args.place.1 c.args.part at c.args.flows c.deref.result.now c.args.steps.now c.cut_sum.new.steps
    c.cut_sum.result (c.cut_sum.ensures.counts at).least (one g (goal.at.returns-in-One-clause-refused g c).After-deref) c.cut_sum.ensures.refused

-- ---- more hops: the sum that was made
many : (g : Over) (c : In-Made g) (old : ℕ)
    → Adds (g.T.Table.at c.args.inputs.now.table.now) [] (map (at_visit In) (in_part c.args.inputs.now.net.now c.args.place.0 c.args.place.1 c.args.part)) old
    c.args.steps.now (Ok c.args.flows)
    → IsSummed (g.T.Table.at c.args.inputs.now.table.now) (map (at_visit In) (in_part c.args.inputs.now.net.now c.args.place.0 c.args.place.1 c.args.part))
    c.in-Made.made
many g c old a =
    let at = g.T.Table.at c.args.inputs.now.table.now in
    let cells = map (at_visit In) (in_part c.args.inputs.now.net.now c.args.place.0 c.args.place.1 c.args.part) in
    made_summed at cells c.in-Made.made (subst (λ p. Adds at [] cells old c.args.steps.now (Ok p)) c.in-Made.is a).0

pub returns-in-Made-clause-part : goal.returns-in-Made-clause-part
returns-in-Made-clause-part g c = λ old a.
    let is = many g (goal.at.returns-in-Made-clause-part g c).In-Made old a in
    let hops = in_part c.args.inputs.now.net.now c.args.place.0 c.args.place.1 c.args.part in
    c.cut_sum-in-Made.ensures.part (g.T.Table.at c.args.inputs.now.table.now) (some_there hops 1 is.some) is.answers

pub returns-in-Made-clause-counts : goal.returns-in-Made-clause-counts
returns-in-Made-clause-counts g c = λ old a.
    let is = many g (goal.at.returns-in-Made-clause-counts g c).In-Made old a in
    let hops = in_part c.args.inputs.now.net.now c.args.place.0 c.args.place.1 c.args.part in
    let at = g.T.Table.at c.args.inputs.now.table.now in
    cut_counts c.args.inputs.now.net.now c.args.place.0 c.args.place.1 c.args.part old c.args.steps.now c.cut_sum-in-Made.new.steps at c.args.flows
    (part_answer at c.cut_sum-in-Made.result) c.requires.link (some_there hops 1 is.some) a (c.cut_sum-in-Made.ensures.counts at)

pub returns-in-Made-clause-refused : goal.returns-in-Made-clause-refused
returns-in-Made-clause-refused g c =
    let at = g.T.Table.at c.args.inputs.now.table.now in
    cut_refused c.args.inputs.now.net.now c.args.place.0 c.args.place.1 c.args.part at c.args.flows c.in-Made.made c.args.steps.now
    c.cut_sum-in-Made.new.steps c.cut_sum-in-Made.result (c.cut_sum-in-Made.ensures.counts at).least
    (many g (goal.at.returns-in-Made-clause-refused g c).In-Made) c.cut_sum-in-Made.ensures.refused
