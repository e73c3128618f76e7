use Rattle.std.proofs.Common.{sym, ap, ◌∙◌, subst, map}
use Rattle.std.specs.Prelude.{Ok}
use Rattle.net_cells.specs.declared.cell.Kind.TheVariants.{In}
use Rattle.net_cells.specs.Order.{at_visit}
use Rattle.cell_numbers.specs.Chosen.{visit_list}
use Rattle.cell_eval.specs.Partial.{Adds, in_place, partial_of}
use Rattle.cell_eval.proofs.SumSteps.{adds_none}
use Rattle.cell_eval.proofs.curve_sums.add_flow.Goals as goal

pub add-requires-clause-cell : goal.add-requires-clause-cell
add-requires-clause-cell g c =
    c.requires.curves c.in-Some.hop (c.chosen_at.ensures ∙ ap (visit_list c.args.flow) c.in-Some.is)

pub returns-in-Some-clause-sum : goal.returns-in-Some-clause-sum
returns-in-Some-clause-sum g c = λ cells h.
    let at = g.T.Table.at c.args.inputs.now.table.now in
    let is = c.chosen_at.ensures ∙ ap (visit_list c.args.flow) c.in-Some.is in
    let r = in_place (partial_of c.add.new.so_far) c.add.result in
    subst (λ vs. Adds at cells (map (at_visit In) vs) c.args.steps.now c.add.new.steps r) (sym is) (c.add.ensures.sum cells h)

pub returns-in-None-clause-sum : goal.returns-in-None-clause-sum
returns-in-None-clause-sum g c = λ cells h.
    let at = g.T.Table.at c.args.inputs.now.table.now in
    let is = c.chosen_at.ensures ∙ ap (visit_list c.args.flow) c.in-None.is in
    subst (λ vs. Adds at cells (map (at_visit In) vs) c.args.steps.now c.args.steps.now (Ok (partial_of c.args.so_far.now))) (sym is)
    (adds_none at cells (partial_of c.args.so_far.now) c.args.steps.now h)
