use Rattle.std.proofs.Common.{subst}
use Rattle.curve_call.specs.Again.{IsAgain}
use Rattle.net_cells.specs.Numbered.{zero_curve}
use Rattle.net_cells.specs.cell_table.Values.{answer_of, meaning_of}
use Rattle.cell_eval.specs.Partial.{IsPartial}
use Rattle.cell_eval.proofs.Handing.{again_out, shared_makes}
use Rattle.cell_eval.proofs.SumSteps.{none_given, one_given, made_given}
use Rattle.cell_eval.proofs.curve_sums.finished.Goals as goal

pub returns-in-Nothing : goal.returns-in-Nothing
returns-in-Nothing g c = λ cells h.
    let at = g.T.Table.at c.args.table.now in
    let r = answer_of meaning_of c.shared.result in
    none_given at cells r (subst (IsPartial at cells) c.in-Nothing.is h)
    (shared_makes (IsAgain zero_curve) c.nothing.result r (again_out zero_curve) c.nothing.ensures c.shared.ensures)

pub returns-in-One : goal.returns-in-One
returns-in-One g c = λ cells h.
    let at = g.T.Table.at c.args.table.now in
    one_given at cells c.in-One.cell (answer_of meaning_of c.again.result) (subst (IsPartial at cells) c.in-One.is h) c.again.ensures

pub returns-in-Made : goal.returns-in-Made
returns-in-Made g c = λ cells h.
    let at = g.T.Table.at c.args.table.now in
    made_given at cells c.in-Made.made (answer_of meaning_of c.shared-in-Made.result) (subst (IsPartial at cells) c.in-Made.is h) c.shared-in-Made.ensures
