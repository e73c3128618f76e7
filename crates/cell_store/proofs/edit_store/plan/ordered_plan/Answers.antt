use Rattle.std.proofs.Common.{sym, subst}
use Rattle.net_edits.specs.declared.fault.EditFault.{EditFault}
use Rattle.cell_store.specs.edit_store.Applied.{IsUnplanned}
use Rattle.cell_store.proofs.edit_store.Outcomes.{cycle_unplanned}
use Rattle.cell_store.proofs.edit_store.plan.ordered_plan.Goals as goal

pub returns-in-Err-clause-refused : goal.returns-in-Err-clause-refused
returns-in-Err-clause-refused c =
    subst (λ (f : EditFault). IsUnplanned c.args.present.now c.args.edit.now f) (sym c.graph_fault.ensures)
    (cycle_unplanned c.args.present.now c.args.edit.now c.args.net c.in-Err.fault c.requires.gives c.in-Err.ensures.fault)
