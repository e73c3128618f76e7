use Rattle.std.proofs.Common.{◌≡◌, [], ℕ, ◌<◌, List, length, true, subst, ◌∙◌, arith}
use Rattle.std.proofs.lemmas.List.{take_all, get_or_default}
use Rattle.net_cells.specs.declared.cell.Cell.{Cell}
use Rattle.net_cells.proofs.Lists.{contains_has}
use Rattle.net_cells.proofs.cell_table.Fronts.{no_cell, cell_at}
use Rattle.cell_rules.specs.Marks.{is_marked, MarksOnward}
use Rattle.cell_rules.proofs.Marking.{onward_more, few_columns}
use Rattle.cell_rules.proofs.marks.mark_onward.Goals as goal

pub loop-cell-init : goal.loop-cell-init
loop-cell-init c = record { kept = λ s m. m; onward = λ i k m e. absurd (contains_has [] _ m) }

pub overflow_add-cell : goal.overflow_add-cell
overflow_add-cell c =
    let cells = c.args.cells.now in
    let i = c.loop-cell.cell-index in
    let within : i < length cells = omega arith in
    let few = few_columns (cell_at cells i)
    (c.requires.places (cell_at cells i) (i, within, get_or_default cells i (cell_at cells i) no_cell within)) in
    omega (arith, few)

pub loop-cell-preserved : goal.loop-cell-preserved
loop-cell-preserved c = record {
  kept = λ s m. c.mark_if.ensures.kept s (c.loop-cell.invariant.kept s m);
  onward = onward_more c.args.net.now c.args.cells.now c.loop-cell.cell-index c.args.flags.now c.loop-cell.marks.items
      c.mark_if.new.marks.items (omega arith) c.loop-cell.invariant.onward c.mark_if.ensures.kept
      (λ e. subst (λ (n : ℕ). is_marked c.mark_if.new.marks.items n ≡ true) c.server_of_hop-next.ensures
      (c.mark_if.ensures.here (c.goes_on.ensures ∙ e)));
}

pub returns-clause-onward : goal.returns-clause-onward
returns-clause-onward c =
    subst (λ (xs : List Cell). MarksOnward c.args.net.now xs c.args.flags.now c.loop-cell.marks.items)
    (take_all c.loop-cell.cell-index c.args.cells.now (omega arith)) c.loop-cell.invariant.onward
