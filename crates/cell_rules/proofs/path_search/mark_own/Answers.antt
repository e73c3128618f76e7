use Rattle.std.proofs.Common.{◌≡◌, ◌+◌, [], List, Bool, true, take, sym, subst, arith}
use Rattle.std.proofs.lemmas.List.{take_all}
use Rattle.net_cells.specs.declared.cell.Cell.{Cell}
use Rattle.net_cells.proofs.Lists.{contains_has}
use Rattle.cell_rules.specs.Marks.{is_marked, MarksOwn}
use Rattle.cell_rules.proofs.Marking.{mark_kept}
use Rattle.cell_rules.proofs.PathMarks.{own_taken}
use Rattle.cell_rules.proofs.path_search.mark_own.Goals as goal

pub loop-cell-init : goal.loop-cell-init
loop-cell-init c = record { kept = λ s m. m; own = λ d m. absurd (contains_has [] d m) }

pub loop-cell-preserved : goal.loop-cell-preserved
loop-cell-preserved c =
    let marks = c.loop-cell.marks.items in
    let cells = c.args.cells.now in
    let i = c.loop-cell.cell-index in
    record {
      kept = λ s m. subst (λ (ms : List Bool). is_marked ms s ≡ true) (sym c.mark.ensures)
          (mark_kept marks _ s (c.loop-cell.invariant.kept s m));
      own = subst (λ (ms : List Bool). MarksOwn (take (i + 1) cells) ms) (sym c.mark.ensures)
          (own_taken cells i marks (omega arith) c.loop-cell.invariant.own);
    }

pub returns-clause-own : goal.returns-clause-own
returns-clause-own c =
    subst (λ (xs : List Cell). MarksOwn xs c.loop-cell.marks.items)
    (take_all c.loop-cell.cell-index c.args.cells.now (omega arith)) c.loop-cell.invariant.own
