use Rattle.std.proofs.Common.{List, Bool, sym, subst}
use Rattle.net_cells.specs.declared.cell.Cell.{Cell}
use Rattle.cell_rules.specs.Marks.{MarksOwn, MarksPaths}
use Rattle.cell_rules.proofs.path_search.search_paths.Goals as goal

pub search_marked-requires-clause-candidates : goal.search_marked-requires-clause-candidates
search_marked-requires-clause-candidates c =
    subst (λ (ms : List Bool). MarksPaths c.args.site c.args.old.now c.args.net.now ms) (sym c.deref-2.ensures.value)
    (λ d o e. c.mark_own.ensures.kept d.a (c.in_ok-marks.ensures c.args.old.now d o e))

pub search_marked-requires-clause-own : goal.search_marked-requires-clause-own
search_marked-requires-clause-own c =
    subst (λ (ms : List Bool). MarksOwn c.args.touched.now.items ms) (sym c.deref-2.ensures.value)
    (subst (λ (xs : List Cell). MarksOwn xs c.mark_own.new.marks.items) c.deref.ensures.value c.mark_own.ensures.own)
