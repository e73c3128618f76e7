use Rattle.cell_rules.proofs.Marking.{flow_candidates}
use Rattle.cell_rules.proofs.marks.marks_of_flow.Goals as goal

pub returns : goal.returns
returns c =
    flow_candidates c.args.old.now c.args.net.now c.args.flow c.mark_path-2.new.marks.items
    (λ s m. c.mark_path-2.ensures.kept s (c.mark_path.ensures.path s m)) c.mark_path-2.ensures.path
