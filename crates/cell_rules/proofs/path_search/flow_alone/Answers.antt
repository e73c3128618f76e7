use Rattle.std.proofs.Common.{◌≡◌, List, Bool, true, sym, subst}
use Rattle.cell_rules.specs.Marks.{is_marked}
use Rattle.cell_rules.proofs.Marking.{mark_here}
use Rattle.cell_rules.proofs.PathMarks.{flow_flows}
use Rattle.cell_rules.proofs.path_search.flow_alone.Goals as goal

pub returns : goal.returns
returns c = λ old net.
    let i = c.args.flow in
    flow_flows i c.mark.new.marks.items old net
    (subst (λ (ms : List Bool). is_marked ms i ≡ true) (sym c.mark.ensures) (mark_here c.in_ok-marks.marks.items i))
