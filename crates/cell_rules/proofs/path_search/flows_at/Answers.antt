use Rattle.cell_rules.proofs.PathMarks.{server_flows}
use Rattle.cell_rules.proofs.path_search.flows_at.Goals as goal

pub returns : goal.returns
returns c = λ old.
    server_flows c.args.net.now c.args.server c.mark_passing.new.marks.items old c.keeps.ensures c.mark_passing.ensures.passing
