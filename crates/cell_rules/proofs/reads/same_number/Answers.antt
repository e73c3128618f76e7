use Rattle.cell_rules.proofs.Tells.{tells_when}
use Rattle.cell_rules.proofs.reads.same_number.Goals as goal

pub returns : goal.returns
returns c = tells_when c.args.here c.args.there c.eq.result c.eq.ensures.same
