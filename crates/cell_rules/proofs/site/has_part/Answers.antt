use Rattle.cell_rules.proofs.Unchanged.{told_part}
use Rattle.cell_rules.proofs.site.has_part.Goals as goal

pub returns : goal.returns
returns c =
    told_part c.args.net.now c.args.place.0 c.args.place.1 c.args.part c.is_unused.result c.is_unused.ensures
