use Rattle.rational.proofs.Laws.{not_zero}
use Rattle.subadd_closure.proofs.ordered.most_periods.Goals as goal

pub div-requires : goal.div-requires
div-requires c = not_zero c.args.own c.requires
