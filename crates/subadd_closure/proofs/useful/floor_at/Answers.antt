use Rattle.rational.proofs.Compared.{least_by_test}
use Rattle.subadd_closure.proofs.useful.floor_at.Goals as goal

pub returns-in-Ok-clause-steep : goal.returns-in-Ok-clause-steep
returns-in-Ok-clause-steep c = least_by_test c.args.line.now.slope c.args.m c.if-is_less.ensures.less
