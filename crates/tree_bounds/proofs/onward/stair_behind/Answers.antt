use Rattle.std.proofs.Common.{◌+◌, arith}
use Rattle.tree_bounds.proofs.Onwards.{none_within}
use Rattle.tree_bounds.proofs.onward.stair_behind.Goals as goal

pub returns-in-None : goal.returns-in-None
returns-in-None c = none_within c.args.stair.frame c.args.stair.gap (c.args.stair.jitter + c.args.delay) (omega arith)
