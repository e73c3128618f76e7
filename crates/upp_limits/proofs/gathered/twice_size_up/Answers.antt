use Rattle.upp_limits.proofs.Gathering.{twice_whole}
use Rattle.upp_limits.proofs.gathered.twice_size_up.Goals as goal

pub returns-then-bottom-eq1 : goal.returns-then-bottom-eq1
returns-then-bottom-eq1 c =
    twice_whole c.args.x c.sizes-top.result.0 c.sizes-top.result.1 c.sizes-top.ensures.top c.sizes-top.ensures.bottom c.if-bottom-eq1.true
