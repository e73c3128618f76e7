use Rattle.upp_limits.proofs.Gathering.{twice_exact, twice_over}
use Rattle.upp_limits.proofs.gathered.twice_parts_up.Goals as goal

pub returns-then-double-bottom-eq0 : goal.returns-then-double-bottom-eq0
returns-then-double-bottom-eq0 c =
    twice_exact c.args.x c.sizes-top.result.0 c.sizes-top.result.1 c.sizes-top.ensures.top c.sizes-top.ensures.bottom c.if-double-bottom-eq0.true

pub returns-else-double-bottom-eq0 : goal.returns-else-double-bottom-eq0
returns-else-double-bottom-eq0 c =
    twice_over c.args.x c.sizes-top.result.0 c.sizes-top.result.1 c.sizes-top.ensures.top c.sizes-top.ensures.bottom c.if-double-bottom-eq0.false
