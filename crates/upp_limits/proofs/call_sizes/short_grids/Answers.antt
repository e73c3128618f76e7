use Rattle.upp_limits.proofs.ShortCalls.{narrow_short}
use Rattle.upp_limits.proofs.call_sizes.short_grids.Goals as goal

pub returns-then-is_short_call : goal.returns-then-is_short_call
returns-then-is_short_call c = let a = c.args in narrow_short a.op.now a.f.now a.g.now a.end (c.is_short_call.ensures.0 c.if-is_short_call.true)
