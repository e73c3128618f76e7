use Rattle.std.proofs.Common.{sym}
use Rattle.run_check.proofs.ends.some_complete.Goals as goal

pub returns-then-is_complete-clause-complete : goal.returns-then-is_complete-clause-complete
returns-then-is_complete-clause-complete c = λ t. (c.loop-site.site-index, c.site-item.result, c.loop-site-test.true, sym c.site-item.is, c.is_complete.ensures.0 c.if-is_complete.true)
