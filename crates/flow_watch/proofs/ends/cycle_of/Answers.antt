use Rattle.std.proofs.Common.{sym, ◌∙◌}
use Rattle.flow_watch.proofs.ends.cycle_of.Goals as goal

pub returns : goal.returns
returns c = record { tail = sym c.tail.ensures.tail ∙ c.in-Periodic.is; end = c.in-Ok.ensures.value }
