use Rattle.element_envelope.proofs.RunningWindows.{starts_below}
use Rattle.element_envelope.proofs.running.line_above.Goals as goal

pub returns : goal.returns
returns c = starts_below c.args.p.now (c.is_below.ensures c.if-not-is_below.false)
