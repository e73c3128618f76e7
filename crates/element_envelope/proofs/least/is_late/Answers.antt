use Rattle.element_envelope.proofs.EnvelopeHalves.{late_is}
use Rattle.element_envelope.proofs.least.is_late.Goals as goal

pub returns-in-Ok : goal.returns-in-Ok
returns-in-Ok c = late_is c.is_less.result c.in-Ok.start c.args.end _ _ _ _ c.is_less.ensures.less c.in-Ok.ensures.value c.start_of.ensures c.start_of-2.ensures
