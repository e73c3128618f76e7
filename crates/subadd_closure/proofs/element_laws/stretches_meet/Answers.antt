use Rattle.subadd_closure.proofs.MeetNumbers.{stretches_meet}
use Rattle.subadd_closure.proofs.element_laws.stretches_meet.Goals as goal

pub returns : goal.returns
returns c = stretches_meet
