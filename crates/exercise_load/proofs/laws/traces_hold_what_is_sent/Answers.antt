use Rattle.exercise_load.proofs.Sent.{hold_what_is_sent}
use Rattle.exercise_load.proofs.laws.traces_hold_what_is_sent.Goals as goal

pub returns : goal.returns
returns c = hold_what_is_sent
