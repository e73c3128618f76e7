use Rattle.exercise_load.proofs.Stand.{workloads_stand}
use Rattle.exercise_load.proofs.laws.workloads_stand.Goals as goal

pub returns : goal.returns
returns c = workloads_stand
