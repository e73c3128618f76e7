use Rattle.worked_tables.proofs.ForkRun.{the_fork_reaches}
use Rattle.worked_tables.proofs.forked.a_run_reaches_its_bound.Goals as goal

pub returns : goal.returns
returns c = the_fork_reaches
