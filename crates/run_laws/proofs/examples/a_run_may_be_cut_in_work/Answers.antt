use Rattle.run_laws.proofs.examples.a_run_may_be_cut_in_work.Goals as goal
use Rattle.run_laws.proofs.CutRuns

pub returns : goal.returns
returns c = CutRuns.cut_run
