use Rattle.simulator.proofs.run_measures.Lawful as lawful
use Rattle.simulator.proofs.run_measures.laws.lawful_runs_are_numbered.Goals as goal

pub returns : goal.returns
returns c = lawful.lawful_runs_are_numbered
