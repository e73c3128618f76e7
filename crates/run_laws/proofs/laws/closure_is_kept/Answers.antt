use Rattle.run_laws.proofs.laws.closure_is_kept.Goals as goal
use Rattle.run_laws.proofs.Closures

pub returns : goal.returns
returns c = record { arrivals = Closures.closure_is_kept; premises = Closures.closures_keep_premises }
