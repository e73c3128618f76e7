use Rattle.run_laws.proofs.laws.who_keeps_keeps_greater.Goals as goal
use Rattle.run_laws.proofs.Weaker

pub returns : goal.returns
returns c = record { arrivals = Weaker.greater_kept; premises = Weaker.weaker_premises_kept }
