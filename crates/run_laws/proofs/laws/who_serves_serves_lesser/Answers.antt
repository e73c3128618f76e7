use Rattle.run_laws.proofs.laws.who_serves_serves_lesser.Goals as goal
use Rattle.run_laws.proofs.Weaker

pub returns : goal.returns
returns c = record { server = Weaker.lesser_kept; class = Weaker.lesser_serves; packets = Weaker.lesser_serves_packets }
