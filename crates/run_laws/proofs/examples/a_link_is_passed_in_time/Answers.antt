use Rattle.run_laws.proofs.examples.a_link_is_passed_in_time.Goals as goal
use Rattle.run_laws.proofs.OverALink

pub returns : goal.returns
returns c = OverALink.over_a_link
