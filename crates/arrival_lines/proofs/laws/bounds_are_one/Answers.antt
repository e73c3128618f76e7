use Rattle.arrival_lines.proofs.Leasts.{bounds_are_one}
use Rattle.arrival_lines.proofs.laws.bounds_are_one.Goals as goal

pub returns : goal.returns
returns c = bounds_are_one
