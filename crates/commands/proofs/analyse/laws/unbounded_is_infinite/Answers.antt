use Rattle.commands.proofs.analyse.Unbounded.{unbounded_is_infinite}
use Rattle.commands.proofs.analyse.laws.unbounded_is_infinite.Goals as goal

pub returns : goal.returns
returns c = unbounded_is_infinite
