use Rattle.commands.proofs.simulate.OpenServers.{open_servers_break_nothing}
use Rattle.commands.proofs.simulate.laws.open_servers_break_nothing.Goals as goal

pub returns : goal.returns
returns c = open_servers_break_nothing
