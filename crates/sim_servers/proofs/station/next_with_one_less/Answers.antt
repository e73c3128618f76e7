use Rattle.std.proofs.Common.{arith}
use Rattle.sim_servers.proofs.station.next_with_one_less.Goals as goal

pub returns-clause-next : goal.returns-clause-next
returns-clause-next c = (λ e. absurd (omega arith), c.opens.ensures.opens, c.opens.ensures.opened)
