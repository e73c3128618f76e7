use Rattle.sim_servers.specs.Openings.{gate_for}
use Rattle.sim_servers.proofs.Stalls.{IsOpened}
use Rattle.sim_servers.proofs.opening.first_open.Given as goal

abbrev pub invariant-loop-index : goal.invariant-loop-index
invariant-loop-index l = IsOpened (gate_for l.gate) l.stalls l.fn.from l.index l.time
