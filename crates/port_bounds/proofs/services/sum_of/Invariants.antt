use Rattle.std.proofs.Common.{◌≡◌, take, sum}
use Rattle.port_bounds.proofs.services.sum_of.Given as goal

abbrev pub invariant-loop-quantum : goal.invariant-loop-quantum
invariant-loop-quantum l = l.all ≡ sum (take l.quantum-index l.quanta)
