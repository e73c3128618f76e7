use Rattle.std.proofs.Common.{}
use Rattle.tree_network.proofs.Ready.{ReadyBelow}
use Rattle.tree_network.proofs.order.idle_ports.Given as goal

abbrev pub invariant-loop-port : goal.invariant-loop-port
invariant-loop-port l = ReadyBelow l.waiting l.port l.ready.items
