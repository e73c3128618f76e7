use Rattle.std.proofs.Common.{sym, arith}
use Rattle.sim_bounds.proofs.sim_gauge.Paths.{bits_at, bits_nowhere}
use Rattle.sim_bounds.proofs.sim_gauge.loads.bits_on.Goals as goal

pub returns-then-at-server : goal.returns-then-at-server
returns-then-at-server c = λ queues e.
    sym (bits_at c.args.path.now queues c.args.server c.args.bits c.loop-at.at-index e c.loop-at-test.true c.if-at-server.true)

pub returns : goal.returns
returns c = λ queues e.
    sym (bits_nowhere c.args.path.now queues c.args.server c.args.bits (λ k l. c.loop-at.invariant k (omega (arith, l))))
