use Rattle.std.specs.Prelude.{◌≡◌, length}
use Rattle.std.proofs.Common.{arith, sym, subst}
use Rattle.simulator.proofs.sim_routes.Places.{NoneBefore, queue_place, queue_none}
use Rattle.simulator.proofs.sim_routes.paths.queue_on.Goals as goal

pub returns-then-at-server : goal.returns-then-at-server
returns-then-at-server c =
    sym (queue_place c.args.path.now c.args.queues.now c.args.server c.loop-hop.hop c.requires c.loop-hop-test.true c.if-at-server.true c.loop-hop.invariant)

pub returns : goal.returns
returns c =
    let k : c.loop-hop.hop ≡ length c.args.path.now = omega (arith, c.loop-hop-test.false, c.loop-hop.auto.hop-end) in
    sym (queue_none c.args.path.now c.args.queues.now c.args.server c.requires (subst (NoneBefore c.args.path.now c.args.server) k c.loop-hop.invariant))
