use Rattle.std.specs.Prelude.{◌≡◌, length}
use Rattle.std.proofs.Common.{arith, sym, subst}
use Rattle.simulator.proofs.sim_routes.Places.{NoneBefore}
use Rattle.run_check.proofs.PathPlaces.{before_stops, before_finds, before_none}
use Rattle.run_check.proofs.ways.stands_before.Goals as goal

pub returns-then-at-server : goal.returns-then-at-server
returns-then-at-server c = λ queues e.
    sym (before_stops c.args.path.now queues c.args.other c.args.server c.loop-at.at-index e c.loop-at-test.true c.if-at-server.true c.loop-at.invariant.server_later c.loop-at.invariant.other_later)

pub returns-then-at-other : goal.returns-then-at-other
returns-then-at-other c = λ queues e.
    sym (before_finds c.args.path.now queues c.args.other c.args.server c.loop-at.at-index e c.loop-at-test.true c.if-at-other.true c.if-at-server.false c.loop-at.invariant.server_later c.loop-at.invariant.other_later)

pub returns : goal.returns
returns c = λ queues e.
    let k : c.loop-at.at-index ≡ length c.args.path.now = omega (arith, c.loop-at-test.false, c.loop-at.auto.at-index-end) in
    sym (before_none c.args.path.now queues c.args.other c.args.server e (subst (NoneBefore c.args.path.now c.args.server) k c.loop-at.invariant.server_later)
    (subst (NoneBefore c.args.path.now c.args.other) k c.loop-at.invariant.other_later))
