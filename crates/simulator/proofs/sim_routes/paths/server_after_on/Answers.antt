use Rattle.std.specs.Prelude.{◌≡◌, suc, ◌+◌, length, slice_get}
use Rattle.std.proofs.Common.{arith, sym, ap, ◌∙◌, subst}
use Rattle.simulator.proofs.sim_routes.Places.{NoneBefore, after_place, after_none}
use Rattle.simulator.proofs.sim_routes.paths.server_after_on.Goals as goal

pub returns-then-at-server : goal.returns-then-at-server
returns-then-at-server c =
    let next : c.loop-hop.hop + 1 ≡ suc c.loop-hop.hop = omega arith in
    c.server_on.ensures ∙ ap (slice_get c.args.path.now) next
    ∙ sym (after_place c.args.path.now c.args.queues.now c.args.server c.loop-hop.hop c.requires c.loop-hop-test.true c.if-at-server.true c.loop-hop.invariant)

pub returns : goal.returns
returns c =
    let k : c.loop-hop.hop ≡ length c.args.path.now = omega (arith, c.loop-hop-test.false, c.loop-hop.auto.hop-end) in
    sym (after_none c.args.path.now c.args.queues.now c.args.server c.requires (subst (NoneBefore c.args.path.now c.args.server) k c.loop-hop.invariant))
