use Rattle.std.proofs.Common.{arith}
use Rattle.queue_sched.proofs.index_links.Stored.{made}
use Rattle.queue_sched.proofs.index_links.links.Links.new.Goals as goal

pub invariant_of-result : goal.invariant_of-result
invariant_of-result c =
    let i = c.loop-end.invariant in
    (made _ _ _ c.args.lists c.args.nodes (omega (arith, i.0)) (omega (arith, i.1)) i.2 (omega (arith, c.ranges.nodes.fits))
    (λ k h. i.3 k (omega (arith, h, c.loop-end-test.false)))).0

pub returns : goal.returns
returns c =
    let i = c.loop-end.invariant in
    (made _ _ _ c.args.lists c.args.nodes (omega (arith, i.0)) (omega (arith, i.1)) i.2 (omega (arith, c.ranges.nodes.fits))
    (λ k h. i.3 k (omega (arith, h, c.loop-end-test.false)))).1
