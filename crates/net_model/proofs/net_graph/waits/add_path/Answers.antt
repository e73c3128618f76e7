use Rattle.std.proofs.Common.{◌<◌, length, get_or, arith}
use Rattle.std.proofs.lemmas.List.{length-map}
use Rattle.net_model.proofs.net_graph.PathSteps.{stored_steps}
use Rattle.net_model.proofs.net_graph.waits.add_path.Goals as goal

pub loop-hop-preserved : goal.loop-hop-preserved
loop-hop-preserved c =
    let first = c.requires c.loop-hop.hop 0 c.loop-hop-test.true in
    let old = length-map c.args.before.now.items (λ v. v.items) in
    let now = length-map c.loop-hop.before.items (λ v. v.items) in
    let listed : get_or c.args.path.now c.loop-hop.hop 0 < length c.loop-hop.before.items = omega (arith, first, old, now, c.loop-hop.invariant.count) in
    stored_steps _ c.loop-hop.before.items c.index_mut.result.now c.push.new.self c.args.path.now c.loop-hop.hop c.loop-hop.auto.hop c.loop-hop-test.true
    listed c.index_mut.ensures.value c.in_ok-push.ensures.items c.loop-hop.invariant
