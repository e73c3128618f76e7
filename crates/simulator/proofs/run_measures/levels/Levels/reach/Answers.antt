use Rattle.std.proofs.Common.{◌≡◌, ◌∙◌, ap, sym, arith}
use Rattle.std.proofs.lemmas.List.{get_or_read, with_items_is}
use Rattle.run_laws.specs.Routes.{queue_at, route_of}
use Rattle.net_model.specs.NetRoutes.{routes_of}
use Rattle.simulator.specs.run_measures.Gauges.{Gains, gauges_of}
use Rattle.simulator.specs.run_measures.Levels.{flow_for, bits_for, queue_for}
use Rattle.simulator.proofs.run_measures.GaugeRows.{changed_as}
use Rattle.simulator.proofs.run_measures.levels.Levels.reach.Goals as goal

pub returns-clause-gains : goal.returns-clause-gains
returns-clause-gains c =
    let v = c.args.self.now in
    let net = routes_of c.args.net.now in
    let p = c.args.packet in
    let s = c.args.server in
    let rows = with_items_is v.rows c.arrive.new.rows (omega (arith, c.arrive.auto.rows, c.deref_mut.ensures.len)) in
    let flow : c.index.result.now ≡ flow_for v p = get_or_read v.flows.items p c.index.result.now c.requires.known.flow c.index.ensures 0 in
    let bits : c.index-2.result.now ≡ bits_for v p = get_or_read v.bits.items p c.index-2.result.now c.requires.known.bits c.index-2.ensures 0 in
    let queue : c.queue_of-queue.result ≡ queue_for net (flow_for v p) s = c.queue_of-queue.ensures ∙ ap (λ f. queue_at s (route_of net f).hops) flow in
    changed_as (λ b g h. Gains g h b c.args.time) (gauges_of c.deref_mut.result.now) (gauges_of c.arrive.new.rows) (gauges_of v.rows.items) _ s
    c.queue_of-queue.result (queue_for net (flow_for v p) s) c.index-2.result.now (bits_for v p)
    (ap (λ xs. gauges_of xs) c.deref_mut.ensures.value) (ap (λ xs. gauges_of xs) (sym rows)) queue bits c.arrive.ensures
