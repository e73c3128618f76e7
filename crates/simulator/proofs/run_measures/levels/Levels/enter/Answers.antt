use Rattle.std.proofs.Common.{ap, sym, arith, refl, subst}
use Rattle.std.proofs.lemmas.List.{with_items_is}
use Rattle.std.specs.Vec.{with_items}
use Rattle.net_model.specs.NetRoutes.{routes_of}
use Rattle.simulator.specs.run_measures.Gauges.{Gains, gauges_of, ChangesOne}
use Rattle.simulator.specs.run_measures.Levels.{queue_for}
use Rattle.simulator.proofs.run_measures.GaugeRows.{changed_as}
use Rattle.simulator.proofs.run_measures.levels.Levels.enter.Goals as goal

pub returns : goal.returns
returns c =
    let v = c.args.self.now in
    let net = routes_of c.args.net.now in
    let flow = c.args.flow in
    let s = c.entrance-server.result in
    let after = with_items v.rows c.arrive.new.rows in
    let rows = with_items_is v.rows c.arrive.new.rows (omega (arith, c.arrive.auto.rows, c.deref_mut.ensures.len)) in
    let gains : ChangesOne (λ g h. Gains g h c.args.bits c.args.time) (gauges_of v.rows.items) (gauges_of after.items) s (queue_for net flow s) =
    changed_as (λ b g h. Gains g h b c.args.time) (gauges_of c.deref_mut.result.now) (gauges_of c.arrive.new.rows) (gauges_of v.rows.items) (gauges_of after.items) s
    c.queue_of-queue.result (queue_for net flow s) c.args.bits c.args.bits
    (ap (λ xs. gauges_of xs) c.deref_mut.ensures.value) (ap (λ xs. gauges_of xs) (sym rows)) c.queue_of-queue.ensures refl c.arrive.ensures in
    record {
      flows = c.in_ok-push.ensures.items;
      bits_are = c.in_ok-push-2.ensures.items;
      gains = subst (λ k. ChangesOne (λ g h. Gains g h c.args.bits c.args.time) (gauges_of v.rows.items) (gauges_of after.items) k (queue_for net flow k)) c.entrance-server.ensures gains;
    }
