use Rattle.std.proofs.Common.{length, ap, arith}
use Rattle.std.proofs.lemmas.List.{length-map}
use Rattle.net_model.specs.Views.{server_of}
use Rattle.net_model.specs.stated_runs.FromTraces.{setup_of}
use Rattle.sim_bounds.specs.Way.{gated}
use Rattle.sim_bounds.proofs.sim_gauge.SpanSteps.{products_more, from_zero_end}
use Rattle.sim_bounds.proofs.sim_gauge.horizons.all_gated.Goals as goal

-- a network has at most so many servers
pub push-requires : goal.push-requires
push-requires c =
    let n = length-map c.servers-server-end.result.now server_of in
    let m = ap length c.servers-server-end.ensures.servers in
    let few = c.servers-server-end.ensures.kept.few_servers in
    let len = c.loop-server.invariant.len in
    omega (arith, n, m, few, len)

pub loop-server-preserved : goal.loop-server-preserved
loop-server-preserved c =
    let ps = c.loop-server.products.items in
    let qs = c.push.new.self.items in
    let p = c.in-Some.product in
    let i = c.loop-server.invariant in
    let before = i.len in
    let more = c.push.ensures.len in
    record {
      value = products_more (gated (setup_of c.args.net.now c.args.trace.now)) ps qs p c.loop-server.server c.push.ensures.items i.value c.in-Some.ensures.value;
      from_zero = from_zero_end ps qs p c.push.ensures.items i.from_zero c.in-Some.ensures.from_zero;
      len = omega (arith, before, more);
    }
