use Rattle.std.proofs.Common.{length, sym, ap, ◌∙◌, arith}
use Rattle.std.proofs.lemmas.List.{length-map}
use Rattle.rational.proofs.Laws.{add_zero}
use Rattle.net_model.specs.Views.{server_of}
use Rattle.net_model.specs.stated_runs.FromTraces.{setup_of}
use Rattle.sim_bounds.specs.Horizons.{first_time}
use Rattle.sim_bounds.specs.Way.{plain_span}
use Rattle.sim_bounds.proofs.sim_gauge.SpanSteps.{sum_step, sum_more}
use Rattle.sim_bounds.proofs.sim_gauge.horizons.plain_horizon.Goals as goal

pub loop-server-init : goal.loop-server-init
loop-server-init c = c.first_time-sum.ensures ∙ sym (add_zero (first_time (setup_of c.args.net.now c.args.trace.now)))

pub returns-in-None-clause-fits : goal.returns-in-None-clause-fits
returns-in-None-clause-fits c = λ d e f.
    let n = length-map c.servers-server-end.result.now server_of in
    let m = ap length c.servers-server-end.ensures.servers in
    c.in-None.ensures.fits d e f
    (sum_step c.args.net.now c.args.trace.now d c.loop-server.server e c.loop-server.sum (omega (arith, n, m)) f c.loop-server.invariant)

pub loop-server-preserved : goal.loop-server-preserved
loop-server-preserved c =
    let S = setup_of c.args.net.now c.args.trace.now in
    sum_more (plain_span S) c.loop-server.server (first_time S) c.loop-server.sum c.in-Some.more c.in-Some.ensures.value c.loop-server.invariant
