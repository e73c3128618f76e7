use Rattle.std.proofs.Common.{sym, ap, ◌∙◌, subst}
use Rattle.std.specs.Prelude.{pos}
use Rattle.rational.specs.Rational.{int, ◌+ℚ◌}
use Rattle.rational.specs.Ratio.{SumFits}
use Rattle.upp_limits.proofs.SpanNumbers.{if_some_map}
use Rattle.net_model.specs.Views.{server_of}
use Rattle.net_model.specs.stated_runs.FromTraces.{gate_of, setup_of, stalls_at}
use Rattle.sim_bounds.specs.Horizons.{stalled_for}
use Rattle.sim_bounds.specs.Way.{open_time, plain_time}
use Rattle.sim_bounds.specs.sim_gauge.Steps.{StallsFit}
use Rattle.net_model.proofs.stated_runs.ServerSetups.{server_is}
use Rattle.sim_bounds.proofs.sim_gauge.Parts.{own_plain}
use Rattle.sim_bounds.proofs.sim_gauge.SpanSteps.{span_steps, stored}
use Rattle.sim_bounds.proofs.sim_gauge.horizons.plain_span.Goals as goal

pub returns-in-Some-stalled-clause-value : goal.returns-in-Some-stalled-clause-value
returns-in-Some-stalled-clause-value c =
    let net = c.args.net.now in let trace = c.args.trace.now in
    let s = c.args.server in let x = server_of c.index-servers-server.result in
    let at = stored net c.servers.result.now s c.index-servers-server.result c.servers.ensures.servers c.requires c.index-servers-server.is in
    let g = gate_of x.kind in let time = open_time (setup_of net trace) s in
    let p = c.plain_time.ensures ∙ ap (plain_time g) c.in-Some.ensures.value in
    let t = c.in-Some-stalled.ensures.value ∙ ap (λ ys. stalled_for (stalls_at s ys)) c.stalls.ensures.stalls in
    let sum = own_plain net trace s x (server_is net trace s x at.inside at.is) in
    if_some_map c.span_with.result _ _
    (λ v e. e ∙ ap (λ a. a +ℚ c.in-Some-stalled.stalled +ℚ x.link) p ∙ ap (λ a. plain_time g time +ℚ a +ℚ x.link) t ∙ sym sum)
    c.span_with.ensures.value

pub returns-in-Some-stalled-clause-fits : goal.returns-in-Some-stalled-clause-fits
returns-in-Some-stalled-clause-fits c = λ d e f.
    let net = c.args.net.now in let trace = c.args.trace.now in
    let s = c.args.server in let x = server_of c.index-servers-server.result in
    let at = stored net c.servers.result.now s c.index-servers-server.result c.servers.ensures.servers c.requires c.index-servers-server.is in
    let steps = span_steps net trace d s e x (server_is net trace s x at.inside at.is) at.inside f in
    let g = gate_of x.kind in let time = open_time (setup_of net trace) s in
    let p = c.plain_time.ensures ∙ ap (plain_time g) c.in-Some.ensures.value in
    let t = c.in-Some-stalled.ensures.value ∙ ap (λ ys. stalled_for (stalls_at s ys)) c.stalls.ensures.stalls in
    let one : SumFits c.plain_time.result c.in-Some-stalled.stalled =
    subst (λ a. SumFits a c.in-Some-stalled.stalled) (sym p) (subst (λ a. SumFits (plain_time g time) a) (sym t) steps.stalled) in
    let two : SumFits (c.plain_time.result +ℚ c.in-Some-stalled.stalled) x.link =
    subst (λ a. SumFits (a +ℚ c.in-Some-stalled.stalled) x.link) (sym p) (subst (λ a. SumFits (plain_time g time +ℚ a) x.link) (sym t) steps.link) in
    c.span_with.ensures.fits one two

pub returns-in-None-stalled-clause-fits : goal.returns-in-None-stalled-clause-fits
returns-in-None-stalled-clause-fits c = λ d e f.
    let net = c.args.net.now in let trace = c.args.trace.now in
    let s = c.args.server in let x = server_of c.index-servers-server.result in
    let at = stored net c.servers.result.now s c.index-servers-server.result c.servers.ensures.servers c.requires c.index-servers-server.is in
    let steps = span_steps net trace d s e x (server_is net trace s x at.inside at.is) at.inside f in
    c.in-None-stalled.ensures.fits (subst (λ ys. StallsFit (int (pos 0)) (stalls_at s ys)) (sym c.stalls.ensures.stalls) steps.stalls)
