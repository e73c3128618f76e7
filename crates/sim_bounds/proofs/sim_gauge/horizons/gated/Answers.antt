use Rattle.std.proofs.Common.{sym, ap, ◌∙◌, subst}
use Rattle.rational.specs.Rational.{◌*ℚ◌, ◌/ℚ◌}
use Rattle.rational.specs.Ratio.{IsSmall}
use Rattle.upp_limits.proofs.SpanNumbers.{if_some_map}
use Rattle.net_model.specs.declared.server.Server.{Server}
use Rattle.net_model.specs.Views.{server_of}
use Rattle.net_model.specs.stated_runs.Setups.{IsGateFor}
use Rattle.net_model.specs.stated_runs.FromTraces.{gate_of}
use Rattle.net_model.proofs.stated_runs.ServerSetups.{server_is}
use Rattle.sim_bounds.specs.Horizons.{gate_ratio}
use Rattle.sim_bounds.proofs.sim_gauge.Parts.{own_gated}
use Rattle.sim_bounds.proofs.sim_gauge.SpanSteps.{span_steps, stored, kind_gates}
use Rattle.sim_bounds.proofs.sim_gauge.horizons.gated.Goals as goal

pub gate_product-requires-clause-some : goal.gate_product-requires-clause-some
gate_product-requires-clause-some c =
    let x = server_of c.index-servers-server.result in
    let at = stored c.args.net.now c.servers.result.now c.args.server c.index-servers-server.result c.servers.ensures.servers c.requires c.index-servers-server.is in
    let kind = ap (λ (r : Server). r.kind) c.index-servers-server.is ∙ c.in-Gate.is in
    let ok = subst (λ k. IsGateFor (gate_of k)) kind (kind_gates x.rate x.kind x.service (c.servers.ensures.kept.servers x at.there).kind) in
    ok.some_slot

pub gate_product-requires-clause-within : goal.gate_product-requires-clause-within
gate_product-requires-clause-within c =
    let x = server_of c.index-servers-server.result in
    let at = stored c.args.net.now c.servers.result.now c.args.server c.index-servers-server.result c.servers.ensures.servers c.requires c.index-servers-server.is in
    let kind = ap (λ (r : Server). r.kind) c.index-servers-server.is ∙ c.in-Gate.is in
    let ok = subst (λ k. IsGateFor (gate_of k)) kind (kind_gates x.rate x.kind x.service (c.servers.ensures.kept.servers x at.there).kind) in
    ok.within

pub returns-in-Some-clause-value : goal.returns-in-Some-clause-value
returns-in-Some-clause-value c =
    let net = c.args.net.now in let trace = c.args.trace.now in
    let s = c.args.server in let x = server_of c.index-servers-server.result in
    let at = stored net c.servers.result.now s c.index-servers-server.result c.servers.ensures.servers c.requires c.index-servers-server.is in
    let kind = ap (λ (r : Server). r.kind) c.index-servers-server.is ∙ c.in-Gate.is in
    let own = own_gated net trace s x _ (server_is net trace s x at.inside at.is) kind in
    if_some_map c.gate_product.result _ _ (λ p e. e ∙ ap (λ t. (c.in-Gate.cycle /ℚ c.in-Gate.slot) *ℚ t) c.in-Some.ensures.value ∙ sym own) c.gate_product.ensures.value

pub returns-in-Some-clause-fits : goal.returns-in-Some-clause-fits
returns-in-Some-clause-fits c = λ d e f.
    let net = c.args.net.now in let trace = c.args.trace.now in
    let s = c.args.server in let x = server_of c.index-servers-server.result in
    let at = stored net c.servers.result.now s c.index-servers-server.result c.servers.ensures.servers c.requires c.index-servers-server.is in
    let kind = ap (λ (r : Server). r.kind) c.index-servers-server.is ∙ c.in-Gate.is in
    let steps = span_steps net trace d s e x (server_is net trace s x at.inside at.is) at.inside f in
    c.gate_product.ensures.fits (subst (λ k. IsSmall (gate_ratio (gate_of k))) kind steps.ratio)

pub returns-in-Latency-clause-value : goal.returns-in-Latency-clause-value
returns-in-Latency-clause-value c =
    let net = c.args.net.now in let trace = c.args.trace.now in
    let s = c.args.server in let x = server_of c.index-servers-server.result in
    let at = stored net c.servers.result.now s c.index-servers-server.result c.servers.ensures.servers c.requires c.index-servers-server.is in
    let kind = ap (λ (r : Server). r.kind) c.index-servers-server.is ∙ c.in-Latency.is in
    let own = own_gated net trace s x _ (server_is net trace s x at.inside at.is) kind in
    c.no_product.ensures.value ∙ sym own

pub returns-in-Listed-clause-value : goal.returns-in-Listed-clause-value
returns-in-Listed-clause-value c =
    let net = c.args.net.now in let trace = c.args.trace.now in
    let s = c.args.server in let x = server_of c.index-servers-server.result in
    let at = stored net c.servers.result.now s c.index-servers-server.result c.servers.ensures.servers c.requires c.index-servers-server.is in
    let kind = ap (λ (r : Server). r.kind) c.index-servers-server.is ∙ c.in-Listed.is in
    let own = own_gated net trace s x _ (server_is net trace s x at.inside at.is) kind in
    c.no_product-in-Listed.ensures.value ∙ sym own
