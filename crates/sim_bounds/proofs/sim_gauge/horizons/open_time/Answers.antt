use Rattle.std.proofs.Common.{sym, ap, ◌∙◌, subst}
use Rattle.std.specs.Prelude.{pos}
use Rattle.rational.specs.Rational.{int, ◌/ℚ◌, ◌<ℚ◌}
use Rattle.rational.specs.Ratio.{IsSmall}
use Rattle.upp_limits.proofs.SpanNumbers.{if_some_map}
use Rattle.run_laws.specs.Cards.{whole}
use Rattle.net_model.specs.declared.server.Server.{Server}
use Rattle.net_model.specs.Views.{server_of}
use Rattle.net_model.proofs.stated_runs.ServerSetups.{server_is}
use Rattle.sim_bounds.proofs.sim_gauge.Parts.{own_open}
use Rattle.sim_bounds.proofs.sim_gauge.SpanSteps.{open_small, stored}
use Rattle.sim_bounds.proofs.sim_gauge.horizons.open_time.Goals as goal

pub work_time-requires : goal.work_time-requires
work_time-requires c =
    let x = server_of c.index-servers-server.result in
    let at = stored c.args.net.now c.servers.result.now c.args.server c.index-servers-server.result c.servers.ensures.servers c.requires c.index-servers-server.is in
    subst (λ (r : Server). int (pos 0) <ℚ r.rate) c.index-servers-server.is (c.servers.ensures.kept.servers x at.there).rate

pub returns-clause-value : goal.returns-clause-value
returns-clause-value c =
    let net = c.args.net.now in let trace = c.args.trace.now in
    let s = c.args.server in let x = server_of c.index-servers-server.result in
    let at = stored net c.servers.result.now s c.index-servers-server.result c.servers.ensures.servers c.requires c.index-servers-server.is in
    let same = ap (λ (r : Server). whole c.load-bits.result /ℚ r.rate) (sym c.index-servers-server.is) ∙ ap (λ n. whole n /ℚ x.rate) c.load-bits.ensures
    ∙ sym (own_open net trace s x (server_is net trace s x at.inside at.is)) in
    if_some_map c.work_time.result _ _ (λ t e. e ∙ same) c.work_time.ensures.value

pub returns-clause-fits : goal.returns-clause-fits
returns-clause-fits c = λ d e f.
    let net = c.args.net.now in let trace = c.args.trace.now in
    let s = c.args.server in let x = server_of c.index-servers-server.result in
    let at = stored net c.servers.result.now s c.index-servers-server.result c.servers.ensures.servers c.requires c.index-servers-server.is in
    let same = ap (λ (r : Server). whole c.load-bits.result /ℚ r.rate) (sym c.index-servers-server.is) ∙ ap (λ n. whole n /ℚ x.rate) c.load-bits.ensures
    ∙ sym (own_open net trace s x (server_is net trace s x at.inside at.is)) in
    c.work_time.ensures.fits (subst (λ t. IsSmall t) (sym same) (open_small net trace d s e c.requires f))
