use Rattle.std.proofs.Common.{map}
use Rattle.std.proofs.lemmas.Result.{err_from_is_err_and}
use Rattle.net_draft.specs.Drafts.{quanta_fit}
use Rattle.net_draft.specs.Views.{server_text, flow_text}
use Rattle.net_draft.proofs.Fitting.{fits_here, stops_here, all_fit}
use Rattle.net_draft.proofs.quanta.all_fit.Goals as goal

pub returns-in_err-server_fits : goal.returns-in_err-server_fits
returns-in_err-server_fits c =
    let p = err_from_is_err_and c.from_residual.result c.from_residual.ensures.1 in
    rw (p.1, p.2) (stops_here (map flow_text c.args.flows.now) c.args.servers.now c.loop-number.number c.index-servers-number.result c.in_err-server_fits.field-0.0
    (quanta_fit (map flow_text c.args.flows.now) 0 (map server_text c.args.servers.now)) c.loop-number-test.true c.index-servers-number.is c.in_err-server_fits.ensures c.loop-number.invariant)

pub loop-number-preserved : goal.loop-number-preserved
loop-number-preserved c =
    fits_here (map flow_text c.args.flows.now) c.args.servers.now c.loop-number.number c.index-servers-number.result
    (quanta_fit (map flow_text c.args.flows.now) 0 (map server_text c.args.servers.now)) c.loop-number-test.true c.index-servers-number.is c.in_ok-server_fits.ensures c.loop-number.invariant

pub returns : goal.returns
returns c =
    all_fit (map flow_text c.args.flows.now) c.args.servers.now c.loop-number.number (quanta_fit (map flow_text c.args.flows.now) 0 (map server_text c.args.servers.now)) c.loop-number-test.false
    c.loop-number.invariant
