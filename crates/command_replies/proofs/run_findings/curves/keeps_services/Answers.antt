use Rattle.std.proofs.Common.{◌<◌, length, below_more, ap, arith}
use Rattle.std.proofs.lemmas.List.{length-map}
use Rattle.net_model.specs.Views.{server_of}
use Rattle.run_watch.specs.first_breaches.Firsts.{HasService}
use Rattle.command_replies.proofs.run_findings.curves.keeps_services.Goals as goal

pub loop-number-preserved : goal.loop-number-preserved
loop-number-preserved c =
    let here : c.loop-number.number < length c.args.net.now.servers =
    omega (arith, ap length c.servers-servers.ensures.servers, length-map c.servers-servers.result.now server_of) in
    below_more (HasService c.args.net.now) c.loop-number.number c.loop-number.invariant (c.keeps_service.ensures here)
