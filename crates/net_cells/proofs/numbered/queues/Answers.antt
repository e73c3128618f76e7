use Rattle.std.proofs.Common.{◌≡◌, ap, sym, ◌∙◌, Option, arith}
use Rattle.run_laws.specs.Servers as spec
use Rattle.net_model.specs.declared.server.Server.{Server}
use Rattle.net_model.specs.Networks.{NetServer}
use Rattle.net_model.specs.Views as views
use Rattle.net_cells.specs.Numbered as at
use Rattle.net_model.proofs.FewQueues.{few_of}
use Rattle.net_cells.proofs.Stored.{server_stored, server_past, server_kept}
use Rattle.net_cells.proofs.numbered.queues.Goals as goal

pub overflow_cast-result : goal.overflow_cast-result
overflow_cast-result c =
    let net = c.args.net.now in
    let x = c.index-servers-place.result in
    let stored = server_stored net c.servers-servers.result.now c.args.server x c.servers-servers.ensures.servers
    c.if-place-servers.true c.index-servers-place.is in
    let few = few_of (views.discipline_of x.discipline) (server_kept net c.args.server (views.server_of x) c.servers-servers.ensures.kept stored).queues in
    let counted : c.queue_count.result ≡ spec.queue_count (views.discipline_of x.discipline) =
    c.queue_count.ensures ∙ sym (ap (λ (y : Server). spec.queue_count (views.discipline_of y.discipline)) c.index-servers-place.is) in
    omega (arith, few, counted)

pub returns-then-place-servers : goal.returns-then-place-servers
returns-then-place-servers c =
    let net = c.args.net.now in
    let x = c.index-servers-place.result in
    let stored = server_stored net c.servers-servers.result.now c.args.server x c.servers-servers.ensures.servers
    c.if-place-servers.true c.index-servers-place.is in
    c.queue_count.ensures
    ∙ sym (ap (λ (y : Server). spec.queue_count (views.discipline_of y.discipline)) c.index-servers-place.is)
    ∙ sym (ap (λ (o : Option NetServer). spec.queue_count (at.discipline_of o)) stored)

pub returns-else-place-servers : goal.returns-else-place-servers
returns-else-place-servers c =
    sym (ap (λ (o : Option NetServer). spec.queue_count (at.discipline_of o))
    (server_past c.args.net.now c.servers-servers.result.now c.args.server c.servers-servers.ensures.servers
    c.if-place-servers.false))
