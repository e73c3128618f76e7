use Rattle.std.proofs.Common.{[], ◌∷◌, ◌++◌, ap, sym, ◌∙◌}
use Rattle.std.proofs.lemmas.List.{map-append}
use Rattle.net_model.specs.Views.{server_of, servers_of}
use Rattle.net_model.specs.Plain.{plain_servers}
use Rattle.net_model.proofs.PlainNets.{no_server, servers_push}
use Rattle.net_model.proofs.plain.servers_to.Goals as goal

pub loop-number-init : goal.loop-number-init
loop-number-init c = ap servers_of c.in_ok-servers.ensures.items ∙ sym no_server

pub loop-number-preserved : goal.loop-number-preserved
loop-number-preserved c =
    let number = c.loop-number.number in
    ap servers_of c.in_ok-push.ensures.items ∙ map-append server_of c.loop-number.servers.items (c.in_ok-server_at.field-0 ∷ [])
    ∙ ap (λ xs. xs ++ server_of c.in_ok-server_at.field-0 ∷ []) c.loop-number.invariant ∙ ap (λ s. plain_servers number ++ s ∷ []) c.in_ok-server_at.ensures
    ∙ sym (servers_push number)
