use Rattle.std.proofs.Common.{◌≡◌, Some, sym}
use Rattle.std.specs.Prelude.{slice_get}
use Rattle.net_model.proofs.Placed.{made_at}
use Rattle.net_draft.specs.ListViews.{list_texts}
use Rattle.net_draft.specs.Views.{server_text}
use Rattle.net_draft.proofs.Named.{unknown_server, known_server, known_within}
use Rattle.net_draft.proofs.hops.server_named.Goals as goal

pub returns-in-Some-clause-stands : goal.returns-in-Some-clause-stands
returns-in-Some-clause-stands c =
    let l = c.args.servers.now in
    made_at server_text l.servers.items c.in-Some.number c.index.result.now (known_within c.args.name.now l.names.keys l.servers.items c.in-Some.number l.named c.in-Some.ensures.index) c.index.ensures

pub returns-in-Some-clause-value : goal.returns-in-Some-clause-value
returns-in-Some-clause-value c =
    let l = c.args.servers.now in
    let stands : slice_get (list_texts l) c.in-Some.number ≡ Some (server_text c.index.result.now) =
    made_at server_text l.servers.items c.in-Some.number c.index.result.now (known_within c.args.name.now l.names.keys l.servers.items c.in-Some.number l.named c.in-Some.ensures.index) c.index.ensures in
    sym (known_server c.args.name.now l.names.keys (list_texts l) c.in-Some.number (server_text c.index.result.now) l.named c.in-Some.ensures.index stands)

pub returns-in-None-clause-value : goal.returns-in-None-clause-value
returns-in-None-clause-value c =
    let l = c.args.servers.now in
    sym (unknown_server c.args.name.now l.names.keys (list_texts l) l.named c.in-None.ensures.index)
