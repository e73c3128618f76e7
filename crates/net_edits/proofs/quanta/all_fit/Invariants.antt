use Rattle.std.proofs.Common.{◌≡◌, List, drop}
use Rattle.std.specs.Prelude.{slice_set}
use Rattle.std.specs.List.{list_all}
use Rattle.net_model.specs.Networks.{NetServer}
use Rattle.net_model.specs.Views.{server_of, servers_of, flows_of}
use Rattle.net_edits.specs.Values.{place_fits}
use Rattle.net_edits.proofs.quanta.all_fit.Given as goal

abbrev pub invariant-loop-place : goal.invariant-loop-place
invariant-loop-place l =
    let all : List NetServer = slice_set (servers_of l.servers) l.number (server_of l.server) in
    list_all (place_fits all) (flows_of l.flows) ≡ list_all (place_fits all) (flows_of (drop l.place-index l.flows))
