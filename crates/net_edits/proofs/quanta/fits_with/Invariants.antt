use Rattle.std.proofs.Common.{◌≡◌, List, drop}
use Rattle.std.specs.Prelude.{slice_set}
use Rattle.net_model.specs.Networks.{NetServer}
use Rattle.net_model.specs.Views.{server_of, servers_of}
use Rattle.net_edits.specs.Values.{fits_along}
use Rattle.net_edits.proofs.quanta.fits_with.Given as goal

abbrev pub invariant-loop-hop : goal.invariant-loop-hop
invariant-loop-hop l =
    let all : List NetServer = slice_set (servers_of l.servers) l.number (server_of l.server) in
    fits_along all l.bits l.path l.lanes ≡ fits_along all l.bits (drop l.hop l.path) (drop l.hop l.lanes)
