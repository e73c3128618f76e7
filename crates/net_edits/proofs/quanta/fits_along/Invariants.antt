use Rattle.std.proofs.Common.{◌≡◌, drop}
use Rattle.net_model.specs.Views.{servers_of}
use Rattle.net_edits.specs.Values.{fits_along}
use Rattle.net_edits.proofs.quanta.fits_along.Given as goal

abbrev pub invariant-loop-hop : goal.invariant-loop-hop
invariant-loop-hop l =
    fits_along (servers_of l.servers) l.bits l.path l.lanes ≡ fits_along (servers_of l.servers) l.bits (drop l.hop l.path) (drop l.hop l.lanes)
