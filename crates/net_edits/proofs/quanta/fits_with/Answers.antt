use Rattle.std.proofs.Common.{List, sym, ◌∙◌, arith}
use Rattle.std.specs.Prelude.{slice_set}
use Rattle.net_model.specs.Networks.{NetServer}
use Rattle.net_model.specs.Views.{server_of, servers_of}
use Rattle.net_edits.proofs.Replaced.{fits_done}
use Rattle.net_edits.proofs.quanta.fits_with.Goals as goal

pub returns : goal.returns
returns c =
    let all : List NetServer = slice_set (servers_of c.args.servers.now) c.args.number (server_of c.args.server.now) in
    sym (c.loop-hop.invariant
    ∙ fits_done all c.args.bits c.args.path.now c.args.lanes.now c.loop-hop.hop
    (omega (arith, c.min-count.ensures, c.loop-hop-test.false)))
