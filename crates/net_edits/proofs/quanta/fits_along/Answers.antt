use Rattle.std.proofs.Common.{sym, ◌∙◌, arith}
use Rattle.net_model.specs.Views.{servers_of}
use Rattle.net_edits.proofs.Replaced.{fits_done}
use Rattle.net_edits.proofs.quanta.fits_along.Goals as goal

pub returns : goal.returns
returns c =
    sym (c.loop-hop.invariant
    ∙ fits_done (servers_of c.args.servers.now) c.args.bits c.args.path.now c.args.lanes.now c.loop-hop.hop
    (omega (arith, c.min-count.ensures, c.loop-hop-test.false)))
