use Rattle.std.proofs.Common.{sym, ◌∙◌, arith}
use Rattle.net_edits.proofs.Replaced.{queues_done}
use Rattle.net_edits.proofs.ways.are_queues.Goals as goal

pub returns : goal.returns
returns c =
    sym (c.loop-hop.invariant
    ∙ queues_done c.args.net.now c.args.path.now c.args.lanes.now c.loop-hop.hop (omega (arith, c.min-count.ensures, c.loop-hop-test.false)))
