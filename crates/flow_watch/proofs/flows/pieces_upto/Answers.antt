use Rattle.std.proofs.Common.{◌<◌, length, arith}
use Rattle.flow_watch.proofs.Buckets.{keeps_more}
use Rattle.flow_watch.proofs.flows.pieces_upto.Goals as goal

pub loop-i-preserved : goal.loop-i-preserved
loop-i-preserved c =
    let ps = c.args.pieces.now in
    let l : c.loop-i.i < length ps = omega arith in (
      omega (arith, c.loop-i.invariant.0, c.fewer-least.ensures.left),
      keeps_more c.args.entries.now c.args.far c.loop-i.least c.read_upto-count.result c.fewer-least.result ps c.loop-i.i c.index-pieces-i.result c.next_start.result l c.index-pieces-i.is c.next_start.ensures c.read_upto-count.ensures.keeps
          c.fewer-least.ensures.left c.fewer-least.ensures.right c.loop-i.invariant.1,
    )
