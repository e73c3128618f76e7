use Rattle.subadd_closure.proofs.FirstFrames.{later_frames}
use Rattle.subadd_closure.proofs.star_convolution.later_frame.Goals as goal

pub returns : goal.returns
returns c =
    later_frames c.args.f.now c.args.g.now c.args.first.now c.small_frame.result c.args.from c.args.bounds.now c.requires.first c.requires.from
    c.requires.bounds c.small_frame.ensures
