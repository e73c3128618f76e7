use Rattle.upp_limits.specs.declared.op_kind.OpKind.TheVariants.{Vertical}
use Rattle.curve_call.specs.Frames.{sizes_at}
use Rattle.curve_deviation.proofs.VerticalCall.{frame_compared}
use Rattle.curve_deviation.proofs.verticals.vertical_in.Goals as goal

pub vertical_within-requires-clause-window : goal.vertical_within-requires-clause-window
vertical_within-requires-clause-window c = (sizes_at Vertical c.args.f.now c.args.g.now 0 0, frame_compared c.args.f.now c.args.g.now c.args.frame.now c.requires.frame)
