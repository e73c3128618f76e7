use Rattle.curve_conv.proofs.RisesFound.{above_number}
use Rattle.curve_conv.proofs.rises.number_above.Goals as goal

pub returns : goal.returns
returns c = above_number c.args.x c.args.y c.in_ok-gap.gap c.args.most c.greater.result c.in_ok-gap.ensures c.greater.ensures
