use Rattle.plain_operators.proofs.pointwise.Leanings.{high_bounds}
use Rattle.plain_operators.proofs.pointwise.leaning.high_by_lines.Goals as goal

pub returns : goal.returns
returns c =
    let w = c.requires.window in
    high_bounds w.0 c.args.from c.args.period c.args.slow.now c.args.fast.now c.in_ok-high.high c.requires.slower w.1 c.in_ok-high.ensures
