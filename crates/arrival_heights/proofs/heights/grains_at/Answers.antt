use Rattle.std.proofs.Common.{arith}
use Rattle.arrival_heights.proofs.Small.{no_part, one_more_fits}
use Rattle.arrival_heights.proofs.heights.grains_at.Goals as goal

pub overflow_add-all : goal.overflow_add-all
overflow_add-all c =
    let fits = one_more_fits c.args.parts.now c.loop-part.part-index no_part c.args.at.over c.args.at.under c.loop-part-test.true c.requires.parts c.requires.at.over c.requires.at.under in
    omega (arith, fits, c.loop-part.invariant, c.height_of_part-all.ensures)
