use Rattle.std.proofs.Common.{refl}
use Rattle.curve_deviation.proofs.Searching.{twice_width}
use Rattle.curve_deviation.proofs.search.width_of.Goals as goal

pub loop-width-preserved : goal.loop-width-preserved
loop-width-preserved c =
    let kept = c.is_before.ensures.kept in
    twice_width c.args.stage.now c.args.f.now c.args.g.now c.loop-width.width kept.0 kept.1 c.requires c.loop-width.invariant (c.loop-width-test.ensures.before refl)
