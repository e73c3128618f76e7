use Rattle.std.proofs.Common.{refl}
use Rattle.curve_deviation.proofs.Searching.{upper_half}
use Rattle.curve_deviation.proofs.search.least_past.Goals as goal

pub loop-width-preserved-then-is_before : goal.loop-width-preserved-then-is_before
loop-width-preserved-then-is_before c =
    let kept = c.is_before.ensures.kept in
    upper_half c.args.stage.now c.args.f.now c.args.g.now c.loop-width.low c.loop-width.width _ kept.0 kept.1 c.requires refl c.loop-width-test.true c.loop-width.invariant (c.if-is_before.ensures.before refl)
