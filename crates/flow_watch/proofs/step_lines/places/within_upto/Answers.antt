use Rattle.std.proofs.Common.{refl}
use Rattle.flow_watch.proofs.step_lines.PlacedPairs.{laid_more}
use Rattle.flow_watch.proofs.step_lines.places.within_upto.Goals as goal

pub loop-number-preserved : goal.loop-number-preserved
loop-number-preserved c =
    laid_more c.args.slack c.args.wide c.args.parts.now c.loop-number.nodes c.let_in.new.nodes c.args.places.now c.loop-number.number c.loop-number.least c.lesser-least.result c.least_under-near.result c.index-places-number.result
    c.loop-number-test.true c.index-places-number.is (c.if-not-let_in.ensures.is_in refl) c.let_in.ensures.keeps c.lesser-least.ensures (c.if-not-is_within.ensures refl) c.least_under-near.ensures (c.if-not-is_within-2.ensures refl)
    c.loop-number.invariant
