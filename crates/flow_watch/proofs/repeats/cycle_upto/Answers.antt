use Rattle.std.proofs.Common.{◌<◌, ◌∙◌, Option, length, ap, subst, arith}
use Rattle.std.specs.Prelude.{unwrap_or}
use Rattle.rational.specs.Rational.{ℚ}
use Rattle.flow_watch.specs.Repeats.{HoldsPiece}
use Rattle.flow_watch.proofs.Repeated.{holds_more}
use Rattle.flow_watch.proofs.repeats.cycle_upto.Goals as goal

pub loop-i-preserved : goal.loop-i-preserved
loop-i-preserved c =
    let k = c.args.cycle.now in
    let es = c.args.entries.now in
    let ps = c.args.pieces.now in
    let p = c.index-pieces-i.result in
    let l : c.loop-i.i < length ps = omega arith in
    holds_more k.rank k.period k.rise c.args.end es c.loop-i.least c.in-Some.count c.fewer-least.result ps c.loop-i.i p l c.index-pieces-i.is
    (subst (λ (x : ℚ). HoldsPiece k.rank k.period k.rise es p x c.in-Some.count) (c.unwrap_or-until.ensures ∙ ap (λ (o : Option ℚ). unwrap_or o c.args.end) c.next_start.ensures) c.in-Some.ensures)
    c.fewer-least.ensures.left c.fewer-least.ensures.right c.loop-i.invariant
