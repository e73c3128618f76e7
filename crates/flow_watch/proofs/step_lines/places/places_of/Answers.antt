use Rattle.std.proofs.Common.{◌<◌, ◌^◌, arith}
use Rattle.flow_watch.proofs.step_lines.PlacedPairs.{placing_none, placing_more, some_whole, some_sum}
use Rattle.flow_watch.proofs.step_lines.places.places_of.Goals as goal

pub loop-entering-init : goal.loop-entering-init
loop-entering-init c = placing_none c.args.height c.args.spare c.args.rate c.args.entries.now _ c.new-places.ensures.items

pub placed_of-requires-clause-under : goal.placed_of-requires-clause-under
placed_of-requires-clause-under c = some_whole _ _ c.whole_of-in-loop-entering.ensures

pub placed_of-requires-clause-upto : goal.placed_of-requires-clause-upto
placed_of-requires-clause-upto c = some_sum _ _ _ _ c.whole_of.ensures c.requires.some c.in-Ok.ensures.value

pub loop-entering-preserved : goal.loop-entering-preserved
loop-entering-preserved c =
    let e = c.entering-item.result in
    let few : e.bits < 2 ^ 32 = omega arith in
    placing_more c.args.height c.args.spare c.args.rate c.args.entries.now c.loop-entering.entering-index c.loop-entering.bits c.loop-entering.places.items c.push.new.self.items c.in-Some.placed e
    c.whole_of-in-loop-entering.result c.whole_of.result c.in-Ok.most
    c.loop-entering-test.true c.entering-item.is few c.whole_of-in-loop-entering.ensures c.whole_of.ensures c.in-Ok.ensures.value c.in-Some.ensures c.in-Ok-push.ensures.items c.loop-entering.invariant
