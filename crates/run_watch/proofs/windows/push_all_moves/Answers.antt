use Rattle.std.proofs.Common.{◌++◌}
use Rattle.run_watch.specs.Classes.{all_moves}
use Rattle.run_watch.proofs.OrderedTimes.{same_times, turn_more, no_turns}
use Rattle.run_watch.proofs.windows.push_all_moves.Goals as goal

pub loop-p-init : goal.loop-p-init
loop-p-init c = same_times (c.args.times.now.items ++ all_moves c.args.side c.args.s.now c.args.pieces.now c.args.turns.now)

pub loop-p-preserved : goal.loop-p-preserved
loop-p-preserved c =
    turn_more c.args.side c.args.s.now c.args.pieces.now c.args.turns.now (c.args.times.now.items ++ all_moves c.args.side c.args.s.now c.args.pieces.now c.args.turns.now) c.loop-p.times.items c.push_moves.new.times.items
    c.put_in_order_again.new.times.items c.loop-p.p-index c.p-item.result c.loop-p-test.true c.p-item.is c.in_ok-push_moves.ensures c.in_ok-kept.ensures c.loop-p.invariant

pub returns : goal.returns
returns c =
    no_turns c.args.side c.args.s.now c.args.pieces.now c.args.turns.now (c.args.times.now.items ++ all_moves c.args.side c.args.s.now c.args.pieces.now c.args.turns.now) c.loop-p.times.items c.loop-p.p-index c.loop-p-test.false c.loop-p.invariant
