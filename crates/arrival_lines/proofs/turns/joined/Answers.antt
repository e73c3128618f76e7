use Rattle.arrival_lines.proofs.Joined.{none_joined, all_fit, one_joined, all_joined}
use Rattle.arrival_lines.proofs.turns.joined.Goals as goal

pub loop-turn-init : goal.loop-turn-init
loop-turn-init c = none_joined c.args.turns.now c.new-all.result.items c.new-all.ensures.items

pub loop-turn-preserved : goal.loop-turn-preserved
loop-turn-preserved c =
    one_joined c.args.turns.now c.loop-turn.all.items c.join.new.turns.items c.loop-turn.turn-index record { rise = 0; fall = 0 } c.loop-turn-test.true c.requires.order c.loop-turn.invariant c.in_ok-join.ensures

pub join-requires : goal.join-requires
join-requires c =
    all_fit c.args.turns.now c.loop-turn.all.items c.loop-turn.turn-index record { rise = 0; fall = 0 } c.loop-turn-test.true c.loop-turn.invariant c.requires.rises c.requires.falls

pub returns : goal.returns
returns c = all_joined c.args.turns.now c.loop-turn.all.items c.loop-turn.turn-index c.loop-turn-test.false c.loop-turn.invariant
