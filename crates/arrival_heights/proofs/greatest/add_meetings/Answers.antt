use Rattle.std.proofs.Common.{arith, refl, ◌-◌}
use Rattle.arrival_heights.proofs.Concave.{no_line}
use Rattle.arrival_heights.proofs.Meetings.{all_met, falling_at, none_met, one_more_met, rising_at}
use Rattle.arrival_heights.proofs.greatest.add_meetings.Goals as goal

pub loop-i-init : goal.loop-i-init
loop-i-init c = none_met c.args.lines.now c.args.begin c.args.end c.args.heights.now.items

pub height_at_meeting-found-requires-clause-rising : goal.height_at_meeting-found-requires-clause-rising
height_at_meeting-found-requires-clause-rising c = rising_at c.args.lines.now c.requires c.loop-i.i (omega arith) (omega arith)

pub height_at_meeting-found-requires-clause-falling : goal.height_at_meeting-found-requires-clause-falling
height_at_meeting-found-requires-clause-falling c = falling_at c.args.lines.now c.requires c.loop-i.i (omega arith) (omega arith)

pub height_at_meeting-found-requires-clause-burst : goal.height_at_meeting-found-requires-clause-burst
height_at_meeting-found-requires-clause-burst c = c.requires.bursts c.loop-i.i no_line (omega arith)

pub height_at_meeting-found-requires-clause-rate : goal.height_at_meeting-found-requires-clause-rate
height_at_meeting-found-requires-clause-rate c = c.requires.rates (c.loop-i.i - 1) no_line (omega arith)

pub loop-i-preserved : goal.loop-i-preserved
loop-i-preserved c =
    one_more_met c.args.lines.now c.args.begin c.args.end c.loop-i.i (c.loop-i.i - 1) _ _ c.height_at_meeting-found.result c.args.heights.now.items c.loop-i.heights.items c.add.new.heights.items
    (omega arith) (omega arith) refl refl c.height_at_meeting-found.ensures.bound c.height_at_meeting-found.ensures.moment c.in_ok-add.ensures c.loop-i.invariant

pub returns : goal.returns
returns c = all_met c.args.lines.now c.args.begin c.args.end c.loop-i.i c.args.heights.now.items c.loop-i.heights.items (omega arith) c.loop-i.invariant
