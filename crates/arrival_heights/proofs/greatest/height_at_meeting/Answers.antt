use Rattle.std.proofs.Common.{arith, ap, ◌-◌}
use Rattle.std.proofs.lemmas.Bool.{iff_false}
use Rattle.arrival_heights.specs.Heights.{ahead_of}
use Rattle.arrival_heights.specs.Meetings.{MeetAfter}
use Rattle.arrival_heights.proofs.Meetings.{met_between, not_met}
use Rattle.arrival_heights.proofs.greatest.height_at_meeting.Goals as goal

pub returns-then-is_between-clause-bound : goal.returns-then-is_between-clause-bound
returns-then-is_between-clause-bound c = λ rate.
    let (late, early) = c.is_between.ensures.0 c.if-is_between.true in
    let o = c.args.next.burst - c.args.step.burst in
    let u = c.args.step.rate - c.args.next.rate in
    let after : MeetAfter c.args.step c.args.next o u = record { some = omega arith; rise = omega arith; fall = omega arith } in
    met_between c.args.step c.args.next rate c.args.begin c.args.end _ o u after record { late = late; early = early }
    (ap (λ n. ahead_of rate record { at = record { over = o; under = u }; grains = n }) c.height_of_line.ensures.is)

pub returns-else-is_between-clause-bound : goal.returns-else-is_between-clause-bound
returns-else-is_between-clause-bound c = λ rate.
    let o = c.args.next.burst - c.args.step.burst in
    let u = c.args.step.rate - c.args.next.rate in
    let after : MeetAfter c.args.step c.args.next o u = record { some = omega arith; rise = omega arith; fall = omega arith } in
    not_met c.args.step c.args.next rate c.args.begin c.args.end o u after (λ late early. iff_false c.is_between.ensures c.if-is_between.false (late, early))
