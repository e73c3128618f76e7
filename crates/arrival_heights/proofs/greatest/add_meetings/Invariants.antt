use Rattle.arrival_heights.specs.Meetings.{AddsMeetings}
use Rattle.arrival_heights.proofs.greatest.add_meetings.Given as goal

abbrev pub invariant-loop-i : goal.invariant-loop-i
invariant-loop-i l = AddsMeetings l.lines l.begin l.end l.i l.fn.heights.items l.heights.items
