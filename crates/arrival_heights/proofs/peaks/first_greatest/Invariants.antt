use Rattle.arrival_heights.specs.Peaks.{IsFirstGreatest}
use Rattle.arrival_heights.proofs.peaks.first_greatest.Given as goal

abbrev pub invariant-loop-i : goal.invariant-loop-i
invariant-loop-i l = IsFirstGreatest l.heights l.rate l.i l.place
