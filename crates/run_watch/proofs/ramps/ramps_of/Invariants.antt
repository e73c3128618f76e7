use Rattle.std.proofs.Common.{◌≡◌, ◌++◌, drop, pos}
use Rattle.rational.specs.Rational.{int}
use Rattle.run_watch.specs.Ramps.{ramps_after, RampsFit}
use Rattle.run_watch.proofs.ramps.ramps_of.Given as goal

abbrev pub invariant-loop-s : goal.invariant-loop-s
invariant-loop-s l =
    (l.ramps.items ++ ramps_after l.done (drop l.s-index l.spans) ≡ ramps_after (int (pos 0)) l.spans)
    × RampsFit l.done (drop l.s-index l.spans)
