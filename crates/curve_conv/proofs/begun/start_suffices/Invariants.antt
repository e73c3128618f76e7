use Rattle.curve_conv.proofs.BegunMoves.{IsTried}
use Rattle.curve_conv.proofs.begun.start_suffices.Given as goal

abbrev pub invariant-loop-turn : goal.invariant-loop-turn
invariant-loop-turn l = IsTried l.s.first.now l.s.second.now l.from l.s.end l.v
