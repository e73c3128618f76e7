use Rattle.curve_conv.specs.Rises.{IsLookedUntil}
use Rattle.curve_conv.proofs.rises.rise_between.Given as goal

abbrev pub invariant-loop-piece : goal.invariant-loop-piece
invariant-loop-piece l = IsLookedUntil l.c l.begin l.first l.period l.looked
