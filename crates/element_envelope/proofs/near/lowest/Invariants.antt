use Rattle.std.specs.Prelude.{◌<◌, length}
use Rattle.element_envelope.proofs.near.lowest.Given as goal

abbrev pub invariant-loop-i : goal.invariant-loop-i
invariant-loop-i l = l.low < length l.starts
