use Rattle.std.proofs.Common.{◌≡◌, drop}
use Rattle.curve_deconv.specs.Marks.{first_last, last_of}
use Rattle.curve_deconv.proofs.marks.last_infinite.Given as goal

abbrev pub invariant-loop-i : goal.invariant-loop-i
invariant-loop-i l = last_of (drop l.i l.pieces) l.end l.last ≡ last_of l.pieces l.end first_last
