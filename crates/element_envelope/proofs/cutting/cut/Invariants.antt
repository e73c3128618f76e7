use Rattle.std.proofs.Common.{◌≡◌, ◌++◌, drop}
use Rattle.element_envelope.specs.PieceElements.{elements_of}
use Rattle.element_envelope.proofs.cutting.cut.Given as goal

abbrev pub invariant-loop-i : goal.invariant-loop-i
invariant-loop-i l = l.elements.items ++ elements_of (drop l.i l.pieces) l.end ≡ elements_of l.pieces l.end
