use Rattle.std.specs.List.{AllByRecursion}
use Rattle.std.proofs.Common.{◌↔◌, drop}
use Rattle.curve_library.specs.Listed.{IsNonnegText}
use Rattle.curve_library.proofs.texts.are_nonneg.Given as goal

abbrev pub invariant-loop-p : goal.invariant-loop-p
invariant-loop-p l = AllByRecursion IsNonnegText l.pieces ↔ AllByRecursion IsNonnegText (drop l.p-index l.pieces)
