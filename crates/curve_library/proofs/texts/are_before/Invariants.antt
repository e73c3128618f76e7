use Rattle.std.specs.List.{AllByRecursion}
use Rattle.std.proofs.Common.{◌↔◌, drop}
use Rattle.rational.specs.Rational.{◌+ℚ◌, ◌<ℚ◌}
use Rattle.curve_library.proofs.texts.are_before.Given as goal

abbrev pub invariant-loop-p : goal.invariant-loop-p
invariant-loop-p l =
    AllByRecursion (λ p. p.x <ℚ l.rank +ℚ l.period) l.pieces ↔ AllByRecursion (λ p. p.x <ℚ l.rank +ℚ l.period) (drop l.p-index l.pieces)
