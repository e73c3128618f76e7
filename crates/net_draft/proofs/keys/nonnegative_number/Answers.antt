use Rattle.std.proofs.Common.{pos, sym, subst}
use Rattle.rational.specs.Rational.{int, ◌≤ℚ◌}
use Rattle.rational.proofs.Laws.{le_refl}
use Rattle.net_draft.proofs.keys.nonnegative_number.Goals as goal

pub returns-in-None-clause-range : goal.returns-in-None-clause-range
returns-in-None-clause-range c = subst (λ x. int (pos 0) ≤ℚ x) (sym c.zero.ensures) (le_refl (int (pos 0)))
