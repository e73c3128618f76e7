use Rattle.std.specs.Prelude.{pos}
use Rattle.std.proofs.Common.{sym, subst}
use Rattle.rational.specs.Rational.{◌≤ℚ◌, int}
use Rattle.rational.proofs.Laws.{le_refl}
use Rattle.subadd_closure.proofs.from_start.begins_at.Goals as goal

pub value_at-requires : goal.value_at-requires
value_at-requires c = subst (λ x. int (pos 0) ≤ℚ x) (sym c.zero.ensures) (le_refl (int (pos 0)))
