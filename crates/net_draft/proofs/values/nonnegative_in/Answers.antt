use Rattle.std.proofs.Common.{pos, sym, subst, ◌∙◌}
use Rattle.rational.specs.Rational.{int, ◌≤ℚ◌, ◌<ℚ◌}
use Rattle.rational.proofs.Laws.{le_refl, le_of_lt}
use Rattle.net_draft.proofs.values.nonnegative_in.Goals as goal

pub returns-in-Equal-clause-range : goal.returns-in-Equal-clause-range
returns-in-Equal-clause-range c = subst (λ x. int (pos 0) ≤ℚ x) (sym (c.in-Equal.ensures.ranks ∙ c.zero.ensures)) (le_refl (int (pos 0)))

pub returns-in-Greater-clause-range : goal.returns-in-Greater-clause-range
returns-in-Greater-clause-range c = le_of_lt (subst (λ z. z <ℚ c.in_ok-number.number) c.zero.ensures c.in-Greater.ensures.ranks)
