use Rattle.std.proofs.Common.{sym, subst}
use Rattle.rational.specs.Rational.{◌≤ℚ◌}
use Rattle.rational.proofs.Laws.{le_of_lt, le_refl}
use Rattle.rational.proofs.MinMax.{max_q_left, max_q_right}
use Rattle.curve_call.proofs.times.later_of.Goals as goal

pub returns-in-Greater : goal.returns-in-Greater
returns-in-Greater c = sym (max_q_left c.args.a c.args.b c.in-Greater.ensures.ranks)

pub returns-in-Less : goal.returns-in-Less
returns-in-Less c = sym (max_q_right c.args.a c.args.b (le_of_lt c.in-Less.ensures.ranks))

pub returns-in-Equal : goal.returns-in-Equal
returns-in-Equal c = sym (max_q_right c.args.a c.args.b (subst (λ y. c.args.a ≤ℚ y) c.in-Equal.ensures.ranks (le_refl c.args.a)))
