use Rattle.rational.proofs.Compared.{not_less_out}
use Rattle.rational.proofs.Laws.{le_of_lt, le_refl}
use Rattle.element_envelope.proofs.near.larger.Goals as goal

pub returns-then-is_less-clause-first : goal.returns-then-is_less-clause-first
returns-then-is_less-clause-first c = le_of_lt (c.is_less.ensures.less.0 c.if-is_less.true)

pub returns-then-is_less-clause-second : goal.returns-then-is_less-clause-second
returns-then-is_less-clause-second c = le_refl c.args.b

pub returns-clause-first : goal.returns-clause-first
returns-clause-first c = le_refl c.args.a

pub returns-clause-second : goal.returns-clause-second
returns-clause-second c = not_less_out c.is_less.result c.args.a c.args.b c.is_less.ensures.less c.if-is_less.false
