use Rattle.std.proofs.Common.{refl}
use Rattle.rational.proofs.Laws.{not_le_of_lt}
use Rattle.upp_normal.proofs.ahead.copied_value.Goals as goal

pub returns-then-is_less-clause-start : goal.returns-then-is_less-clause-start
returns-then-is_less-clause-start c = λ h. absurd (not_le_of_lt (c.if-is_less.ensures.less.0 refl) h)
