use Rattle.std.proofs.Common.{sym}
use Rattle.rational.proofs.Laws.{le_of_lt}
use Rattle.rational.proofs.Compared.{is_greater, not_greater}
use Rattle.curve_call.proofs.LinesLie.{parallel_lines}
use Rattle.curve_call.proofs.lie.parallel_order.Goals as goal

pub returns-in-Greater : goal.returns-in-Greater
returns-in-Greater c = λ from to t a b. parallel_lines c.args.b.now c.args.a.now t (sym c.requires) (le_of_lt (is_greater c.cmp.result c.cmp.ensures.ranks c.in-Greater.is))

pub returns-in_default : goal.returns-in_default
returns-in_default c = λ from to t a b. parallel_lines c.args.a.now c.args.b.now t c.requires (not_greater c.cmp.result c.cmp.ensures.ranks c.in_default.not-Greater)
