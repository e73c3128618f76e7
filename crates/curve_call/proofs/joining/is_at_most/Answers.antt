use Rattle.rational.proofs.Laws.{le_of_lt}
use Rattle.rational.proofs.Compared.{is_greater, not_greater}
use Rattle.curve_call.proofs.JoinedPieces.{lesser_left, lesser_right}
use Rattle.curve_call.proofs.joining.is_at_most.Goals as goal

pub returns-in-Greater-clause-greater : goal.returns-in-Greater-clause-greater
returns-in-Greater-clause-greater c = λ e.
    lesser_right c.args.a.now c.args.b.now c.in-Fin-a.x c.in-Fin.y c.in-Fin-a.is c.in-Fin.is (le_of_lt (is_greater c.cmp.result c.cmp.ensures.ranks c.in-Greater.is))

pub returns-in_default-clause-least : goal.returns-in_default-clause-least
returns-in_default-clause-least c = λ e.
    lesser_left c.args.a.now c.args.b.now c.in-Fin-a.x c.in-Fin.y c.in-Fin-a.is c.in-Fin.is (not_greater c.cmp.result c.cmp.ensures.ranks c.in_default.not-Greater)
