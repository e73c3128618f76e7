use Rattle.rational.proofs.Laws.{le_of_lt}
use Rattle.rational.proofs.Compared.{is_greater, not_greater}
use Rattle.upp_curve.proofs.affine_segment.Lower.{parallel_left, parallel_right}
use Rattle.upp_curve.proofs.affine_segment.cut.lower_parallel.Goals as goal

pub returns-in-Greater : goal.returns-in-Greater
returns-in-Greater c = rw c.uncut.ensures (parallel_right c.args.a c.args.b c.requires (le_of_lt (is_greater c.cmp.result c.cmp.ensures.ranks c.in-Greater.is)))

pub returns-in_default : goal.returns-in_default
returns-in_default c = rw c.uncut-in_default.ensures (parallel_left c.args.a c.args.b c.requires (not_greater c.cmp.result c.cmp.ensures.ranks c.in_default.not-Greater))
