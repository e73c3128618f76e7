use Rattle.std.specs.Prelude.{◌≡◌, IfSome}
use Rattle.std.proofs.Common.{subst, arith}
use Rattle.rational.proofs.Laws.{le_of_lt}
use Rattle.upp_curve.specs.affine_segment.Values.{line_at}
use Rattle.rational.proofs.Compared.{is_less, not_less}
use Rattle.upp_curve.proofs.affine_segment.Lower.{turned}
use Rattle.upp_curve.proofs.affine_segment.cut.element_min.Goals as goal

pub lower_crossing-requires-clause-steep : goal.lower_crossing-requires-clause-steep
lower_crossing-requires-clause-steep c = le_of_lt (is_less c.cmp.result c.cmp.ensures.ranks c.in-Less.is)

pub lower_crossing-requires-in_default : goal.lower_crossing-requires-in_default
lower_crossing-requires-in_default c = record {
  apart = λ e. let n = c.in_ok-cross.ensures.parallel.1 e in let s = c.in-Some.is in grind (arith, n, s);
  steep = not_less c.cmp.result c.cmp.ensures.ranks c.in_default.not-Less;
  meet = subst (λ o. IfSome o (λ t. line_at c.args.a.now t ≡ line_at c.args.b.now t)) c.in-Some.is c.in_ok-cross.ensures.meet;
}

pub returns-in-None-clause-lower : goal.returns-in-None-clause-lower
returns-in-None-clause-lower c = c.lower_parallel.ensures c.args.from c.args.to

pub returns-in-Less-clause-lower : goal.returns-in-Less-clause-lower
returns-in-Less-clause-lower c =
    turned c.args.b.now c.args.a.now c.args.from c.args.to c.lower_crossing.result c.lower_crossing.ensures
