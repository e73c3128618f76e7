use Rattle.rational.proofs.Compared.{not_less_out}
use Rattle.upp_limits.proofs.AtRank.{none_past, some_past, infinite_at, finite_at}
use Rattle.upp_limits.proofs.own_window.is_infinite_at.Goals as goal

pub returns-in-None : goal.returns-in-None
returns-in-None c = none_past c.args.last.now c.args.rank (c.is_less.ensures.less.0 c.if-is_less.true) c.in-None.is

pub returns-in-Some : goal.returns-in-Some
returns-in-Some c = some_past c.args.last.now c.args.rank c.in-Some.field-0 (c.is_less.ensures.less.0 c.if-is_less.true) c.in-Some.is

pub returns-in-Inf : goal.returns-in-Inf
returns-in-Inf c =
    infinite_at c.args.last.now c.args.rank (not_less_out c.is_less.result c.args.last.now.x c.args.rank c.is_less.ensures.less c.if-is_less.false) c.in-Inf.is

pub returns-in-Fin : goal.returns-in-Fin
returns-in-Fin c =
    finite_at c.args.last.now c.args.rank c.in-Fin.field-0 (not_less_out c.is_less.result c.args.last.now.x c.args.rank c.is_less.ensures.less c.if-is_less.false) c.in-Fin.is
