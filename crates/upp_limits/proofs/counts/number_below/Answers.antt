use Rattle.rational.proofs.Compared.{not_less_out}
use Rattle.upp_limits.proofs.CountSums.{copies_number}
use Rattle.upp_limits.proofs.counts.number_below.Goals as goal

pub returns-else-is_less : goal.returns-else-is_less
returns-else-is_less c =
    let t = c.in-Periodic in
    let p = c.args.piece.now in
    copies_number c.args.tail.now t.rank t.period t.rise c.args.end p c.count_before-copies.result c.min.result t.is
    (not_less_out c.is_less.result p.x t.rank c.is_less.ensures.less c.if-is_less.false) c.count_before-copies.ensures c.min.ensures
