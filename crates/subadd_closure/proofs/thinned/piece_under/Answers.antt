use Rattle.std.proofs.Common.{refl}
use Rattle.rational.proofs.Compared.{least_by_test}
use Rattle.subadd_closure.proofs.ThinnedElements.{past_under, start_under}
use Rattle.subadd_closure.proofs.thinned.piece_under.Goals as goal

pub returns-then-is_less : goal.returns-then-is_less
returns-then-is_less c h =
    past_under c.args.p.now c.args.x c.args.v (c.if-is_less.ensures.less.0 refl) (c.line_under.ensures h)

pub returns : goal.returns
returns c h =
    start_under c.args.p.now c.args.x c.args.v (least_by_test c.args.p.now.x c.args.x c.if-is_less.ensures.less)
    (c.is_number_by.ensures h)
