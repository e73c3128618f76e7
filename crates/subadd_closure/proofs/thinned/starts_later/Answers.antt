use Rattle.std.proofs.Common.{sym, subst}
use Rattle.rational.specs.Rational.{◌<ℚ◌}
use Rattle.subadd_closure.proofs.ThinnedElements.{none_before, one_before}
use Rattle.subadd_closure.proofs.thinned.starts_later.Goals as goal

pub returns-then-k-pieces : goal.returns-then-k-pieces
returns-then-k-pieces c h = none_before c.args.x c.args.pieces.now c.args.k c.if-k-pieces.true

pub returns : goal.returns
returns c h =
    one_before c.args.x c.args.pieces.now c.args.k c.index-pieces-k.result c.if-k-pieces.false c.index-pieces-k.is
    (subst (λ p. c.args.x <ℚ p.x) (sym c.index-pieces-k.is) (c.is_less.ensures.less.0 h))
