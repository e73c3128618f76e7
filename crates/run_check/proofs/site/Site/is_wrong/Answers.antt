use Rattle.std.proofs.Common.{refl}
use Rattle.run_check.proofs.SiteSteps.{no_time, no_bits, wrong_else}
use Rattle.run_check.proofs.site.Site.is_wrong.Goals as goal

pub returns-then-not-is_less : goal.returns-then-not-is_less
returns-then-not-is_less c =
    (λ t. no_time c.args.self.now c.args.piece.now c.args.rest c.is_less.result c.is_less.ensures.less c.if-not-is_less.true, λ w. refl)

pub returns-then-not-is_less-2 : goal.returns-then-not-is_less-2
returns-then-not-is_less-2 c = (
  λ t. no_bits c.args.self.now c.args.piece.now c.args.rest c.zero.result c.is_less-2.result c.zero.ensures c.is_less-2.ensures.less c.if-not-is_less-2.true,
  λ w. refl,
)

pub returns-else-is_other : goal.returns-else-is_other
returns-else-is_other c =
    wrong_else c.args.self.now c.args.piece.now c.args.rest c.zero.result c.is_less.result c.is_less-2.result c.is_less-3.result c.is_other.result c.is_less-else-is_other.result
    c.zero.ensures c.is_less.ensures.less c.if-not-is_less.false c.is_less-2.ensures.less c.if-not-is_less-2.false c.is_less-3.ensures.less c.if-is_less.false
    c.is_other.ensures c.if-is_other.false c.is_less-else-is_other.ensures.less
