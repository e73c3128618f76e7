use Rattle.std.proofs.Common.{refl}
use Rattle.rational.proofs.Compared.{least_by_test}
use Rattle.subadd_closure.proofs.ThinnedElements.{ends_after, ends_within}
use Rattle.subadd_closure.proofs.thinned.ends_under.Goals as goal

pub returns-then-not-is_less : goal.returns-then-not-is_less
returns-then-not-is_less c h =
    ends_after c.args.p.now c.args.own.now c.args.line.now c.args.from c.args.to c.requires
    (c.if-not-is_low_at.ensures refl) (least_by_test c.args.from c.args.p.now.x c.if-not-is_less.ensures.less)
    (c.is_low_at-then-not-is_less.ensures h)

pub returns-then-is_low_at : goal.returns-then-is_low_at
returns-then-is_low_at c h =
    ends_within c.args.p.now c.args.own.now c.args.line.now c.args.from c.args.to c.requires
    (c.if-not-is_low_at.ensures refl) (c.if-is_low_at.ensures refl) (c.starts_under.ensures h)
