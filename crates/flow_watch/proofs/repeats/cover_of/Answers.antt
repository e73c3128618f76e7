use Rattle.std.proofs.Common.{sym, subst, true≢false}
use Rattle.rational.specs.Rational.{ℚ, ◌≤ℚ◌}
use Rattle.rational.specs.Whole.{whole_part}
use Rattle.rational.proofs.Laws.{le_of_not_lt, not_zero}
use Rattle.flow_watch.proofs.Repeated.{cover_is}
use Rattle.flow_watch.proofs.repeats.cover_of.Goals as goal

pub div-requires : goal.div-requires
div-requires c = not_zero c.args.height c.requires

pub returns : goal.returns
returns c =
    cover_is c.args.height c.args.value c.whole_part.result c.one.result c.in-Ok-add.count c.in-Ok-mul.all c.in-Ok-sub.spare (whole_part c.in-Ok.ratio) c.whole_part.ensures c.one.ensures c.in-Ok-add.ensures.value c.in-Ok-mul.ensures.value c.in-Ok-sub.ensures.value
    (subst (λ (z : ℚ). z ≤ℚ c.in-Ok-sub.spare) c.zero.ensures (le_of_not_lt (λ h. true≢false (sym (c.if-is_less.ensures.less.1 h)))))
