use Rattle.std.proofs.Common.{sym, subst, true≢false}
use Rattle.rational.specs.Rational.{ℚ, ◌≤ℚ◌}
use Rattle.rational.specs.Whole.{whole_part}
use Rattle.rational.proofs.Laws.{le_of_not_lt, not_zero}
use Rattle.flow_watch.proofs.stairs.count_under.Goals as goal

pub div-requires : goal.div-requires
div-requires c = not_zero c.args.height c.requires

pub returns : goal.returns
returns c = record {
  number = whole_part c.in-Ok.ratio;
  is = c.whole_part-count.ensures;
  under = subst (λ (x : ℚ). x ≤ℚ c.args.value) c.in-Ok-mul.ensures.value (le_of_not_lt (λ h. true≢false (sym (c.if-is_less.ensures.less.1 h))));
}
