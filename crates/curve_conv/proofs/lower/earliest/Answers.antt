use Rattle.std.proofs.Common.{refl, sym, true≢false}
use Rattle.curve_conv.proofs.Lowers.{earliest_first, earliest_second}
use Rattle.curve_conv.proofs.lower.earliest.Goals as goal

pub returns-then-is_less : goal.returns-then-is_less
returns-then-is_less c = rw (c.in-Some.is, c.in-Some-b.is) (earliest_second _ _ (c.if-is_less.ensures.less.0 refl))

pub returns-else-is_less : goal.returns-else-is_less
returns-else-is_less c = rw (c.in-Some.is, c.in-Some-b.is) (earliest_first _ _ (λ h. true≢false (sym (c.if-is_less.ensures.less.1 h))))
