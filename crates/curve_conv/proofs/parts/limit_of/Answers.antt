use Rattle.std.proofs.Common.{refl, sym, true≢false}
use Rattle.curve_conv.proofs.PartLoops.{limit_all, limit_until, limit_room}
use Rattle.curve_conv.proofs.parts.limit_of.Goals as goal

pub returns-in-None : goal.returns-in-None
returns-in-None c = rw c.in-None.is (limit_all c.args.room)

pub returns-then-is_less : goal.returns-then-is_less
returns-then-is_less c = rw c.in-Some.is (limit_until c.args.room c.in-Some.e (c.if-is_less.ensures.less.0 refl))

pub returns-else-is_less : goal.returns-else-is_less
returns-else-is_less c = rw c.in-Some.is (limit_room c.args.room c.in-Some.e (λ h. true≢false (sym (c.if-is_less.ensures.less.1 h))))
