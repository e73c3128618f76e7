use Rattle.std.proofs.Common.{refl, sym, true≢false}
use Rattle.curve_conv.proofs.Lowers.{parallel_first, parallel_second}
use Rattle.curve_conv.proofs.lower.parallel.Goals as goal

pub returns-then-is_less : goal.returns-then-is_less
returns-then-is_less c = parallel_second c.args.l.now c.args.m.now c.args.t c.requires (c.if-is_less.ensures.less.0 refl)

pub returns : goal.returns
returns c = parallel_first c.args.l.now c.args.m.now c.args.t c.requires (λ h. true≢false (sym (c.if-is_less.ensures.less.1 h)))
