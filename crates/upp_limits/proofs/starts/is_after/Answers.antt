use Rattle.std.proofs.Common.{subst}
use Rattle.rational.specs.Rational.{◌<ℚ◌, ◌≤ℚ◌}
use Rattle.rational.proofs.Compared.{not_less_out, iff_some, iff_trans}
use Rattle.upp_limits.proofs.LongCrosses.{surely_after}
use Rattle.upp_limits.proofs.starts.is_after.Goals as goal

pub returns-then-is_less : goal.returns-then-is_less
returns-then-is_less c =
    let l = subst (λ z. c.args.end <ℚ z) c.zero.ensures (c.is_less.ensures.less.0 c.if-is_less.true) in
    iff_some (surely_after c.args.x c.args.d c.args.end c.args.n c.requires.start c.requires.step l)

pub crossed-requires-clause-late : goal.crossed-requires-clause-late
crossed-requires-clause-late c = subst (λ z. z ≤ℚ c.args.end) c.zero.ensures (not_less_out c.is_less.result c.args.end c.zero.result c.is_less.ensures.less c.if-is_less.false)

pub returns : goal.returns
returns c = iff_trans c.is_less-2.ensures c.crossed.ensures.after
