use Rattle.std.proofs.Common.{refl, sym, subst, true≢false}
use Rattle.rational.specs.Rational.{◌<ℚ◌}
use Rattle.curve_conv.proofs.BoundsFound.{begins_early, bounds_none, bounds_after}
use Rattle.curve_conv.proofs.bounds.bounds_of.Goals as goal

pub begin-first-requires : goal.begin-first-requires
begin-first-requires c = let s = c.args.s.now in (begins_early s.first.now s.second.now c.args.from c.args.period s.end c.requires).0

pub returns-then-not-is_less : goal.returns-then-not-is_less
returns-then-not-is_less c =
    let s = c.args.s.now in
    bounds_none s.first.now s.second.now c.args.from c.args.period c.begin-first.result c.zero-zero.result c.zero-zero.ensures c.begin-first.ensures (λ h. true≢false (sym (c.if-not-is_less.ensures.less.1 h)))

pub enough_number-requires-clause-some : goal.enough_number-requires-clause-some
enough_number-requires-clause-some c = subst (λ y. y <ℚ c.lead-lead.result) c.zero-zero.ensures (c.if-not-is_less-2.ensures.less.0 refl)

pub returns : goal.returns
returns c =
    let s = c.args.s.now in
    bounds_after s.first.now s.second.now c.args.from c.args.period s.end c.in_ok-high.high c.requires c.in_ok-high.ensures
