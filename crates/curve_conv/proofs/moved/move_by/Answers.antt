use Rattle.std.proofs.Common.{refl, sym, subst, true≢false}
use Rattle.rational.specs.Rational.{◌<ℚ◌}
use Rattle.rational.proofs.Laws.{le_of_not_lt}
use Rattle.curve_conv.proofs.OwnExtremes.{fast_own_fits}
use Rattle.curve_conv.proofs.OwnMoves.{is_move}
use Rattle.curve_conv.proofs.moved.move_by.Goals as goal

pub rise_over-requires : goal.rise_over-requires
rise_over-requires c = let s = c.args.s.now in fast_own_fits s.first.now s.second.now c.args.from c.args.period s.end c.period_or-own.result c.requires c.period_or-own.ensures

pub returns : goal.returns
returns c =
    let s = c.args.s.now in
    is_move s.first.now s.second.now c.args.from c.args.period s.end c.period_or-own.result c.in_ok-time.time c.rise_over.result c.in_ok-rise.rise c.args.n c.requires c.period_or-own.ensures c.in_ok-time.ensures c.rise_over.ensures
    c.in_ok-rise.ensures (subst (λ y. y <ℚ c.in_ok-time.time) c.zero.ensures (c.if-not-is_less.ensures.less.0 refl)) (le_of_not_lt (λ h. true≢false (sym (c.if-is_less.ensures.less.1 h))))
