use Rattle.std.proofs.Common.{refl, sym, true≢false}
use Rattle.curve_call.proofs.BoundedNumber.{bounds_first_if, bounds_second_if, bounds_equal}
use Rattle.curve_call.proofs.bounds.side_bounds.Goals as goal

pub returns-then-is_slower : goal.returns-then-is_slower
returns-then-is_slower c = bounds_first_if c.args.f.now c.args.g.now c.args.from c.args.period c.bounds_below.result (c.if-is_slower.ensures.0 refl) c.bounds_below.ensures

pub returns-then-is_slower-2 : goal.returns-then-is_slower-2
returns-then-is_slower-2 c =
    bounds_second_if c.args.f.now c.args.g.now c.args.from c.args.period c.bounds_below-then-is_slower-2.result (c.if-is_slower-2.ensures.0 refl) c.bounds_below-then-is_slower-2.ensures

pub returns : goal.returns
returns c =
    bounds_equal c.args.f.now c.args.g.now c.args.from c.args.period record { low = 0; high = 0 } (λ h. true≢false (sym (c.if-is_slower.ensures.1 h))) (λ h. true≢false (sym (c.if-is_slower-2.ensures.1 h))) refl refl
