use Rattle.std.proofs.Common.{refl, sym, true≢false}
use Rattle.curve_call.proofs.BoundedNumber.{bounds_first_if, bounds_second_if, bounds_equal}
use Rattle.plain_operators.proofs.pointwise.leaning.bounds_by_lines.Goals as goal

pub returns-then-is_slower : goal.returns-then-is_slower
returns-then-is_slower c = bounds_first_if c.args.f.now c.args.g.now c.args.from c.args.period c.high_by_lines.result (c.if-is_slower.ensures.0 refl) c.high_by_lines.ensures

pub returns-then-is_slower-2 : goal.returns-then-is_slower-2
returns-then-is_slower-2 c = bounds_second_if c.args.f.now c.args.g.now c.args.from c.args.period c.high_by_lines-then-is_slower-2.result (c.if-is_slower-2.ensures.0 refl) c.high_by_lines-then-is_slower-2.ensures

pub returns : goal.returns
returns c =
    bounds_equal c.args.f.now c.args.g.now c.args.from c.args.period record { low = 0; high = 0 } (λ h. true≢false (sym (c.if-is_slower.ensures.1 h))) (λ h. true≢false (sym (c.if-is_slower-2.ensures.1 h))) refl refl
