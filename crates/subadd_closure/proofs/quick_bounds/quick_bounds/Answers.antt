use Rattle.std.proofs.Common.{refl, sym, true≢false}
use Rattle.curve_conv.proofs.Orders.{first_call, second_call}
use Rattle.curve_conv.proofs.BoundsFound.{bounds_first, bounds_second, bounds_equal}
use Rattle.subadd_closure.proofs.OrderedCurves.{thin_first, thin_second}
use Rattle.subadd_closure.proofs.quick_bounds.quick_bounds.Goals as goal

pub ordered_bounds-requires-clause-call : goal.ordered_bounds-requires-clause-call
ordered_bounds-requires-clause-call c = first_call c.args.f.now c.args.g.now c.args.from c.args.period c.args.end c.requires.parts (c.if-is_slower_curve.ensures.0 refl)

pub returns-then-is_slower_curve : goal.returns-then-is_slower_curve
returns-then-is_slower_curve c = bounds_first c.args.f.now c.args.g.now c.args.from c.args.period c.ordered_bounds.result (c.if-is_slower_curve.ensures.0 refl) c.ordered_bounds.ensures

pub ordered_bounds-requires-then-is_slower_curve-2-clause-call : goal.ordered_bounds-requires-then-is_slower_curve-2-clause-call
ordered_bounds-requires-then-is_slower_curve-2-clause-call c = second_call c.args.f.now c.args.g.now c.args.from c.args.period c.args.end c.requires.parts (c.if-is_slower_curve-2.ensures.0 refl)

pub returns-then-is_slower_curve-2 : goal.returns-then-is_slower_curve-2
returns-then-is_slower_curve-2 c = bounds_second c.args.f.now c.args.g.now c.args.from c.args.period c.ordered_bounds-then-is_slower_curve-2.result (c.if-is_slower_curve-2.ensures.0 refl) c.ordered_bounds-then-is_slower_curve-2.ensures

pub returns : goal.returns
returns c =
    bounds_equal c.args.f.now c.args.g.now c.args.from c.args.period (λ h. true≢false (sym (c.if-is_slower_curve.ensures.1 h))) (λ h. true≢false (sym (c.if-is_slower_curve-2.ensures.1 h)))

pub ordered_bounds-requires-clause-thin : goal.ordered_bounds-requires-clause-thin
ordered_bounds-requires-clause-thin c told = thin_first c.args.thin c.args.f.now c.args.g.now c.requires.thin told

pub ordered_bounds-requires-then-is_slower_curve-2-clause-thin : goal.ordered_bounds-requires-then-is_slower_curve-2-clause-thin
ordered_bounds-requires-then-is_slower_curve-2-clause-thin c told = thin_second c.args.thin c.args.f.now c.args.g.now c.requires.thin told
