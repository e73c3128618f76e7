use Rattle.std.proofs.Common.{refl, sym, true≢false}
use Rattle.curve_conv.proofs.Orders.{first_call, second_call, begins_fit, of_first, of_second, of_equal}
use Rattle.curve_conv.proofs.order.late_periods.Goals as goal

pub begin-first-requires : goal.begin-first-requires
begin-first-requires c = (begins_fit c.args.f.now c.args.g.now c.args.from c.args.period c.args.end c.requires).0

pub begin-second-requires : goal.begin-second-requires
begin-second-requires c = (begins_fit c.args.f.now c.args.g.now c.args.from c.args.period c.args.end c.requires).1

pub late_number-requires-clause-call : goal.late_number-requires-clause-call
late_number-requires-clause-call c = first_call c.args.f.now c.args.g.now c.args.from c.args.period c.args.end c.requires (c.if-is_slower_curve.ensures.0 refl)

pub returns-then-is_slower_curve : goal.returns-then-is_slower_curve
returns-then-is_slower_curve c = of_first c.args.f.now c.args.g.now c.args.from c.args.period c.late_number.result (c.if-is_slower_curve.ensures.0 refl) c.late_number.ensures

pub late_number-requires-then-is_slower_curve-2-clause-call : goal.late_number-requires-then-is_slower_curve-2-clause-call
late_number-requires-then-is_slower_curve-2-clause-call c = second_call c.args.f.now c.args.g.now c.args.from c.args.period c.args.end c.requires (c.if-is_slower_curve-2.ensures.0 refl)

pub returns-then-is_slower_curve-2 : goal.returns-then-is_slower_curve-2
returns-then-is_slower_curve-2 c = of_second c.args.f.now c.args.g.now c.args.from c.args.period c.late_number-then-is_slower_curve-2.result (c.if-is_slower_curve-2.ensures.0 refl) c.late_number-then-is_slower_curve-2.ensures

pub returns : goal.returns
returns c =
    of_equal c.args.f.now c.args.g.now c.args.from c.args.period (λ h. true≢false (sym (c.if-is_slower_curve.ensures.1 h))) (λ h. true≢false (sym (c.if-is_slower_curve-2.ensures.1 h)))
