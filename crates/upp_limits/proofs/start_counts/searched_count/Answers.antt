use Rattle.std.proofs.Common.{arith}
use Rattle.rational.specs.Rational.{◌-ℚ◌, ◌/ℚ◌}
use Rattle.rational.proofs.Laws.{le_of_lt}
use Rattle.min_plus.specs.WholeUp.{whole_up}
use Rattle.upp_limits.proofs.Rounding.{cap_reached, cap_kept, told_below, told_from}
use Rattle.upp_limits.proofs.start_counts.searched_count.Goals as goal

pub is_before-requires-clause-step : goal.is_before-requires-clause-step
is_before-requires-clause-step c = le_of_lt c.requires.period

pub returns-then-is_before : goal.returns-then-is_before
returns-then-is_before c =
    cap_reached (whole_up ((c.args.end -ℚ c.args.x) /ℚ c.args.period))
    (told_below c.args.x c.args.period c.args.end _ c.is_before.result c.requires.period c.is_before.ensures c.if-is_before.true)

pub loop-low-init : goal.loop-low-init
loop-low-init c = record {
  low = omega arith;
  high = told_from c.args.x c.args.period c.args.end _ c.is_before.result c.requires.period c.is_before.ensures c.if-is_before.false;
}

pub is_before-requires-in-loop-low-clause-step : goal.is_before-requires-in-loop-low-clause-step
is_before-requires-in-loop-low-clause-step c = le_of_lt c.requires.period

pub loop-low-preserved-then-is_before-2 : goal.loop-low-preserved-then-is_before-2
loop-low-preserved-then-is_before-2 c =
    let l = told_below c.args.x c.args.period c.args.end _ c.is_before-in-loop-low.result c.requires.period c.is_before-in-loop-low.ensures c.if-is_before-2.true in
    record { low = omega (arith, l); high = c.loop-low.invariant.high }

pub loop-low-preserved : goal.loop-low-preserved
loop-low-preserved c =
    let l = told_from c.args.x c.args.period c.args.end _ c.is_before-in-loop-low.result c.requires.period c.is_before-in-loop-low.ensures c.if-is_before-2.false in
    record { low = c.loop-low.invariant.low; high = l }

pub returns : goal.returns
returns c =
    let a = c.loop-low.invariant.low in
    let b = c.loop-low.invariant.high in
    let t = c.loop-low-test.false in
    cap_kept c.loop-low.low (whole_up ((c.args.end -ℚ c.args.x) /ℚ c.args.period)) (omega (arith, a, b, t)) (omega (arith, a, b, t))
