use Rattle.std.proofs.Common.{◌∙◌, sym, arith}
use Rattle.bounds_report.specs.Numbers.{is_written}
use Rattle.bounds_report.proofs.Digits.{found_here, found_later, found_nowhere}
use Rattle.bounds_report.proofs.numbers.more_digits.Goals as goal

pub returns-then-is_written-clause-value : goal.returns-then-is_written-clause-value
returns-then-is_written-clause-value c =
    sym (c.loop-more.invariant ∙ found_here (is_written c.args.number) c.loop-more.more (omega (arith, c.loop-more-test.true)) (sym c.is_written.ensures ∙ c.if-is_written.true))

pub loop-more-preserved : goal.loop-more-preserved
loop-more-preserved c =
    c.loop-more.invariant ∙ found_later (is_written c.args.number) c.loop-more.more (omega (arith, c.loop-more-test.true)) (sym c.is_written.ensures ∙ c.if-is_written.false)

pub returns-clause-value : goal.returns-clause-value
returns-clause-value c = sym (c.loop-more.invariant ∙ found_nowhere (is_written c.args.number) c.loop-more.more (omega (arith, c.loop-more-test.false)))
