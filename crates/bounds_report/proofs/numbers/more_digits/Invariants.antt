use Rattle.std.proofs.Common.{◌≡◌, ◌-◌}
use Rattle.std.specs.List.{find, range_with_len}
use Rattle.bounds_report.specs.Numbers.{is_written, more_digits}
use Rattle.bounds_report.proofs.numbers.more_digits.Given as goal

abbrev pub invariant-loop-more : goal.invariant-loop-more
invariant-loop-more l = more_digits l.number ≡ find (is_written l.number) (range_with_len l.more (16 - l.more))
