use Rattle.bounds_report.proofs.numbers.+add_digits.Given as goal

-- proposed from what the function passes where it calls itself
abbrev pub decreases-add_digits : goal.decreases-add_digits
decreases-add_digits l = l.more
