use Rattle.std.proofs.Common.{List, ℕ, ◌-◌, ◌/◌, ◌%◌, ◌++◌, ap, sym, ◌∙◌, append_assoc, arith}
use Rattle.std.specs.Fmt.{decimal}
use Rattle.std.specs.String.{string_bytes}
use Rattle.bounds_report.specs.Numbers.{with_digits}
use Rattle.bounds_report.proofs.Digits.{one_digit_more}
use Rattle.bounds_report.proofs.numbers.+add_digits.Goals as goal

pub returns : goal.returns
returns t c =
    let old = string_bytes c.args.into.now in
    let front = with_digits (c.args.more - 1) (c.args.number / 10) in
    let last = decimal (c.args.number % 10) in
    let same = one_digit_more c.args.more c.args.number (omega (arith, c.if-more-eq0.false)) in
    c.in_ok-add_digit.ensures
    ∙ (ap (λ (xs : List ℕ). xs ++ last) c.in_ok-add_digits.ensures
    ∙ (append_assoc old front last ∙ ap (λ (xs : List ℕ). old ++ xs) (sym same)))
