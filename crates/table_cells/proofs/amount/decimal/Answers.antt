use Rattle.std.proofs.Common.{◌^◌, ◌≡◌, length, arith}
use Rattle.table_cells.proofs.Digits.{joined, amount_joined}
use Rattle.table_cells.proofs.amount.decimal.Goals as goal

pub overflow_mul-result : goal.overflow_mul-result
overflow_mul-result c =
    let w = length c.args.whole.now in
    let a = length c.args.after.now in
    let e : c.pow-bottom.result ≡ 10 ^ a = c.pow-bottom.ensures in
    let j = joined c.in_ok-front.front c.in_ok-back.back w a c.in_ok-front.ensures.short c.in_ok-back.ensures.short c.if-whole-after-gt-MOST_DIGITS.false in
    rw e (omega (arith, j))

pub overflow_add-result : goal.overflow_add-result
overflow_add-result c =
    let w = length c.args.whole.now in
    let a = length c.args.after.now in
    let e : c.pow-bottom.result ≡ 10 ^ a = c.pow-bottom.ensures in
    let j = joined c.in_ok-front.front c.in_ok-back.back w a c.in_ok-front.ensures.short c.in_ok-back.ensures.short c.if-whole-after-gt-MOST_DIGITS.false in
    rw e (omega (arith, j))

pub returns-clause-range : goal.returns-clause-range
returns-clause-range c =
    amount_joined c.in_ok-front.front c.in_ok-back.back (length c.args.whole.now) (length c.args.after.now) c.pow-bottom.result c.pow-bottom.ensures c.in_ok-front.ensures.short
    c.in_ok-back.ensures.short c.if-whole-after-gt-MOST_DIGITS.false
