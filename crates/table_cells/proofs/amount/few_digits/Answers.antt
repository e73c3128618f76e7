use Rattle.std.proofs.Common.{arith}
use Rattle.table_cells.proofs.Digits.{capped, few, few_is, short}
use Rattle.table_cells.proofs.amount.few_digits.Goals as goal

pub overflow_cast-result : goal.overflow_cast-result
overflow_cast-result c =
    let e = c.in_ok-n.ensures in
    let within = c.if-digits-gt-MOST_DIGITS.false in
    let is = capped c.args.digits.now c.in_ok-n.n within e.0 e.1 in
    let few = few c.args.digits.now within e.0 in
    omega (arith, is, few)

pub returns-clause-value : goal.returns-clause-value
returns-clause-value c =
    let e = c.in_ok-n.ensures in few_is c.args.digits.now c.in_ok-n.n c.if-digits-gt-MOST_DIGITS.false e.0 e.1

pub returns-clause-short : goal.returns-clause-short
returns-clause-short c =
    let e = c.in_ok-n.ensures in
    let is = capped c.args.digits.now c.in_ok-n.n c.if-digits-gt-MOST_DIGITS.false e.0 e.1 in
    let less = short c.args.digits.now e.0 in
    omega (arith, is, less)

pub returns-clause-range : goal.returns-clause-range
returns-clause-range c =
    let e = c.in_ok-n.ensures in
    let within = c.if-digits-gt-MOST_DIGITS.false in
    let is = capped c.args.digits.now c.in_ok-n.n within e.0 e.1 in
    let few = few c.args.digits.now within e.0 in
    omega (arith, is, few)
