use Rattle.std.proofs.Common.{arith}
use Rattle.curve_library.proofs.Doubling.{even_is, odd_is, at_most}
use Rattle.curve_library.proofs.shares.+product_over.Goals as goal

pub returns-then-n-eq0-2-clause-is : goal.returns-then-n-eq0-2-clause-is
returns-then-n-eq0-2-clause-is t c =
    let h = c.product_over-half.result in
    let w = c.carried-whole.result in
    even_is c.args.n c.args.m c.args.by h.0 h.1 w.0 w.1 (omega arith) c.product_over-half.ensures.is c.carried-whole.ensures.is

pub returns-then-n-eq0-2-clause-most : goal.returns-then-n-eq0-2-clause-most
returns-then-n-eq0-2-clause-most t c =
    let h = c.product_over-half.result in
    let w = c.carried-whole.result in
    at_most c.args.n c.args.m c.args.by w.0 w.1 c.requires.factor (even_is c.args.n c.args.m c.args.by h.0 h.1 w.0 w.1 (omega arith) c.product_over-half.ensures.is c.carried-whole.ensures.is)

pub returns-else-n-eq0-2-clause-is : goal.returns-else-n-eq0-2-clause-is
returns-else-n-eq0-2-clause-is t c =
    let h = c.product_over-half.result in
    let w = c.carried-whole.result in
    let v = c.carried.result in
    odd_is c.args.n c.args.m c.args.by h.0 h.1 w.0 w.1 v.0 v.1 (λ e. omega arith) c.product_over-half.ensures.is c.carried-whole.ensures.is c.carried.ensures.is

pub returns-else-n-eq0-2-clause-most : goal.returns-else-n-eq0-2-clause-most
returns-else-n-eq0-2-clause-most t c =
    let h = c.product_over-half.result in
    let w = c.carried-whole.result in
    let v = c.carried.result in
    at_most c.args.n c.args.m c.args.by v.0 v.1 c.requires.factor
    (odd_is c.args.n c.args.m c.args.by h.0 h.1 w.0 w.1 v.0 v.1 (λ e. omega arith) c.product_over-half.ensures.is c.carried-whole.ensures.is c.carried.ensures.is)
