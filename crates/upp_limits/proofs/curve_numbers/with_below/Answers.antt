use Rattle.std.proofs.Common.{subst}
use Rattle.upp_limits.specs.Spans.{Span}
use Rattle.upp_limits.specs.Limits.{joined}
use Rattle.upp_limits.specs.Gathered.{Gathers}
use Rattle.rational.proofs.Compared.{not_less_out}
use Rattle.upp_limits.proofs.SpanNumbers.{if_some_map, too_many_known, copies_value, copies_known}
use Rattle.upp_limits.proofs.curve_numbers.with_below.Goals as goal

pub returns-then-copies-clause-fits : goal.returns-then-copies-clause-fits
returns-then-copies-clause-fits c =
    let p = c.in-Periodic in
    let s : Span = record { piece = c.args.read.now.0; next = c.args.read.now.1 } in
    let l = not_less_out c.is_less.result c.args.read.now.0.x p.rank c.is_less.ensures.less c.if-is_less.false in
    λ k. absurd (too_many_known c.args.tail.now p.rank p.period p.rise c.args.end s c.count_before-copies.result p.is l c.count_before-copies.ensures c.if-copies.true k)

pub returns-else-copies-clause-value : goal.returns-else-copies-clause-value
returns-else-copies-clause-value c =
    let p = c.in-Periodic in
    let s : Span = record { piece = c.args.read.now.0; next = c.args.read.now.1 } in
    let l = not_less_out c.is_less.result c.args.read.now.0.x p.rank c.is_less.ensures.less c.if-is_less.false in
    let e = copies_value c.args.tail.now p.rank p.period p.rise c.args.end s c.count_before-copies.result p.is l c.count_before-copies.ensures c.if-copies.false in
    if_some_map c.with_copies.result _ _ (λ r f n h. subst (λ k. Gathers r (joined n k)) e (f n h)) c.with_copies.ensures.value

pub returns-else-copies-clause-fits : goal.returns-else-copies-clause-fits
returns-else-copies-clause-fits c =
    let p = c.in-Periodic in
    let s : Span = record { piece = c.args.read.now.0; next = c.args.read.now.1 } in
    let l = not_less_out c.is_less.result c.args.read.now.0.x p.rank c.is_less.ensures.less c.if-is_less.false in
    λ k. c.with_copies.ensures.fits (copies_known c.args.tail.now p.rank p.period p.rise c.args.end s c.count_before-copies.result p.is l c.count_before-copies.ensures c.if-copies.false k)
