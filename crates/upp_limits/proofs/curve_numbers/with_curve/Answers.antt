use Rattle.std.proofs.Common.{subst}
use Rattle.upp_limits.specs.Spans.{spans}
use Rattle.upp_limits.specs.Limits.{joined}
use Rattle.upp_limits.specs.ClosedForm.{tail_numbers, closed_spans}
use Rattle.upp_limits.specs.Gathered.{Gathers}
use Rattle.upp_limits.proofs.JoinedNumbers.{joined_assoc}
use Rattle.upp_limits.proofs.SpanNumbers.{if_some_map}
use Rattle.upp_limits.proofs.curve_numbers.with_curve.Goals as goal

pub returns-clause-value : goal.returns-clause-value
returns-clause-value c =
    let t = tail_numbers c.args.of.now.tail.now in
    let s = closed_spans c.args.of.now.tail.now c.args.end (spans c.args.of.now.tail.now c.args.of.now.pieces.now) in
    if_some_map c.with_pieces.result _ _
    (λ r f n h. subst (λ k. Gathers r k) (joined_assoc n t s) (f (joined n t) (c.with_tail.ensures n h)))
    c.with_pieces.ensures.value
