use Rattle.std.proofs.Common.{pos, subst}
use Rattle.rational.specs.Rational.{int}
use Rattle.upp_curve.specs.declared.curve.Tail.TheVariants.{Affine}
use Rattle.upp_limits.specs.Spans.{spans}
use Rattle.upp_limits.specs.Limits.{joined}
use Rattle.upp_limits.specs.ClosedForm.{tail_numbers, closed_spans}
use Rattle.upp_limits.specs.Gathered.{Gathers}
use Rattle.upp_limits.proofs.JoinedNumbers.{joined_assoc}
use Rattle.upp_limits.proofs.SpanNumbers.{if_some_map}
use Rattle.upp_limits.proofs.curve_numbers.with_first_copies.Goals as goal

pub returns : goal.returns
returns c =
    let t = tail_numbers c.args.of.now.tail.now in
    let ss = spans c.args.of.now.tail.now c.args.of.now.pieces.now in
    let s = closed_spans (Affine (int (pos 0))) c.args.end ss in
    if_some_map c.with_pieces.result _ _
    (λ r f n h.
    subst (λ k. Gathers r k) (joined_assoc n t s)
    (subst (λ z. Gathers r (joined (joined n t) (closed_spans (Affine z) c.args.end ss))) c.zero.ensures (f (joined n t) (c.with_tail.ensures n h))))
    c.with_pieces.ensures.value
