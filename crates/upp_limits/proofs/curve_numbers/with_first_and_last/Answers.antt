use Rattle.std.proofs.Common.{subst}
use Rattle.rational.specs.Rational.{◌*ℚ◌}
use Rattle.upp_limits.specs.Spans.{Span}
use Rattle.upp_limits.specs.Limits.{joined}
use Rattle.upp_limits.specs.ClosedForm.{span_numbers, last_numbers}
use Rattle.upp_limits.specs.Gathered.{Gathers}
use Rattle.upp_limits.proofs.JoinedNumbers.{joined_assoc}
use Rattle.upp_limits.proofs.SpanNumbers.{if_some_map}
use Rattle.upp_limits.proofs.curve_numbers.with_first_and_last.Goals as goal

pub returns-in-Some-clause-value : goal.returns-in-Some-clause-value
returns-in-Some-clause-value c =
    let s : Span = record { piece = c.args.piece.now; next = c.args.next.now } in
    let a = span_numbers s in
    if_some_map c.with_last.result _ _
    (λ r f n h.
    subst (λ k. Gathers r (joined n (joined a (last_numbers (k *ℚ c.args.rise) s)))) c.in_ok-n.ensures.value
    (subst (λ k. Gathers r k) (joined_assoc n a (last_numbers (c.in_ok-n.n *ℚ c.args.rise) s)) (f (joined n a) (c.in-Some.ensures.value n h))))
    c.with_last.ensures.value
