use Rattle.std.proofs.Common.{subst, ap, ◌∙◌}
use Rattle.std.specs.Prelude.{map}
use Rattle.upp_limits.specs.Spans.{spans}
use Rattle.upp_limits.specs.Limits.{joined}
use Rattle.upp_limits.specs.ClosedForm.{tail_numbers, closed_spans}
use Rattle.upp_limits.specs.ClosedOperands.{scaled_span}
use Rattle.upp_limits.specs.Gathered.{Gathers}
use Rattle.upp_limits.proofs.JoinedNumbers.{joined_assoc}
use Rattle.upp_limits.proofs.SpanNumbers.{if_some_map}
use Rattle.upp_limits.proofs.ScaledCurves.{scaled_closed, scaled_spans_known}
use Rattle.upp_limits.proofs.scaled_numbers.with_scaled.Goals as goal

pub returns-in-Some-clause-value : goal.returns-in-Some-clause-value
returns-in-Some-clause-value c =
    let q = c.args.factor in
    let up = c.in-Some.times in
    let t = tail_numbers up in
    let s = closed_spans up c.args.end (map (scaled_span q) (spans up c.args.of.now.pieces.now)) in
    if_some_map c.with_scaled_pieces.result _ _
    (λ r f n h.
    subst (λ k. Gathers r k) (joined_assoc n t s ∙ ap (joined n) (scaled_closed q c.args.end c.args.of.now.pieces.now c.args.of.now.tail.now up c.in-Some.ensures.value))
    (f (joined n t) (c.with_tail.ensures n h)))
    c.with_scaled_pieces.ensures.value

pub returns-in-Some-clause-fits : goal.returns-in-Some-clause-fits
returns-in-Some-clause-fits c = λ k.
    c.with_scaled_pieces.ensures.fits (scaled_spans_known c.args.factor c.args.end c.args.of.now.pieces.now c.args.of.now.tail.now c.in-Some.times c.in-Some.ensures.value k)
