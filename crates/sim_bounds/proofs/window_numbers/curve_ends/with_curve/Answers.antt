use Rattle.std.proofs.Common.{subst}
use Rattle.upp_limits.specs.Spans.{spans}
use Rattle.upp_limits.specs.Limits.{joined, curve_numbers}
use Rattle.upp_limits.specs.ClosedForm.{closed_numbers}
use Rattle.upp_limits.specs.Gathered.{Gathers}
use Rattle.upp_limits.proofs.JoinedNumbers.{joined_assoc}
use Rattle.upp_limits.proofs.Operands.{held_left, curve_period}
use Rattle.upp_limits.proofs.SameSizes.{equals_self, equals_joined, equals_curve}
use Rattle.upp_limits.proofs.SpanNumbers.{if_some_map}
use Rattle.sim_bounds.specs.window_numbers.CurveEnds.{all_end_numbers}
use Rattle.sim_bounds.proofs.window_numbers.EndSpans.{numbers_to_end}
use Rattle.sim_bounds.proofs.window_numbers.KnownEnds.{ends_known}
use Rattle.sim_bounds.proofs.window_numbers.SameGathered.{gathers_equal}
use Rattle.sim_bounds.proofs.window_numbers.curve_ends.with_curve.Goals as goal

pub returns-in-Some-clause-value : goal.returns-in-Some-clause-value
returns-in-Some-clause-value c =
    let e = c.args.end in
    let f = c.args.c.now in
    let ends = all_end_numbers f.tail e (spans f.tail f.pieces) in
    let period = curve_period f c.pieces.ensures.kept in
    if_some_map c.with_ends.result _ _
    (λ r w n h.
    let all = rw (c.pieces.ensures.pieces, c.tail.ensures.tail) at (w (joined n (closed_numbers e f)) (c.in-Some.ensures.value n h)) in
    let same = gathers_equal r _ _ (equals_joined _ _ ends ends (equals_joined n n _ _ (equals_self n) (equals_curve e f)) (equals_self ends)) all in
    subst (λ k. Gathers r (joined n k)) (numbers_to_end e f period) (subst (Gathers r) (joined_assoc n (curve_numbers e f) ends) same))
    c.with_ends.ensures.value

pub returns-in-Some-clause-fits : goal.returns-in-Some-clause-fits
returns-in-Some-clause-fits c = λ z h.
    c.with_ends.ensures.fits (rw (c.pieces.ensures.pieces, c.tail.ensures.tail) (ends_known z c.args.end c.args.c.now c.pieces.ensures.kept h))

pub returns-in-None-clause-fits : goal.returns-in-None-clause-fits
returns-in-None-clause-fits c = λ z h. c.in-None.ensures.fits z (held_left z c.args.end (curve_numbers c.args.end c.args.c.now) _ h)
