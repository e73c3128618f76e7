use Rattle.std.proofs.Common.{◌∙◌, sym, subst, true≢false}
use Rattle.upp_limits.specs.Spans.{Span}
use Rattle.upp_limits.specs.Limits.{joined}
use Rattle.upp_limits.specs.Gathered.{Gathers}
use Rattle.upp_limits.proofs.SpanNumbers.{if_some_map}
use Rattle.sim_bounds.proofs.window_numbers.EndSpans.{itself_numbers, no_itself}
use Rattle.sim_bounds.proofs.window_numbers.curve_ends.with_itself.Goals as goal

pub returns-then-eq-clause-value : goal.returns-then-eq-clause-value
returns-then-eq-clause-value c =
    let s : Span = record { piece = c.args.piece.now; next = c.args.next.now } in
    if_some_map c.with_span.result _ _
    (λ r f n h. subst (λ k. Gathers r (joined n k)) (itself_numbers c.args.end s (c.eq.ensures.same.0 c.if-eq.true)) (f n h))
    c.with_span.ensures.value

pub returns-else-eq-clause-value : goal.returns-else-eq-clause-value
returns-else-eq-clause-value c = λ n h.
    let s : Span = record { piece = c.args.piece.now; next = c.args.next.now } in
    subst (λ k. Gathers c.with_time.result (joined n k)) (no_itself c.args.end s (λ e. true≢false (sym (c.eq.ensures.same.1 e) ∙ c.if-eq.false))) (c.with_time.ensures n h)
