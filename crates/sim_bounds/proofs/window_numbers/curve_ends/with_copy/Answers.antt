use Rattle.std.proofs.Common.{◌≡◌, ◌<◌, ◌^◌, ◌∙◌, sym, ap, subst}
use Rattle.std.specs.Prelude.{pos}
use Rattle.rational.specs.Rational.{int, ◌+ℚ◌, ◌*ℚ◌, ◌≤ℚ◌, ◌<ℚ◌}
use Rattle.rational.proofs.Compared.{not_less_out}
use Rattle.rational.proofs.Laws.{le_of_lt}
use Rattle.upp_curve.specs.Unrolled.{copies_below}
use Rattle.upp_limits.specs.Spans.{Span}
use Rattle.upp_limits.specs.Limits.{joined, time_alone, slopes_alone, line_slope}
use Rattle.upp_limits.specs.Seen.{seen_of, SeenRises}
use Rattle.upp_limits.specs.ClosedForm.{last_numbers}
use Rattle.upp_limits.specs.Gathered.{Gathers}
use Rattle.upp_limits.proofs.SpanNumbers.{if_some_map}
use Rattle.sim_bounds.specs.window_numbers.CurveEnds.{next_copy}
use Rattle.sim_bounds.proofs.window_numbers.EndSpans.{copy_numbers, copy_there, no_copy}
use Rattle.upp_limits.proofs.SpanNumbers.{cap_exact, cap_many}
use Rattle.sim_bounds.proofs.window_numbers.curve_ends.with_copy.Goals as goal

pub returns-then-copies-clause-fits : goal.returns-then-copies-clause-fits
returns-then-copies-clause-fits c = λ k. absurd (cap_many c.count_before-copies.result (copies_below c.args.period c.args.end c.args.piece.now) c.count_before-copies.ensures c.if-copies.true k.few)

pub is_after-requires-clause-step : goal.is_after-requires-clause-step
is_after-requires-clause-step c = le_of_lt c.requires.period

pub returns-then-is_after-clause-value : goal.returns-then-is_after-clause-value
returns-then-is_after-clause-value c = λ n h.
    let s : Span = record { piece = c.args.piece.now; next = c.args.next.now } in
    let is = cap_exact c.count_before-copies.result (copies_below c.args.period c.args.end c.args.piece.now) c.count_before-copies.ensures c.if-copies.false in
    let far : c.args.end <ℚ next_copy c.args.period c.args.end s =
    subst (λ k. c.args.end <ℚ c.args.piece.now.x +ℚ int (pos k) *ℚ c.args.period) is (c.is_after.ensures.0 c.if-is_after.true) in
    subst (λ k. Gathers c.with_time-started.result (joined n k)) (no_copy c.args.period c.args.rise c.args.end s far) (c.with_time-started.ensures n h)

pub returns-in-Some-clause-value : goal.returns-in-Some-clause-value
returns-in-Some-clause-value c =
    let s : Span = record { piece = c.args.piece.now; next = c.args.next.now } in
    let is = cap_exact c.count_before-copies.result (copies_below c.args.period c.args.end c.args.piece.now) c.count_before-copies.ensures c.if-copies.false in
    let by : next_copy c.args.period c.args.end s ≤ℚ c.args.end =
    subst (λ k. c.args.piece.now.x +ℚ int (pos k) *ℚ c.args.period ≤ℚ c.args.end) is (not_less_out c.is_after.result c.args.end _ c.is_after.ensures c.if-is_after.false) in
    let times : c.in-Some.times ≡ int (pos (copies_below c.args.period c.args.end c.args.piece.now)) = c.in-Some.ensures.value ∙ ap (λ k. int (pos k)) is in
    if_some_map c.with_last.result _ _
    (λ r f n h.
    let t = joined n (time_alone c.args.piece.now.x) in
    let l = joined t (slopes_alone (line_slope c.args.piece.now.line)) in
    let all = subst (λ q. Gathers r (joined l (last_numbers (q *ℚ c.args.rise) s))) times (f l (c.with_line.ensures t (c.with_time-started.ensures n h))) in
    subst (λ k. Gathers r (joined n k)) (copy_there c.args.period c.args.rise c.args.end s by)
    (subst (λ k. Gathers r k) (copy_numbers n c.args.period c.args.rise s (copies_below c.args.period c.args.end c.args.piece.now)) all))
    c.with_last.ensures.value

pub returns-in-Some-clause-fits : goal.returns-in-Some-clause-fits
returns-in-Some-clause-fits c = λ k.
    let s : Span = record { piece = c.args.piece.now; next = c.args.next.now } in
    let is = cap_exact c.count_before-copies.result (copies_below c.args.period c.args.end c.args.piece.now) c.count_before-copies.ensures c.if-copies.false in
    let by : next_copy c.args.period c.args.end s ≤ℚ c.args.end =
    subst (λ k. c.args.piece.now.x +ℚ int (pos k) *ℚ c.args.period ≤ℚ c.args.end) is (not_less_out c.is_after.result c.args.end _ c.is_after.ensures c.if-is_after.false) in
    let times : c.in-Some.times ≡ int (pos (copies_below c.args.period c.args.end c.args.piece.now)) = c.in-Some.ensures.value ∙ ap (λ k. int (pos k)) is in
    c.with_last.ensures.fits (k.span by) (subst (λ q. SeenRises (seen_of s) q c.args.rise) (sym times) (k.rises by))

pub returns-in-None-clause-fits : goal.returns-in-None-clause-fits
returns-in-None-clause-fits c = λ k.
    let is = cap_exact c.count_before-copies.result (copies_below c.args.period c.args.end c.args.piece.now) c.count_before-copies.ensures c.if-copies.false in
    c.in-None.ensures.fits (subst (λ m. m < 2 ^ 127) (sym is) k.few)
