use Rattle.std.proofs.Common.{subst, sym, ◌+◌, drop}
use Rattle.rational.specs.Rational.{◌≤ℚ◌, int}
use Rattle.std.proofs.Common.{pos}
use Rattle.upp_limits.specs.Spans.{Span, spans}
use Rattle.sim_bounds.specs.window_numbers.CurveEnds.{end_numbers, KnowsEnd}
use Rattle.upp_limits.specs.Limits.{joined}
use Rattle.upp_limits.specs.Gathered.{Gathers}
use Rattle.upp_limits.proofs.PieceLists.{starts_nonneg, every_at, next_span, span_at}
use Rattle.sim_bounds.proofs.window_numbers.EndSpans.{one_more, all_done}
use Rattle.sim_bounds.proofs.window_numbers.curve_ends.with_ends.Goals as goal

pub with_end-requires-clause-start : goal.with_end-requires-clause-start
with_end-requires-clause-start c =
    let h = every_at (λ p. int (pos 0) ≤ℚ p.x) c.args.pieces.now c.loop-i.i c.index-pieces-i.result (starts_nonneg c.args.pieces.now c.requires.starts) c.loop-i-test.true c.index-pieces-i.is in
    subst (λ q. int (pos 0) ≤ℚ q.x) (sym c.piece_read-piece.ensures) h

pub returns-in-None-clause-fits : goal.returns-in-None-clause-fits
returns-in-None-clause-fits c = λ k.
    let s : Span = record { piece = c.piece_read-piece.result; next = c.next_start-next.result } in
    let e = next_span c.args.tail.now c.args.pieces.now c.loop-i.i c.index-pieces-i.result c.piece_read-piece.result c.next_start-next.result c.args.after.now
    c.loop-i-test.true c.index-pieces-i.is c.piece_read-piece.ensures c.requires.after c.next_start-next.ensures in
    c.in-None.ensures.fits (span_at (KnowsEnd c.args.tail.now c.args.end) c.args.tail.now c.args.pieces.now c.loop-i.i s (spans c.args.tail.now (drop (c.loop-i.i + 1) c.args.pieces.now)) k e)

pub loop-i-preserved : goal.loop-i-preserved
loop-i-preserved c = λ n h.
    let s : Span = record { piece = c.piece_read-piece.result; next = c.next_start-next.result } in
    let e = next_span c.args.tail.now c.args.pieces.now c.loop-i.i c.index-pieces-i.result c.piece_read-piece.result c.next_start-next.result c.args.after.now
    c.loop-i-test.true c.index-pieces-i.is c.piece_read-piece.ensures c.requires.after c.next_start-next.ensures in
    let (m, k, w) = c.loop-i.invariant n h in (
      joined m (end_numbers c.args.tail.now c.args.end s),
      c.in-Some.ensures.value m k,
      one_more c.args.tail.now c.args.end m _ (spans c.args.tail.now (drop c.loop-i.i c.args.pieces.now)) (spans c.args.tail.now (drop (c.loop-i.i + 1) c.args.pieces.now)) s e w,
    )

pub returns-clause-value : goal.returns-clause-value
returns-clause-value c = λ n h.
    let (m, k, w) = c.loop-i.invariant n h in
    subst (λ x. Gathers c.loop-i.found x) (all_done c.args.tail.now c.args.end m _ c.args.pieces.now c.loop-i.i c.loop-i-test.false w) k
