use Rattle.std.proofs.Common.{subst, ◌+◌, drop}
use Rattle.upp_limits.specs.Spans.{Span, spans}
use Rattle.upp_limits.specs.Seen.{Knows}
use Rattle.upp_limits.specs.Limits.{joined}
use Rattle.upp_limits.specs.Gathered.{Gathers}
use Rattle.upp_limits.specs.ClosedForm.{closed_span}
use Rattle.upp_limits.proofs.PieceLists.{span_at, one_more, all_done}
use Rattle.upp_limits.proofs.curve_numbers.with_pieces.Goals as goal

pub returns-in-None-clause-fits : goal.returns-in-None-clause-fits
returns-in-None-clause-fits c = λ k.
    let s : Span = record { piece = c.span_at-read.result.0; next = c.span_at-read.result.1 } in
    let e = c.span_at-read.ensures.span in
    c.in-None.ensures.fits (span_at (Knows c.args.counted.now c.args.end) c.args.of.now.tail.now c.args.of.now.pieces.now c.loop-i.i s (spans c.args.of.now.tail.now (drop (c.loop-i.i + 1) c.args.of.now.pieces.now)) k e)

pub loop-i-preserved : goal.loop-i-preserved
loop-i-preserved c = λ n h.
    let s : Span = record { piece = c.span_at-read.result.0; next = c.span_at-read.result.1 } in
    let e = c.span_at-read.ensures.span in
    let (m, k, w) = c.loop-i.invariant n h in (
      joined m (closed_span c.args.counted.now c.args.end s),
      c.in-Some.ensures.value m k,
      one_more c.args.counted.now c.args.end m _ (spans c.args.of.now.tail.now (drop c.loop-i.i c.args.of.now.pieces.now)) (spans c.args.of.now.tail.now (drop (c.loop-i.i + 1) c.args.of.now.pieces.now)) s e w,
    )

pub returns-clause-value : goal.returns-clause-value
returns-clause-value c = λ n h.
    let (m, k, w) = c.loop-i.invariant n h in
    subst (λ x. Gathers c.loop-i.found x) (all_done c.args.counted.now c.args.of.now.tail.now c.args.end m _ c.args.of.now.pieces.now c.loop-i.i c.loop-i-test.false w) k
