use Rattle.std.proofs.Common.{subst, ◌+◌, drop}
use Rattle.upp_limits.specs.Spans.{Span, spans}
use Rattle.upp_limits.specs.Limits.{joined}
use Rattle.upp_limits.specs.Gathered.{Gathers}
use Rattle.upp_limits.specs.ClosedForm.{closed_span}
use Rattle.upp_limits.specs.ClosedOperands.{scaled_span, KnowsTimes}
use Rattle.upp_limits.proofs.PieceLists.{span_at}
use Rattle.upp_limits.proofs.ScaledCurves.{scaled_more, scaled_done}
use Rattle.upp_limits.proofs.scaled_numbers.with_scaled_pieces.Goals as goal

pub returns-in-None-clause-fits : goal.returns-in-None-clause-fits
returns-in-None-clause-fits c = λ k.
    let s : Span = record { piece = c.span_at-read.result.0; next = c.span_at-read.result.1 } in
    let e = c.span_at-read.ensures.span in
    c.in-None.ensures.fits (span_at (KnowsTimes c.args.factor c.args.of.now.tail.now c.args.end) c.args.of.now.tail.now c.args.of.now.pieces.now c.loop-i.i s (spans c.args.of.now.tail.now (drop (c.loop-i.i + 1) c.args.of.now.pieces.now)) k e)

pub loop-i-preserved : goal.loop-i-preserved
loop-i-preserved c = λ n h.
    let s : Span = record { piece = c.span_at-read.result.0; next = c.span_at-read.result.1 } in
    let e = c.span_at-read.ensures.span in
    let (m, k, w) = c.loop-i.invariant n h in (
      joined m (closed_span c.args.of.now.tail.now c.args.end (scaled_span c.args.factor s)),
      c.in-Some.ensures.value m k,
      scaled_more c.args.factor c.args.of.now.tail.now c.args.end m _ (spans c.args.of.now.tail.now (drop c.loop-i.i c.args.of.now.pieces.now)) (spans c.args.of.now.tail.now (drop (c.loop-i.i + 1) c.args.of.now.pieces.now)) s e w,
    )

pub returns-clause-value : goal.returns-clause-value
returns-clause-value c = λ n h.
    let (m, k, w) = c.loop-i.invariant n h in
    subst (λ x. Gathers c.loop-i.found x) (scaled_done c.args.factor c.args.of.now.tail.now c.args.end m _ c.args.of.now.pieces.now c.loop-i.i c.loop-i-test.false w) k
