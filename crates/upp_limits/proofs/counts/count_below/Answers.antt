use Rattle.std.proofs.Common.{pos, ◌+◌, ◌∙◌, sym, ap, ◌-◌, ◌^◌}
use Rattle.std.specs.Prelude.{min}
use Rattle.rational.specs.Rational.{◌≤ℚ◌, int}
use Rattle.upp_curve.specs.Curve.{SpecCurve}
use Rattle.upp_limits.specs.Spans.{number_below}
use Rattle.upp_limits.proofs.PieceLists.{starts_nonneg, every_at}
use Rattle.upp_limits.proofs.PieceCounts.{count_is_sum}
use Rattle.upp_limits.proofs.CountSums.{sum_next, sum_done}
use Rattle.upp_limits.proofs.counts.count_below.Goals as goal

pub number_below-requires-clause-start : goal.number_below-requires-clause-start
number_below-requires-clause-start c =
    every_at (λ p. int (pos 0) ≤ℚ p.x) c.args.pieces.now c.loop-piece.piece-index c.piece-item.result (starts_nonneg c.args.pieces.now c.requires.starts) c.loop-piece-test.true c.piece-item.is

pub loop-piece-preserved : goal.loop-piece-preserved
loop-piece-preserved c =
    let (s, t, w) = c.loop-piece.invariant in
    let f = number_below c.args.tail.now c.args.end in
    let p = c.piece-item.result in
    let next = sum_next f c.args.pieces.now c.loop-piece.piece-index p c.loop-piece.total c.number_below.result s c.saturating_add-total.result
    c.loop-piece-test.true c.piece-item.is t w c.number_below.ensures c.saturating_add-total.ensures in
    (s + f p, next.0, next.1)

pub returns : goal.returns
returns c =
    let (s, t, w) = c.loop-piece.invariant in
    let k : SpecCurve = record { pieces = c.args.pieces.now; tail = c.args.tail.now } in
    sum_done (number_below c.args.tail.now c.args.end) c.args.pieces.now c.loop-piece.piece-index c.loop-piece.total s c.loop-piece-test.false t w
    ∙ ap (λ n. min n (2 ^ 64 - 1)) (sym (count_is_sum k c.args.end c.requires.starts))
