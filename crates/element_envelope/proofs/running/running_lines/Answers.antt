use Rattle.std.specs.Prelude.{None, ◌++◌}
use Rattle.std.proofs.Common.{◌+◌, ap, drop, drop_of_length-le, subst, sym}
use Rattle.rational.specs.declared.Extended.TheVariants.{Inf}
use Rattle.upp_curve.proofs.affine_segment.NextPiece.{next_piece}
use Rattle.element_envelope.specs.RunningLines.{line_from, running}
use Rattle.element_envelope.specs.SumWindows.{SumLineAt}
use Rattle.element_envelope.proofs.RunningWindows.{sum_start, reached_stands, passed_stands, running_step, running_end}
use Rattle.element_envelope.proofs.StartTests.{piece_there}
use Rattle.element_envelope.proofs.SumSteps.{line_fits_at}
use Rattle.element_envelope.proofs.running.running_lines.Goals as goal

pub loop-q-init : goal.loop-q-init
loop-q-init c = (ap (λ z. z ++ running c.args.line.now Inf None c.args.pieces.now) c.in_ok-lines.ensures.items, λ z end A L E. (tt, tt))

pub reached-here-requires : goal.reached-here-requires
reached-here-requires c =
    let end = c.requires.0 in
    let R = c.requires.1 in
    let I = c.loop-q.invariant.1 R.sizes end R.limited R.line R.each in (
      end,
      record {
        sizes = R.sizes;
        limited = R.limited;
        line = R.line;
        lowest = I.0;
        ended = I.1;
        piece = piece_there R.sizes end c.args.pieces.now c.loop-q.q-index c.q-item.result c.loop-q-test.true c.q-item.is R.each;
      },
    )

pub passed-past-requires : goal.passed-past-requires
passed-past-requires c =
    let end = c.requires.0 in
    let R = c.requires.1 in
    let l = c.args.line.now in
    let q = c.q-item.result in
    let I = c.loop-q.invariant.1 R.sizes end R.limited R.line R.each in
    let P = piece_there R.sizes end c.args.pieces.now c.loop-q.q-index q c.loop-q-test.true c.q-item.is R.each in (
      end,
      record {
        sizes = R.sizes;
        limited = R.limited;
        line = R.line;
        lowest = subst (λ h. SumLineAt R.sizes (line_from l.slope h)) (sym c.reached-here.ensures) (reached_stands R.sizes end l c.loop-q.low c.loop-q.before q R.limited R.line I.0 I.1 P);
        ended = tt;
        piece = P;
      },
    )

pub running_piece-requires : goal.running_piece-requires
running_piece-requires c =
    let end = c.requires.0 in
    let R = c.requires.1 in
    let l = c.args.line.now in
    let q = c.q-item.result in
    let I = c.loop-q.invariant.1 R.sizes end R.limited R.line R.each in
    let P = piece_there R.sizes end c.args.pieces.now c.loop-q.q-index q c.loop-q-test.true c.q-item.is R.each in
    let here = subst (λ h. SumLineAt R.sizes (line_from l.slope h)) (sym c.reached-here.ensures) (reached_stands R.sizes end l c.loop-q.low c.loop-q.before q R.limited R.line I.0 I.1 P) in
    line_fits_at R.sizes end q.x (line_from l.slope c.reached-here.result) R.limited here (sum_start R.sizes end q P)

pub loop-q-preserved : goal.loop-q-preserved
loop-q-preserved c =
    let l = c.args.line.now in
    let q = c.q-item.result in
    let i = c.loop-q.q-index in
    let all = c.args.pieces.now in
    let here = c.reached-here.result in
    let past = c.passed-past.result in (
      running_step l c.loop-q.low c.loop-q.before q c.running_piece.result (drop i all) (drop (i + 1) all) c.loop-q.lines.items _ (running l Inf None all) here past (next_piece q all i c.loop-q-test.true c.q-item.is)
          c.reached-here.ensures c.passed-past.ensures c.running_piece.ensures c.in_ok-push.ensures.items c.loop-q.invariant.0,
      λ z end A L E.
          let I = c.loop-q.invariant.1 z end A L E in
          let P = piece_there z end all i q c.loop-q-test.true c.q-item.is E in
          let at = subst (λ h. SumLineAt z (line_from l.slope h)) (sym c.reached-here.ensures) (reached_stands z end l c.loop-q.low c.loop-q.before q A L I.0 I.1 P) in
          (subst (λ h. SumLineAt z (line_from l.slope h)) (sym c.passed-past.ensures) (passed_stands z end l here q A L at P), P.line),
    )

pub returns : goal.returns
returns c =
    running_end c.args.line.now c.loop-q.low c.loop-q.before _ c.loop-q.lines.items (running c.args.line.now Inf None c.args.pieces.now) (drop_of_length-le c.args.pieces.now c.loop-q-test.false) c.loop-q.invariant.0
