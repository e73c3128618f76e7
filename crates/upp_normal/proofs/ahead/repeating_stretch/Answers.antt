use Rattle.std.proofs.Common.{Some, subst, sym, ap, ◌∙◌}
use Rattle.rational.specs.Rational.{◌+ℚ◌}
use Rattle.rational.specs.Grid.{Whole}
use Rattle.upp_curve.specs.affine_segment.Fits.{LineFitsAt}
use Rattle.upp_normal.specs.Ahead.{AtNext}
use Rattle.upp_curve.specs.affine_segment.Reading.{next_in}
use Rattle.upp_normal.proofs.StretchValues.{repeated_here, repeated_goes, repeated_sizes, early_low}
use Rattle.upp_normal.proofs.ahead.repeating_stretch.Goals as goal

pub piece_at-piece-requires-clause-time : goal.piece_at-piece-requires-clause-time
piece_at-piece-requires-clause-time c =
    let w = c.requires.window in
    early_low c.args.c.now c.args.rank c.args.period c.args.rise c.args.t c.turn_of-n.result c.requires.curve c.requires.tail w.3.nonneg c.turn_of-n.ensures

pub line_risen-line-requires : goal.line_risen-line-requires
line_risen-line-requires c =
    let w = c.requires.window in
    let same = ap (λ qs. next_in qs c.turn_of-n.result.early (Some (c.args.rank +ℚ c.args.period))) c.pieces-pieces.ensures.pieces in
    let found = repeated_here w.0 w.1 c.args.c.now c.args.rank c.args.period c.args.rise c.args.t c.turn_of-n.result c.piece_at-piece.result c.next_start-next.result c.requires.curve w.2 w.3 c.requires.tail c.turn_of-n.ensures
    (λ p ps f. c.piece_at-piece.ensures p ps (c.pieces-pieces.ensures.pieces ∙ f))
    (c.next_start-next.ensures ∙ ap (λ x. next_in c.pieces-pieces.result.now c.turn_of-n.result.early (Some x)) c.sum-end.ensures ∙ same) in
    found.steps.line

pub copied_value-at-requires-clause-rises : goal.copied_value-at-requires-clause-rises
copied_value-at-requires-clause-rises c =
    let w = c.requires.window in
    let same = ap (λ qs. next_in qs c.turn_of-n.result.early (Some (c.args.rank +ℚ c.args.period))) c.pieces-pieces.ensures.pieces in
    let found = repeated_here w.0 w.1 c.args.c.now c.args.rank c.args.period c.args.rise c.args.t c.turn_of-n.result c.piece_at-piece.result c.next_start-next.result c.requires.curve w.2 w.3 c.requires.tail c.turn_of-n.ensures
    (λ p ps f. c.piece_at-piece.ensures p ps (c.pieces-pieces.ensures.pieces ∙ f))
    (c.next_start-next.ensures ∙ ap (λ x. next_in c.pieces-pieces.result.now c.turn_of-n.result.early (Some x)) c.sum-end.ensures ∙ same) in
    found.steps.rises

pub copied_value-at-requires-clause-fits : goal.copied_value-at-requires-clause-fits
copied_value-at-requires-clause-fits c =
    let w = c.requires.window in
    let same = ap (λ qs. next_in qs c.turn_of-n.result.early (Some (c.args.rank +ℚ c.args.period))) c.pieces-pieces.ensures.pieces in
    let found = repeated_here w.0 w.1 c.args.c.now c.args.rank c.args.period c.args.rise c.args.t c.turn_of-n.result c.piece_at-piece.result c.next_start-next.result c.requires.curve w.2 w.3 c.requires.tail c.turn_of-n.ensures
    (λ p ps f. c.piece_at-piece.ensures p ps (c.pieces-pieces.ensures.pieces ∙ f))
    (c.next_start-next.ensures ∙ ap (λ x. next_in c.pieces-pieces.result.now c.turn_of-n.result.early (Some x)) c.sum-end.ensures ∙ same) in
    subst (λ l. LineFitsAt c.args.t l) (sym c.line_risen-line.ensures) found.steps.fits

pub moved-requires : goal.moved-requires
moved-requires c =
    let w = c.requires.window in
    let same = ap (λ qs. next_in qs c.turn_of-n.result.early (Some (c.args.rank +ℚ c.args.period))) c.pieces-pieces.ensures.pieces in
    let found = repeated_here w.0 w.1 c.args.c.now c.args.rank c.args.period c.args.rise c.args.t c.turn_of-n.result c.piece_at-piece.result c.next_start-next.result c.requires.curve w.2 w.3 c.requires.tail c.turn_of-n.ensures
    (λ p ps f. c.piece_at-piece.ensures p ps (c.pieces-pieces.ensures.pieces ∙ f))
    (c.next_start-next.ensures ∙ ap (λ x. next_in c.pieces-pieces.result.now c.turn_of-n.result.early (Some x)) c.sum-end.ensures ∙ same) in
    found.moves

pub returns-clause-goes : goal.returns-clause-goes
returns-clause-goes c =
    let w = c.requires.window in
    let same = ap (λ qs. next_in qs c.turn_of-n.result.early (Some (c.args.rank +ℚ c.args.period))) c.pieces-pieces.ensures.pieces in
    let found = repeated_here w.0 w.1 c.args.c.now c.args.rank c.args.period c.args.rise c.args.t c.turn_of-n.result c.piece_at-piece.result c.next_start-next.result c.requires.curve w.2 w.3 c.requires.tail c.turn_of-n.ensures
    (λ p ps f. c.piece_at-piece.ensures p ps (c.pieces-pieces.ensures.pieces ∙ f))
    (c.next_start-next.ensures ∙ ap (λ x. next_in c.pieces-pieces.result.now c.turn_of-n.result.early (Some x)) c.sum-end.ensures ∙ same) in
    repeated_goes w.0 w.1 c.args.c.now c.args.rank c.args.period c.args.rise c.args.t c.turn_of-n.result c.piece_at-piece.result c.next_start-next.result c.copied_value-at.result c.line_risen-line.result c.moved.result found
    c.line_risen-line.ensures c.moved.ensures c.copied_value-at.ensures.past c.copied_value-at.ensures.start

pub returns-clause-times : goal.returns-clause-times
returns-clause-times c = λ d S.
    let w = c.requires.window in
    let same = ap (λ qs. next_in qs c.turn_of-n.result.early (Some (c.args.rank +ℚ c.args.period))) c.pieces-pieces.ensures.pieces in
    let found = repeated_here w.0 w.1 c.args.c.now c.args.rank c.args.period c.args.rise c.args.t c.turn_of-n.result c.piece_at-piece.result c.next_start-next.result c.requires.curve w.2 w.3 c.requires.tail c.turn_of-n.ensures
    (λ p ps f. c.piece_at-piece.ensures p ps (c.pieces-pieces.ensures.pieces ∙ f))
    (c.next_start-next.ensures ∙ ap (λ x. next_in c.pieces-pieces.result.now c.turn_of-n.result.early (Some x)) c.sum-end.ensures ∙ same) in
    subst (AtNext (Whole d)) (sym c.moved.ensures) (found.times d S)

pub returns-clause-sizes : goal.returns-clause-sizes
returns-clause-sizes c = λ z end window time.
    let same = ap (λ qs. next_in qs c.turn_of-n.result.early (Some (c.args.rank +ℚ c.args.period))) c.pieces-pieces.ensures.pieces in
    let found = repeated_here z end c.args.c.now c.args.rank c.args.period c.args.rise c.args.t c.turn_of-n.result c.piece_at-piece.result c.next_start-next.result c.requires.curve window time c.requires.tail c.turn_of-n.ensures
    (λ p ps f. c.piece_at-piece.ensures p ps (c.pieces-pieces.ensures.pieces ∙ f))
    (c.next_start-next.ensures ∙ ap (λ x. next_in c.pieces-pieces.result.now c.turn_of-n.result.early (Some x)) c.sum-end.ensures ∙ same) in
    repeated_sizes z end c.args.c.now c.args.rank c.args.period c.args.rise c.args.t c.turn_of-n.result c.piece_at-piece.result c.next_start-next.result c.copied_value-at.result c.line_risen-line.result found
    c.line_risen-line.ensures c.copied_value-at.ensures.past c.copied_value-at.ensures.start
