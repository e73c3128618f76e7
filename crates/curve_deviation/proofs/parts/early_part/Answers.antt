use Rattle.std.proofs.Common.{ap, ◌∙◌, subst, sym}
use Rattle.upp_curve.specs.affine_segment.Pieces.{StartsAtZero}
use Rattle.upp_curve.specs.affine_segment.Fits.{ReadFits}
use Rattle.upp_curve.specs.affine_segment.Reading.{read, line_in}
use Rattle.curve_deviation.proofs.EarlyParts.{early_here, kept_goes, kept_stands, as_until}
use Rattle.curve_deviation.proofs.parts.early_part.Goals as goal

pub plain_part-requires-clause-starts : goal.plain_part-requires-clause-starts
plain_part-requires-clause-starts c = subst StartsAtZero (sym c.pieces.ensures.pieces) c.pieces.ensures.kept.normal.raw.starts

pub plain_part-requires-clause-time : goal.plain_part-requires-clause-time
plain_part-requires-clause-time c = let w = c.requires.seen in w.2.nonneg

pub plain_part-requires-clause-fits : goal.plain_part-requires-clause-fits
plain_part-requires-clause-fits c =
    let w = c.requires.seen in
    subst (λ ps. ReadFits ps c.args.t) (sym c.pieces.ensures.pieces) (early_here w.0 c.args.end c.args.c.now c.args.t w.1 w.2).fits

pub returns-clause-goes : goal.returns-clause-goes
returns-clause-goes c =
    let w = c.requires.seen in
    let e = c.pieces.ensures.pieces in
    kept_goes c.args.c.now c.args.t c.args.kept c.args.end c.plain_part.result w.1.curve w.1.finite c.requires.until w.2.nonneg c.requires.before
    (c.plain_part.ensures.at ∙ ap (λ ps. read ps c.args.t) e) (c.plain_part.ensures.line ∙ ap (λ ps. line_in ps c.args.t) e)
    (as_until c.pieces.result.now c.args.c.now.pieces c.args.t c.args.kept c.plain_part.result.until e c.plain_part.ensures.until)

pub returns-clause-stands : goal.returns-clause-stands
returns-clause-stands c = λ z S T.
    let e = c.pieces.ensures.pieces in
    kept_stands z c.args.kept c.args.end c.args.c.now c.args.t c.plain_part.result S c.requires.until T
    (c.plain_part.ensures.at ∙ ap (λ ps. read ps c.args.t) e) (c.plain_part.ensures.line ∙ ap (λ ps. line_in ps c.args.t) e)
    (as_until c.pieces.result.now c.args.c.now.pieces c.args.t c.args.kept c.plain_part.result.until e c.plain_part.ensures.until)
