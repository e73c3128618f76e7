use Rattle.std.proofs.Common.{◌∙◌, List, sym, subst, ap}
use Rattle.upp_curve.specs.declared.affine_segment.line.Piece.{Piece}
use Rattle.upp_curve.specs.affine_segment.Pieces.{StartsAtZero}
use Rattle.upp_curve.specs.affine_segment.Reading.{read}
use Rattle.upp_curve.specs.affine_segment.Fits.{ReadFits}
use Rattle.flow_watch.proofs.curve_values.KeptValues.{stored_fits, early_value}
use Rattle.flow_watch.proofs.curve_values.values.value_kept.Goals as goal

pub read-requires-clause-starts : goal.read-requires-clause-starts
read-requires-clause-starts c = let C = c.pieces.ensures.kept in subst StartsAtZero (sym c.pieces.ensures.pieces) C.normal.raw.starts

pub read-requires-clause-time : goal.read-requires-clause-time
read-requires-clause-time c = let O = c.requires.operand in O.limited.some

pub read-requires-clause-fits : goal.read-requires-clause-fits
read-requires-clause-fits c = subst (λ (ps : List Piece). ReadFits ps c.args.t) (sym c.pieces.ensures.pieces) (stored_fits c.args.t c.args.c.now c.pieces.ensures.kept c.requires.operand)

pub returns : goal.returns
returns c = c.read.ensures ∙ ap (λ (ps : List Piece). read ps c.args.t) c.pieces.ensures.pieces ∙ early_value c.args.c.now c.args.t c.pieces.ensures.kept c.requires.early
