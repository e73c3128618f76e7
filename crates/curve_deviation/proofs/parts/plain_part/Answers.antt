use Rattle.std.proofs.Common.{◌∙◌, ap}
use Rattle.upp_curve.proofs.affine_segment.PieceIn.{read_found}
use Rattle.curve_deviation.proofs.EarlyParts.{fits_found, line_found}
use Rattle.curve_deviation.proofs.parts.plain_part.Goals as goal
use Rattle.curve_call.specs.GapSteps.{earlier_of}

pub piece_value-requires : goal.piece_value-requires
piece_value-requires c = fits_found c.args.pieces.now c.args.t c.piece_at-piece.result c.requires.starts c.requires.fits c.piece_at-piece.ensures

pub returns-clause-at : goal.returns-clause-at
returns-clause-at c = c.piece_value.ensures ∙ read_found c.args.pieces.now c.piece_at-piece.result c.args.t c.requires.starts c.piece_at-piece.ensures

pub returns-clause-line : goal.returns-clause-line
returns-clause-line c = line_found c.args.pieces.now c.args.t c.piece_at-piece.result c.requires.starts c.piece_at-piece.ensures

pub returns-clause-until : goal.returns-clause-until
returns-clause-until c = c.earlier.ensures ∙ ap (earlier_of c.args.end) c.next_start-next.ensures
