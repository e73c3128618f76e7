use Rattle.std.proofs.Common.{◌∙◌}
use Rattle.upp_curve.proofs.affine_segment.PieceIn.{read_found}
use Rattle.upp_normal.proofs.ahead.plain_stretch.Goals as goal

pub returns-clause-at : goal.returns-clause-at
returns-clause-at c = c.piece_value.ensures ∙ read_found c.args.pieces.now c.piece_at-piece.result c.args.t c.requires.starts c.piece_at-piece.ensures
