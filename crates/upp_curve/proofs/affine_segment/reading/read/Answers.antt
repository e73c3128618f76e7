use Rattle.std.proofs.Common.{◌∙◌}
use Rattle.upp_curve.proofs.affine_segment.PieceIn.{read_found}
use Rattle.upp_curve.proofs.affine_segment.reading.read.Goals as goal

pub returns : goal.returns
returns c = c.piece_value.ensures ∙ read_found c.args.pieces.now c.piece_at.result c.args.t c.requires.starts c.piece_at.ensures
