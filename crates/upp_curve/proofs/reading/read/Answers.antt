use Rattle.std.proofs.Common.{◌≡◌, subst, IfOk}
use Rattle.upp_curve.specs.Steps.{IsWideLine, IsWideRead}
use Rattle.upp_curve.proofs.affine_segment.PieceIn.{read_found}
use Rattle.upp_curve.proofs.Refusals.{wide_found, err_map}
use Rattle.upp_curve.proofs.reading.read.Goals as goal

pub returns-clause-value : goal.returns-clause-value
returns-clause-value c =
    subst (λ z. IfOk c.piece_value.result (λ v. v ≡ z)) (read_found c.args.pieces.now c.piece_at.result c.args.t c.requires.starts c.piece_at.ensures) c.piece_value.ensures.value

pub returns-clause-wide : goal.returns-clause-wide
returns-clause-wide c =
    err_map c.piece_value.result (IsWideLine c.piece_at.result.line c.args.t) (IsWideRead c.args.pieces.now c.args.t)
    (λ w. wide_found c.args.pieces.now c.piece_at.result c.args.t w c.requires.starts c.piece_at.ensures) c.piece_value.ensures.wide
