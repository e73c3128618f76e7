use Rattle.std.proofs.Common.{subst, sym}
use Rattle.upp_curve.specs.affine_segment.Fits.{LineFitsAt}
use Rattle.upp_curve.specs.affine_segment.Pieces.{Each}
use Rattle.curve_lang.proofs.Lines.{starts_fit}
use Rattle.curve_lang.proofs.text.add_curve.Goals as goal

pub add_pieces-requires : goal.add_pieces-requires
add_pieces-requires c =
    let f = c.args.c.now in
    subst (Each (λ p. LineFitsAt p.x p.line)) (sym c.pieces.ensures.pieces) (starts_fit f.pieces f.tail c.pieces.ensures.kept.readable)
