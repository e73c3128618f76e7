use Rattle.std.proofs.Common.{ap, sym, subst, ◌∙◌}
use Rattle.std.specs.Prelude.{Option}
use Rattle.upp_curve.specs.declared.affine_segment.line.Line.{Line}
use Rattle.upp_curve.specs.Steady.{slope_times}
use Rattle.upp_curve.proofs.PieceLoops.{last_is}
use Rattle.curve_call.specs.Rises.{SlopeTimesFits}
use Rattle.curve_call.proofs.rises.last_rise.Goals as goal

pub product-requires : goal.product-requires
product-requires c =
    subst (λ (l : Option Line). SlopeTimesFits l c.args.d) (last_is c.args.pieces.now c.in-Some.piece.now (sym c.in-Some.ensures.value) ∙ c.in-Some-line.is) c.requires

pub returns-in-None-line : goal.returns-in-None-line
returns-in-None-line c =
    c.zero-in-None-line.ensures ∙ sym (ap (λ (l : Option Line). slope_times l c.args.d) (last_is c.args.pieces.now c.in-Some.piece.now (sym c.in-Some.ensures.value) ∙ c.in-None-line.is))

pub returns-in-Some-line : goal.returns-in-Some-line
returns-in-Some-line c =
    c.product.ensures ∙ sym (ap (λ (l : Option Line). slope_times l c.args.d) (last_is c.args.pieces.now c.in-Some.piece.now (sym c.in-Some.ensures.value) ∙ c.in-Some-line.is))
