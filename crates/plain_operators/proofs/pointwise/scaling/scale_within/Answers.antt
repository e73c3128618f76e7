use Rattle.std.proofs.Common.{◌∙◌, sym, ap, subst}
use Rattle.std.specs.Prelude.{List, map}
use Rattle.upp_curve.specs.declared.affine_segment.line.Piece.{Piece}
use Rattle.upp_limits.specs.declared.op_kind.OpKind.TheVariants.{Scale}
use Rattle.upp_curve.specs.declared.curve.Tail.{Tail}
use Rattle.upp_curve.specs.affine_segment.Pieces.{Each}
use Rattle.upp_limits.specs.Gauges.{scaled_piece, scaled_tail}
use Rattle.upp_limits.specs.ClosedOperands.{PieceScales, TailScales}
use Rattle.upp_normal.proofs.NormaliseForm.{ok_map}
use Rattle.curve_call.specs.Frames.{sizes_at}
use Rattle.plain_operators.proofs.pointwise.ScaleCall.{IsMade, scale_call, pieces_scale, made_raw, made_found, made_values}
use Rattle.plain_operators.proofs.pointwise.scaling.scale_within.Goals.{After-fitting_tail-tail}
use Rattle.plain_operators.proofs.pointwise.scaling.scale_within.Goals as goal

pub fitting_pieces-requires : goal.fitting_pieces-requires
fitting_pieces-requires c =
    let f = c.args.f.now in
    let q = c.args.factor in
    let r = c.args.frame.now in
    subst (λ (ps : List Piece). Each (PieceScales q) ps) (sym c.pieces.ensures.pieces) (pieces_scale q f r (sizes_at (Scale q) f f 0 0) (scale_call q f r c.requires))

pub fitting_tail-tail-requires : goal.fitting_tail-tail-requires
fitting_tail-tail-requires c =
    let f = c.args.f.now in
    let q = c.args.factor in
    let r = c.args.frame.now in
    subst (λ (t : Tail). TailScales q t) (sym c.tail.ensures.tail) (scale_call q f r c.requires).scales.tail

made : (c : After-fitting_tail-tail) → IsMade c.args.factor c.args.f.now c.in_ok-pieces.pieces.items c.fitting_tail-tail.result
made c = record {
  pieces = c.in_ok-pieces.ensures ∙ ap (λ (ps : List Piece). map (scaled_piece c.args.factor) ps) c.pieces.ensures.pieces;
  tail = c.fitting_tail-tail.ensures ∙ ap (λ (t : Tail). scaled_tail c.args.factor t) c.tail.ensures.tail;
}

pub normalise_on-requires : goal.normalise_on-requires
normalise_on-requires c =
    let f = c.args.f.now in
    let q = c.args.factor in
    let r = c.args.frame.now in
    let z = sizes_at (Scale q) f f 0 0 in
    let call = scale_call q f r c.requires in
    let is = made (goal.at.normalise_on-requires c).After-fitting_tail-tail in
    let found = made_found q f r z _ _ call is in
    record {
      raw = made_raw q f r z _ _ call is;
      some_times = found.some_times;
      some_values = found.some_values;
      times = found.times_fit;
      values = found.values_fit;
      grids = found.grids;
      room = found.room;
    }

pub returns : goal.returns
returns c =
    let is = made (goal.at.returns c).After-fitting_tail-tail in
    ok_map c.normalise_on.result _ _ (λ a h. made_values c.args.factor c.args.f.now _ _ a is h) c.normalise_on.ensures
