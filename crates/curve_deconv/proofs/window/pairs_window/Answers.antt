use Rattle.std.proofs.Common.{◌∙◌, ap₂, sym, subst, List}
use Rattle.rational.proofs.Laws.{le_of_lt}
use Rattle.rational.specs.Extended.{Ext}
use Rattle.upp_curve.specs.declared.affine_segment.line.Piece.{Piece}
use Rattle.curve_deconv.specs.Mirrored.{mirror_pieces, AreMirrorable}
use Rattle.curve_deconv.proofs.Pairs.{mirrors_fit, reach_fits, pairs_room, ok_pairs}
use Rattle.curve_deconv.proofs.window.pairs_window.Goals as goal

pub read-requires-clause-starts : goal.read-requires-clause-starts
read-requires-clause-starts c = c.requires.right.starts

pub read-requires-clause-time : goal.read-requires-clause-time
read-requires-clause-time c = le_of_lt c.requires.some

pub read-requires-clause-fits : goal.read-requires-clause-fits
read-requires-clause-fits c = reach_fits c.args.end c.args.reach c.args.f.now c.args.g.now c.requires

pub mirrored_pieces-requires : goal.mirrored_pieces-requires
mirrored_pieces-requires c =
    let a = c.args in
    subst (AreMirrorable a.reach) (sym c.deref.ensures.value) (mirrors_fit a.end a.reach a.f.now a.g.now c.in_ok-front.front.items c.requires c.in_ok-front.ensures)

pub window_convolution_from-requires : goal.window_convolution_from-requires
window_convolution_from-requires c =
    let a = c.args in
    pairs_room a.end a.reach a.f.now a.g.now c.in_ok-front.front.items c.deref-2.result.now c.deref-3.result.now c.requires c.in_ok-front.ensures
    (c.deref-2.ensures.value ∙ c.in_ok-turned.ensures)
    (c.deref-3.ensures.value ∙ c.in_ok-mirrored.ensures ∙ ap₂ (λ (v : Ext) (ps : List Piece). mirror_pieces a.reach v ps) c.read.ensures c.deref.ensures.value)

pub returns : goal.returns
returns c =
    let a = c.args in
    ok_pairs c.window_convolution_from.result a.end a.reach a.f.now a.g.now c.in_ok-front.front.items c.deref-2.result.now c.deref-3.result.now c.requires c.in_ok-front.ensures
    (c.deref-2.ensures.value ∙ c.in_ok-turned.ensures)
    (c.deref-3.ensures.value ∙ c.in_ok-mirrored.ensures ∙ ap₂ (λ (v : Ext) (ps : List Piece). mirror_pieces a.reach v ps) c.read.ensures c.deref.ensures.value)
    c.window_convolution_from.ensures
