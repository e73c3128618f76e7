use Rattle.std.proofs.Common.{◌∙◌, ap, length, sym, take}
use Rattle.upp_normal.proofs.NormaliseCuts.{take_upto}
use Rattle.upp_normal.proofs.unrolling.before.Goals as goal

pub slice_bounds-result-end : goal.slice_bounds-result-end
slice_bounds-result-end c =
    let ps = c.args.pieces.now in
    c.count_before.ensures ∙ ap length (sym (take_upto c.args.x ps) ∙ ap (λ k. take k ps) (sym c.count_before.ensures))

pub returns : goal.returns
returns c =
    let ps = c.args.pieces.now in
    ap (λ k. take k ps) c.count_before.ensures ∙ take_upto c.args.x ps
