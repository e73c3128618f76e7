use Rattle.std.proofs.Common.{List, ℕ, ◌<◌, length, drop, refl, subst}
use Rattle.upp_curve.specs.declared.affine_segment.line.Piece.{Piece}
use Rattle.flow_watch.specs.Flows.{KeepsAt}
use Rattle.flow_watch.proofs.Buckets.{none_crowded, times_rise}
use Rattle.flow_watch.proofs.flows.early_upto.Goals as goal

pub pieces_upto-requires : goal.pieces_upto-requires
pieces_upto-requires c = times_rise c.args.arrival.now c.args.entries.now c.requires

pub returns : goal.returns
returns c =
    let far = c.in-Some.far in
    let es = c.args.entries.now in
    let upto = c.pieces_upto.result in
    none_crowded c.args.arrival.now es far upto c.requires c.pieces.ensures.kept c.in-Some.ensures (c.if-not-is_early.ensures.0 refl) c.pieces_upto.ensures.in_range
    (subst (λ (ps : List Piece). (k : ℕ) → k < length ps → KeepsAt es far upto (drop k ps)) c.pieces.ensures.pieces c.pieces_upto.ensures.keeps)
