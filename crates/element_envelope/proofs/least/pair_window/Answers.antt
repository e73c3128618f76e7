use Rattle.std.proofs.Common.{[], ◌∷◌, subst, sym}
use Rattle.element_envelope.specs.EnvelopeWindows.{IsEnvelopeWindow}
use Rattle.element_envelope.proofs.PairWindows.{pair_is, pair_start, pair_room}
use Rattle.element_envelope.proofs.least.pair_window.Goals as goal

pub joined-requires-clause-room : goal.joined-requires-clause-room
joined-requires-clause-room c = pair_room c.args.end c.args.a.now c.args.b.now c.requires

pub joined_window-requires-clause-nonneg : goal.joined_window-requires-clause-nonneg
joined_window-requires-clause-nonneg c = pair_start c.args.end c.args.a.now c.args.b.now c.joined.result c.requires c.joined.ensures.convolved

pub returns : goal.returns
returns c =
    subst (IsEnvelopeWindow c.args.end (c.args.a.now ∷ []) (c.args.b.now ∷ [])) (sym c.early.ensures)
    (pair_is c.args.end c.args.a.now c.args.b.now c.joined.result c.in_ok-pieces.pieces.items c.requires.some c.joined.ensures.convolved c.joined.ensures.parts c.in_ok-pieces.ensures)
