use Rattle.std.proofs.Common.{◌≡◌, [], ◌∷◌, ◌++◌, length, map, Ok, rules, subst}
use Rattle.std.proofs.lemmas.Result.{err_from_is_err_and}
use Rattle.toml.specs.View.{view}
use Rattle.net_draft.specs.Faults.{Fails, nth}
use Rattle.net_draft.specs.Tables.{each, piece_at}
use Rattle.net_draft.proofs.Each.{goes_on, stops, is_done}
use Rattle.net_draft.proofs.pieces.each_piece.Goals as goal

pub returns-in_err-piece : goal.returns-in_err-piece
returns-in_err-piece c =
    let p = err_from_is_err_and c.from_residual.result c.from_residual.ensures.1 in
    let here : nth c.args.place.now c.len.result ≡ nth c.args.place.now (length c.loop-entry.pieces.items) = search rules in
    let e = c.in_err-piece.field-0.0 in
    rw (p.1, p.2) (stops (λ before. piece_at) c.args.place.now c.loop-entry.pieces.items c.args.entries.now c.loop-entry.entry-index c.entry-item.result e
    (each (λ before. piece_at) c.args.place.now [] (map view c.args.entries.now)) c.loop-entry-test.true c.entry-item.is
    (subst (λ q. Fails e (piece_at q (view c.entry-item.result))) here c.in_err-piece.ensures) c.loop-entry.invariant)

pub loop-entry-preserved : goal.loop-entry-preserved
loop-entry-preserved c =
    let here : nth c.args.place.now c.len.result ≡ nth c.args.place.now (length c.loop-entry.pieces.items) = search rules in
    let x = c.in_ok-piece.piece in
    let grown : c.push.new.self.items ≡ c.loop-entry.pieces.items ++ x ∷ [] = c.in_ok-push.ensures.items in
    rw grown (goes_on (λ before. piece_at) c.args.place.now c.loop-entry.pieces.items c.args.entries.now c.loop-entry.entry-index c.entry-item.result x
    (each (λ before. piece_at) c.args.place.now [] (map view c.args.entries.now)) c.loop-entry-test.true c.entry-item.is
    (subst (λ q. piece_at q (view c.entry-item.result) ≡ Ok x) here c.in_ok-piece.ensures) c.loop-entry.invariant)

pub returns : goal.returns
returns c =
    is_done (λ before. piece_at) c.args.place.now c.loop-entry.pieces.items c.args.entries.now c.loop-entry.entry-index (each (λ before. piece_at) c.args.place.now [] (map view c.args.entries.now))
    c.loop-entry-test.false c.loop-entry.invariant
