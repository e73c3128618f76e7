use Rattle.std.proofs.Common.{ap, sym, subst, refl, ◌∙◌}
use Rattle.upp_curve.specs.declared.curve.Tail.TheVariants.{Periodic, Affine, Infinite}
use Rattle.upp_curve.specs.affine_segment.Reading.{read}
use Rattle.upp_curve.specs.Curve.{repeated, value_at, HasSameValues}
use Rattle.upp_curve.specs.affine_segment.Pieces.{StartsAtZero}
use Rattle.upp_curve.specs.Normal.{TailFits}
use Rattle.upp_normal.specs.Normalising.{raw_curve, HasValues, TailOnGrids}
use Rattle.upp_normal.specs.Room.{PiecesHaveRoom, TailHasRoom}
use Rattle.upp_curve.proofs.ByTail.{value_of}
use Rattle.upp_normal.proofs.NormaliseForm.{ok_map, grids_through, ended_starts, ended_reads}
use Rattle.upp_normal.proofs.NormaliseWhole.{more_room, ended_room, end_read}
use Rattle.upp_normal.proofs.raw_curve.normalise_on.Goals as goal

pub of_pieces-requires-clause-room : goal.of_pieces-requires-clause-room
of_pieces-requires-clause-room c =
    let raw = c.args.raw in
    let R = subst (TailHasRoom c.args.times c.args.values raw.pieces.items) c.in-Affine.is c.requires.room in
    (R.0, more_room R.0 raw.pieces.items R.1)

pub ended-requires-clause-read : goal.ended-requires-clause-read
ended-requires-clause-read c =
    let raw = c.args.raw in
    let R = subst (TailHasRoom c.args.times c.args.values raw.pieces.items) c.in-Infinite.is c.requires.room in
    end_read R.0 raw.pieces.items raw.pieces.items c.in-Infinite.rank refl R.1

pub of_pieces-requires-in-Infinite-clause-starts : goal.of_pieces-requires-in-Infinite-clause-starts
of_pieces-requires-in-Infinite-clause-starts c =
    let raw = c.args.raw in
    let rank = c.in-Infinite.rank in
    let F = subst (TailFits raw.pieces.items) c.in-Infinite.is c.requires.raw.tail in
    subst StartsAtZero (sym c.in_ok-kept-in-Infinite.ensures) (ended_starts raw.pieces.items rank c.requires.raw.starts F.nonneg)

pub of_pieces-requires-in-Infinite-clause-room : goal.of_pieces-requires-in-Infinite-clause-room
of_pieces-requires-in-Infinite-clause-room c =
    let raw = c.args.raw in
    let rank = c.in-Infinite.rank in
    let F = subst (TailFits raw.pieces.items) c.in-Infinite.is c.requires.raw.tail in
    let R = subst (TailHasRoom c.args.times c.args.values raw.pieces.items) c.in-Infinite.is c.requires.room in
    (R.0, subst (PiecesHaveRoom R.0 4) (sym c.in_ok-kept-in-Infinite.ensures) (ended_room R.0 raw.pieces.items rank R.1 c.requires.raw.starts F.nonneg))

pub of_periodic-requires-clause-numbers : goal.of_periodic-requires-clause-numbers
of_periodic-requires-clause-numbers c =
    let h = c.requires in
    record { some_times = h.some_times; some_values = h.some_values; small_times = h.times; small_values = h.values }

pub of_periodic-requires-clause-grids : goal.of_periodic-requires-clause-grids
of_periodic-requires-clause-grids c =
    let raw = c.args.raw in
    let p = c.in-Periodic in
    grids_through c.args.times c.args.values (repeated (read raw.pieces.items) p.rank p.period p.rise) (value_at (raw_curve raw)) p.rank p.period p.rise
    (λ t. value_of (raw_curve raw) raw.pieces.items raw.tail (Periodic p.rank p.period p.rise) t refl p.is)
    (subst (λ k. TailOnGrids c.args.times c.args.values k (value_at (raw_curve raw))) p.is c.requires.grids)

pub of_periodic-requires-clause-room : goal.of_periodic-requires-clause-room
of_periodic-requires-clause-room c = subst (TailHasRoom c.args.times c.args.values c.args.raw.pieces.items) c.in-Periodic.is c.requires.room

pub returns-in-Affine : goal.returns-in-Affine
returns-in-Affine c =
    let raw = c.args.raw in
    λ t h. c.of_pieces.ensures t h ∙ value_of (raw_curve raw) raw.pieces.items raw.tail (Affine c.in-Affine.rank) t refl c.in-Affine.is

pub returns-in_ok-kept-in-Infinite : goal.returns-in_ok-kept-in-Infinite
returns-in_ok-kept-in-Infinite c =
    let raw = c.args.raw in
    let rank = c.in-Infinite.rank in
    λ t h.
    c.of_pieces-in-Infinite.ensures t h
    ∙ ap (λ ps. read ps t) c.in_ok-kept-in-Infinite.ensures
    ∙ ended_reads raw.pieces.items rank t c.requires.raw.starts h
    ∙ value_of (raw_curve raw) raw.pieces.items raw.tail (Infinite rank) t refl c.in-Infinite.is

pub returns-in-Periodic : goal.returns-in-Periodic
returns-in-Periodic c =
    let raw = c.args.raw in
    let p = c.in-Periodic in
    let f = repeated (read raw.pieces.items) p.rank p.period p.rise in
    ok_map c.of_periodic.result (λ r. HasValues r f) (λ r. HasSameValues r (raw_curve raw))
    (λ r F t h. F t h ∙ value_of (raw_curve raw) raw.pieces.items raw.tail (Periodic p.rank p.period p.rise) t refl p.is) c.of_periodic.ensures
