use Rattle.std.proofs.Common.{subst, sym, ◌∙◌}
use Rattle.upp_curve.specs.Steady.{Repeats}
use Rattle.upp_curve.specs.affine_segment.Reading.{read}
use Rattle.upp_curve.specs.Curve.{repeated}
use Rattle.upp_normal.specs.Normalising.{IsShape, OnGridsUnlessLine}
use Rattle.upp_curve.proofs.Repeats.{repeated_rule}
use Rattle.upp_normal.proofs.NormaliseForm.{turning_grids}
use Rattle.upp_normal.proofs.NormaliseWhole.{two_end, two_until, two_room, turn_room, pieces_readable}
use Rattle.upp_normal.proofs.raw_curve.of_two_periods.Goals as goal

pub shape_of-requires-clause-end : goal.shape_of-requires-clause-end
shape_of-requires-clause-end c =
    let a = c.args in
    two_end c.requires.room.0 a.times a.values a.pieces.items a.rank a.period a.rise c.requires.room.1 c.requires.two.some

pub shape_of-requires-clause-until : goal.shape_of-requires-clause-until
shape_of-requires-clause-until c =
    let a = c.args in
    two_until c.requires.room.0 a.times a.values a.pieces.items a.rank a.period a.rise c.requires.room.1 c.requires.two.some

pub unending-requires-clause-fits : goal.unending-requires-clause-fits
unending-requires-clause-fits c =
    let a = c.args in
    let kept = c.in-Straight.kept.items in
    let S = subst (IsShape a.pieces.items a.rank a.period a.rise) c.in-Straight.is c.shape_of.ensures in
    pieces_readable c.requires.room.0 kept (two_room c.requires.room.0 a.times a.values a.pieces.items kept a.rank a.period a.rise c.requires.room.1 c.requires.two S.0)

pub repeating-requires-clause-grids : goal.repeating-requires-clause-grids
repeating-requires-clause-grids c =
    let a = c.args in
    let ps = a.pieces.items in
    let S = subst (IsShape ps a.rank a.period a.rise) c.in-Turns.is c.shape_of.ensures in
    let k = c.in-Turns.cycle in
    let f = repeated (read ps) a.rank a.period a.rise in
    let rule = subst (λ d. Repeats f a.rank d k.rise) (sym S.3) (subst (λ u. Repeats f a.rank a.period u) (sym S.4) (repeated_rule (read ps) a.rank a.period a.rise c.requires.two.some)) in
    let grids = subst (λ d. OnGridsUnlessLine a.times a.values f a.rank d k.rise) (sym S.3) (subst (λ u. OnGridsUnlessLine a.times a.values f a.rank a.period u) (sym S.4) c.requires.grids) in
    turning_grids a.times a.values f a.rank k.pieces.items k.first k.rank k.period k.rise rule S.1 grids S.5

pub repeating-requires-clause-room : goal.repeating-requires-clause-room
repeating-requires-clause-room c =
    let a = c.args in
    let ps = a.pieces.items in
    let S = subst (IsShape ps a.rank a.period a.rise) c.in-Turns.is c.shape_of.ensures in
    let k = c.in-Turns.cycle in
    (c.requires.room.0, turn_room c.requires.room.0 a.times a.values ps k.pieces.items a.rank k.rank a.period k.period a.rise k.rise c.requires.room.1 S.0 S.2 S.3 S.4)

pub returns-in-Turns : goal.returns-in-Turns
returns-in-Turns c =
    let a = c.args in
    let S = subst (IsShape a.pieces.items a.rank a.period a.rise) c.in-Turns.is c.shape_of.ensures in
    λ t h. c.repeating.ensures t h ∙ S.5.same t h
