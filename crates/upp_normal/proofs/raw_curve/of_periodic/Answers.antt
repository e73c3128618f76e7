use Rattle.std.proofs.Common.{arith, ◌∙◌, ◌≡◌, List, ◌∷◌}
use Rattle.upp_curve.specs.declared.affine_segment.line.Piece.{Piece}
use Rattle.upp_curve.specs.affine_segment.Reading.{read}
use Rattle.upp_curve.specs.Curve.{repeated}
use Rattle.upp_normal.proofs.NormaliseForm.{merged_list, grids_through, two_periods_list, two_periods_start}
use Rattle.upp_normal.proofs.NormaliseRoomy.{lines_fit}
use Rattle.upp_normal.proofs.NormaliseWhole.{rank_read, copy_of, copies_of, longer_room, both_room}
use Rattle.upp_normal.proofs.raw_curve.of_periodic.Goals as goal

pub two_periods-requires-clause-read : goal.two_periods-requires-clause-read
two_periods-requires-clause-read c =
    let a = c.args in
    rank_read c.requires.room.0 a.times a.values a.given.items a.rank a.period a.rise c.requires.room.1 c.requires.tail.some

pub two_periods-requires-clause-cut : goal.two_periods-requires-clause-cut
two_periods-requires-clause-cut c =
    let a = c.args in
    λ p ps e. (copy_of c.requires.room.0 a.times a.values a.given.items a.rank a.period a.rise c.requires.room.1 c.requires.starts c.requires.tail p ps e).cut

pub two_periods-requires-clause-copies : goal.two_periods-requires-clause-copies
two_periods-requires-clause-copies c =
    let a = c.args in
    copies_of c.requires.room.0 a.times a.values a.given.items a.rank a.period a.rise c.requires.room.1 c.requires.starts c.requires.tail

pub merged-pieces-requires-clause-starts : goal.merged-pieces-requires-clause-starts
merged-pieces-requires-clause-starts c =
    let a = c.args in
    let longer = λ (p : Piece) (ps : List Piece) (e : a.given.items ≡ p ∷ ps). c.in_ok-longer.ensures p ps e in
    two_periods_start a.given.items c.in_ok-longer.longer.items a.rank a.period a.rise c.requires.starts c.requires.tail.nonneg c.requires.tail.some c.requires.tail.starts longer

pub merged-pieces-requires-clause-fits : goal.merged-pieces-requires-clause-fits
merged-pieces-requires-clause-fits c =
    let a = c.args in
    let longer = λ (p : Piece) (ps : List Piece) (e : a.given.items ≡ p ∷ ps). c.in_ok-longer.ensures p ps e in
    lines_fit c.requires.room.0 4 c.in_ok-longer.longer.items (omega arith)
    (longer_room c.requires.room.0 a.times a.values a.given.items c.in_ok-longer.longer.items a.rank a.period a.rise c.requires.room.1 c.requires.starts c.requires.tail longer)

pub of_two_periods-requires-clause-two : goal.of_two_periods-requires-clause-two
of_two_periods-requires-clause-two c =
    let a = c.args in
    let longer = λ (p : Piece) (ps : List Piece) (e : a.given.items ≡ p ∷ ps). c.in_ok-longer.ensures p ps e in
    let start = two_periods_start a.given.items c.in_ok-longer.longer.items a.rank a.period a.rise c.requires.starts c.requires.tail.nonneg c.requires.tail.some c.requires.tail.starts longer in
    let M = merged_list c.in_ok-longer.longer.items c.merged-pieces.result.items start c.merged-pieces.ensures in
    (two_periods_list a.given.items c.in_ok-longer.longer.items c.merged-pieces.result.items a.rank a.period a.rise c.requires.starts c.requires.tail.nonneg c.requires.tail.some c.requires.tail.starts longer M).two

pub of_two_periods-requires-clause-grids : goal.of_two_periods-requires-clause-grids
of_two_periods-requires-clause-grids c =
    let a = c.args in
    let longer = λ (p : Piece) (ps : List Piece) (e : a.given.items ≡ p ∷ ps). c.in_ok-longer.ensures p ps e in
    let start = two_periods_start a.given.items c.in_ok-longer.longer.items a.rank a.period a.rise c.requires.starts c.requires.tail.nonneg c.requires.tail.some c.requires.tail.starts longer in
    let M = merged_list c.in_ok-longer.longer.items c.merged-pieces.result.items start c.merged-pieces.ensures in
    let T = two_periods_list a.given.items c.in_ok-longer.longer.items c.merged-pieces.result.items a.rank a.period a.rise c.requires.starts c.requires.tail.nonneg c.requires.tail.some c.requires.tail.starts longer M in
    grids_through a.times a.values (repeated (read c.merged-pieces.result.items) a.rank a.period a.rise) (repeated (read a.given.items) a.rank a.period a.rise) a.rank a.period a.rise T.same c.requires.grids

pub of_two_periods-requires-clause-room : goal.of_two_periods-requires-clause-room
of_two_periods-requires-clause-room c =
    let a = c.args in
    let longer = λ (p : Piece) (ps : List Piece) (e : a.given.items ≡ p ∷ ps). c.in_ok-longer.ensures p ps e in
    let start = two_periods_start a.given.items c.in_ok-longer.longer.items a.rank a.period a.rise c.requires.starts c.requires.tail.nonneg c.requires.tail.some c.requires.tail.starts longer in
    let R = longer_room c.requires.room.0 a.times a.values a.given.items c.in_ok-longer.longer.items a.rank a.period a.rise c.requires.room.1 c.requires.starts c.requires.tail longer in (
      c.requires.room.0,
      both_room c.requires.room.0 a.times a.values a.given.items c.in_ok-longer.longer.items c.merged-pieces.result.items a.rank a.period a.rise c.requires.room.1 R start c.merged-pieces.ensures,
    )

pub returns : goal.returns
returns c =
    let a = c.args in
    let longer = λ (p : Piece) (ps : List Piece) (e : a.given.items ≡ p ∷ ps). c.in_ok-longer.ensures p ps e in
    let start = two_periods_start a.given.items c.in_ok-longer.longer.items a.rank a.period a.rise c.requires.starts c.requires.tail.nonneg c.requires.tail.some c.requires.tail.starts longer in
    let M = merged_list c.in_ok-longer.longer.items c.merged-pieces.result.items start c.merged-pieces.ensures in
    let T = two_periods_list a.given.items c.in_ok-longer.longer.items c.merged-pieces.result.items a.rank a.period a.rise c.requires.starts c.requires.tail.nonneg c.requires.tail.some c.requires.tail.starts longer M in
    λ t h. c.of_two_periods.ensures t h ∙ T.same t
