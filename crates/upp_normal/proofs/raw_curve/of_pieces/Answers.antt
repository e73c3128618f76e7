use Rattle.std.proofs.Common.{arith, ◌∙◌}
use Rattle.upp_normal.proofs.NormaliseForm.{merged_list}
use Rattle.upp_normal.proofs.NormaliseRoomy.{lines_fit}
use Rattle.upp_normal.proofs.NormaliseWhole.{merged_room, pieces_readable}
use Rattle.upp_normal.proofs.raw_curve.of_pieces.Goals as goal

pub merged-requires-clause-fits : goal.merged-requires-clause-fits
merged-requires-clause-fits c = lines_fit c.requires.room.0 4 c.args.pieces.items (omega arith) c.requires.room.1

pub unending-requires-clause-starts : goal.unending-requires-clause-starts
unending-requires-clause-starts c = (merged_list c.args.pieces.items c.merged.result.items c.requires.starts c.merged.ensures).starts

pub unending-requires-clause-none : goal.unending-requires-clause-none
unending-requires-clause-none c = (merged_list c.args.pieces.items c.merged.result.items c.requires.starts c.merged.ensures).none

pub unending-requires-clause-fits : goal.unending-requires-clause-fits
unending-requires-clause-fits c =
    pieces_readable c.requires.room.0 c.merged.result.items
    (merged_room c.requires.room.0 c.args.pieces.items c.merged.result.items c.requires.starts c.merged.ensures c.requires.room.1)

pub returns : goal.returns
returns c = λ t h. c.unending.ensures t h ∙ (merged_list c.args.pieces.items c.merged.result.items c.requires.starts c.merged.ensures).reads t
