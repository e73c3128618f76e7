use Rattle.std.proofs.Common.{◌∙◌}
use Rattle.plain_operators.proofs.running.ValueIn.{found_fits, found_number, found_value}
use Rattle.plain_operators.proofs.running.lowest.value_in.Goals as goal

pub piece_value-requires : goal.piece_value-requires
piece_value-requires c = λ l. found_fits c.args.pieces.now c.piece_at.result c.args.t c.requires.starts c.requires.fits c.piece_at.ensures

pub number_of-requires : goal.number_of-requires
number_of-requires c = found_number c.args.pieces.now c.piece_at.result c.args.t c.piece_value.result c.requires.starts c.piece_at.ensures c.piece_value.ensures c.requires.finite

pub returns : goal.returns
returns c = found_value c.args.pieces.now c.piece_at.result c.args.t c.piece_value.result c.requires.starts c.piece_at.ensures c.piece_value.ensures ∙ c.number_of.ensures
