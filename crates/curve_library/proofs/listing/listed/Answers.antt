use Rattle.curve_library.proofs.ListedParts.{lists_first}
use Rattle.curve_library.proofs.listing.listed.Goals as goal

pub returns-clause-first : goal.returns-clause-first
returns-clause-first c = lists_first c.args.pieces.now c.args.tail c.args.use_as c.tested_list.result c.tested_list.ensures
