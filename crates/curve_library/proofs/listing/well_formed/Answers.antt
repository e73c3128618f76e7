use Rattle.curve_library.proofs.ListedParts.{raw_of}
use Rattle.curve_library.proofs.listing.well_formed.Goals as goal

pub limited_and_shaped-requires : goal.limited_and_shaped-requires
limited_and_shaped-requires c = rw (c.in-Some.ensures, c.tail_of.ensures) (raw_of c.args.texts.now c.args.tail.now c.requires)

pub returns-in-None : goal.returns-in-None
returns-in-None c = c.uncopied.ensures c.args.use_as
