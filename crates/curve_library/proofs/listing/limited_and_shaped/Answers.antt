use Rattle.upp_curve.specs.Curve.{SpecCurve}
use Rattle.curve_library.proofs.ListedParts.{both_of}
use Rattle.curve_library.proofs.listing.limited_and_shaped.Goals as goal

pub returns-in-Ok : goal.returns-in-Ok
returns-in-Ok c =
    let k : SpecCurve = record { pieces = c.args.pieces.items; tail = c.args.tail } in
    both_of c.args.use_as c.in-Ok.c k c.shaped.result c.in-Ok.ensures.0 c.in-Ok.ensures.1 c.shaped.ensures
