use Rattle.upp_curve.proofs.KindForms.{gated_normal}
use Rattle.curve_library.proofs.gates.gated.Goals as goal

pub of_normal-requires : goal.of_normal-requires
of_normal-requires c =
    rw (c.flat.ensures, c.piece.ensures, c.zero-rank.ensures, c.negated.ensures, c.in-Some.ensures.closed, c.in-Some.ensures.missed, c.in-Some.ensures.rise)
    (gated_normal c.args.rate c.args.cycle c.args.slot c.requires.rate c.requires.slot c.requires.closes)
