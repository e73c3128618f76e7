use Rattle.std.proofs.Common.{sym, subst}
use Rattle.upp_normal.specs.Ahead.{IsTimeIn}
use Rattle.curve_conv.proofs.BegunMoves.{begun_is}
use Rattle.curve_conv.proofs.begun.begun_at.Goals as goal

pub stretch_at-here-requires : goal.stretch_at-here-requires
stretch_at-here-requires c =
    let (z, end, H, T) = c.requires in
    (z, end, H, subst (IsTimeIn z end) (sym c.zero.ensures) T)

pub returns-in-None : goal.returns-in-None
returns-in-None c =
    let here = c.stretch_at-here in
    begun_is c.args.c.now here.result c.zero.result c.zero.ensures here.ensures.goes here.ensures.times c.in-None.is
