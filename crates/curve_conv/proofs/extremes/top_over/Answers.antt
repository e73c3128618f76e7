use Rattle.std.proofs.Common.{sym, subst}
use Rattle.upp_normal.specs.Ahead.{HasWindow}
use Rattle.curve_conv.proofs.OwnExtremes.{top_bounds_named}
use Rattle.curve_conv.proofs.extremes.top_over.Goals as goal

pub side_gap-requires : goal.side_gap-requires
side_gap-requires c =
    let (z, W, Z, T) = c.requires in
    (z, subst (HasWindow z c.args.end) (sym c.of.ensures) W, subst (HasWindow z c.args.end) (sym c.zero_level.ensures) Z, T)

pub returns-in-Is : goal.returns-in-Is
returns-in-Is c =
    let (z, W, Z, T) = c.requires in
    top_bounds_named c.args.c.now c.of.result c.zero_level.result c.args.from c.args.end c.in-Is.top c.of.ensures c.zero_level.ensures T.nonneg c.in-Is.ensures.gap
