use Rattle.curve_conv.proofs.lower.lower_line.Goals as goal

pub unreachable-requires : goal.unreachable-requires
unreachable-requires c = c.requires c.in-Err.field-0 c.in-Err.ensures.wide
