use Rattle.port_bounds.proofs.by_stairs.stair_rows.Goals as goal

pub stair_row-requires-clause-arriving : goal.stair_row-requires-clause-arriving
stair_row-requires-clause-arriving c =
    record { meant = c.requires.port; count = c.requires.count; range = c.requires.range; lines = c.requires.lines; same = c.requires.same }
