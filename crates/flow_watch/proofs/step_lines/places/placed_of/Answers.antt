use Rattle.flow_watch.proofs.step_lines.places.placed_of.Goals as goal

pub returns-in-Ok : goal.returns-in-Ok
returns-in-Ok c = record { before = c.in-Some.before; after = c.in-Some-fill_of.after; fills_under = c.in-Some.ensures; fills_upto = c.in-Some-fill_of.ensures; between = c.in-Ok.ensures }
