use Rattle.flow_watch.proofs.stairs.is_step.Goals as goal

pub returns-in-Some : goal.returns-in-Some
returns-in-Some c = λ yes. record { count = c.in-Some.count; steps = c.in-Some.ensures; line = c.is_line_up_to.ensures yes }
