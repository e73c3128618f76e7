use Rattle.cell_numbers.proofs.numbers.theta_of.Goals as goal

pub delay_between-requires-clause-rises : goal.delay_between-requires-clause-rises
delay_between-requires-clause-rises g c = c.requires.rises

pub delay_between-requires-clause-serves : goal.delay_between-requires-clause-serves
delay_between-requires-clause-serves g c = rw (c.place_of-place.ensures.server, c.place_of-place.ensures.queue) c.requires.serves

pub returns-clause-answer : goal.returns-clause-answer
returns-clause-answer g c =
    rw c.numbered.ensures (rw (c.place_of-place.ensures.server, c.place_of-place.ensures.queue) at c.delay_between.ensures.answer)
