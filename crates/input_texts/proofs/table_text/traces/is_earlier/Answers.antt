use Rattle.std.proofs.Common.{sym, ◌∙◌}
use Rattle.input_texts.proofs.table_text.TraceFacts.{last_later, none_later}
use Rattle.input_texts.proofs.table_text.traces.is_earlier.Goals as goal

pub returns-in-Some-clause-earlier : goal.returns-in-Some-clause-earlier
returns-in-Some-clause-earlier c = λ h. last_later c.args.packets.now c.in-Some.last.now c.args.time c.in-Some.ensures.value (sym c.is_less.ensures.test ∙ h)

pub returns-in-Some-clause-later : goal.returns-in-Some-clause-later
returns-in-Some-clause-later c = λ h. none_later c.args.packets.now c.in-Some.last.now c.args.time c.in-Some.ensures.value (sym c.is_less.ensures.test ∙ h) c.requires
