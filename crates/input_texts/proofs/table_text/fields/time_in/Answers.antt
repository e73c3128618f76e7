use Rattle.input_texts.proofs.table_text.FieldTexts.{not_below}
use Rattle.input_texts.proofs.table_text.fields.time_in.Goals as goal

pub returns-else-is_less-clause-range : goal.returns-else-is_less-clause-range
returns-else-is_less-clause-range c = not_below c.in_ok-number.number c.zero.result c.is_less.result c.if-is_less.false c.is_less.ensures.test c.zero.ensures
