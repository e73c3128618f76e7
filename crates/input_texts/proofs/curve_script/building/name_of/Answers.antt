use Rattle.std.proofs.Common.{sym, ◌∙◌}
use Rattle.input_texts.proofs.curve_script.Texts.{name_is_utf8}
use Rattle.input_texts.proofs.curve_script.building.name_of.Goals as goal

pub returns-in-Err : goal.returns-in-Err
returns-in-Err c = absurd (c.in-Err.ensures.cases.0 (name_is_utf8 c.args.word.now (sym c.is_name_text.ensures ∙ c.if-not-is_name_text.false)))
