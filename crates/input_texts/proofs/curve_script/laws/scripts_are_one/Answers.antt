use Rattle.input_texts.proofs.curve_script.OneScript.{line_says_one, spells_one, text_is_one}
use Rattle.input_texts.proofs.curve_script.laws.scripts_are_one.Goals as goal

pub returns : goal.returns
returns c = record { words = line_says_one; line = spells_one; text = text_is_one }
