use Rattle.curve_lang.proofs.ScriptMeant.{answers_are_meant}
use Rattle.curve_lang.proofs.laws.answers_are_meant.Goals as goal

pub returns : goal.returns
returns c = answers_are_meant
