use Rattle.curve_lang.proofs.OneFound.{scripts_find_one}
use Rattle.curve_lang.proofs.laws.scripts_find_one.Goals as goal

pub returns : goal.returns
returns c = scripts_find_one
