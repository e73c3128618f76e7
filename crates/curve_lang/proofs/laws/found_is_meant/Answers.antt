use Rattle.curve_lang.proofs.Meant.{found_means}
use Rattle.curve_lang.proofs.laws.found_is_meant.Goals as goal

pub returns : goal.returns
returns c = found_means
