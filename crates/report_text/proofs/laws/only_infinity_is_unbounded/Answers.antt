use Rattle.report_text.proofs.TextLemmas.{only_infinity}
use Rattle.report_text.proofs.laws.only_infinity_is_unbounded.Goals as goal

pub returns : goal.returns
returns c = only_infinity
