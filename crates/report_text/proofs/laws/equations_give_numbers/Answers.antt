use Rattle.report_text.proofs.Numbers.{numbers}
use Rattle.report_text.proofs.laws.equations_give_numbers.Goals as goal

pub returns : goal.returns
returns c = numbers
