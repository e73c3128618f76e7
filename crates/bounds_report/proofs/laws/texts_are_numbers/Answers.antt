use Rattle.bounds_report.proofs.Read.{texts_are_numbers}
use Rattle.bounds_report.proofs.laws.texts_are_numbers.Goals as goal

pub returns : goal.returns
returns c = texts_are_numbers
