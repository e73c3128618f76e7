-- What is determined of formulas, in one record.
use Rattle.net_cells.specs.Formulas.{leaves}
use Rattle.net_cells.specs.Laws.{FormulasAreDetermined}
use Rattle.net_cells.proofs.OneMeaning.{means_one}
use Rattle.net_cells.proofs.OneAnswer.{answers_one}
use Rattle.net_cells.proofs.AnswersMean.{answers_mean}
use Rattle.net_cells.proofs.SameLeaves.{means_same, answers_same}
use Rattle.run_laws.proofs.Members.{has_contains}

pub formulas_are_determined : FormulasAreDetermined
formulas_are_determined = record {
  meaning = means_one;
  answer = answers_one;
  agree = answers_mean;
  meaning_reads = λ at other F v same m. means_same at other F v (λ c h. same c (has_contains (leaves F) c h)) m;
  answer_reads = λ at other F r same m. answers_same at other F r (λ c h. same c (has_contains (leaves F) c h)) m;
}
