use Rattle.std.proofs.Common.{refl, ap}
use Rattle.net_cells.specs.cell_table.Values.{answer_of, meaning_of}
use Rattle.cell_eval.proofs.SharedCounts.{value_spends}
use Rattle.cell_eval.proofs.counted.CountedEvaluatorValue.eval.Goals as goal

pub returns-clause-spends : goal.returns-clause-spends
returns-clause-spends g c =
    value_spends meaning_of c.value.result _ _ _ _ _ _ c.value.ensures.counts (λ is. c.value.ensures.memory (ap (answer_of meaning_of) is)) refl
