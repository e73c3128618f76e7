use Rattle.std.proofs.Common.{sym, ◌∙◌}
use Rattle.cell_eval.proofs.Totals.{sums_infinite}
use Rattle.cell_eval.proofs.number_sums.sum_of.Goals as goal

pub returns-then-all : goal.returns-then-all
returns-then-all c = λ xs few h. sums_infinite xs (sym h.infinite ∙ c.if-all.true)

pub returns : goal.returns
returns c = λ xs few h. c.finite_sum.ensures xs few (sym h.infinite ∙ c.if-all.false) h.tally
