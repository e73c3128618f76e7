use Rattle.std.proofs.Common.{◌≡◌, ◌-◌, subst, length, [], inr}
use Rattle.std.specs.Prelude.{Ok, Err}
use Rattle.net_cells.specs.cell_table.Values.{answer_of, meaning_of}
use Rattle.cell_eval.specs.Partial.{Adds}
use Rattle.cell_eval.proofs.SumSteps.{failed_given}
use Rattle.outcomes.proofs.Spending.{counts_all}
use Rattle.cell_eval.proofs.Arms.{sum_counts}
use Rattle.upp_limits.specs.declared.op_kind.OpFault.TheVariants.{NoMemory}
use Rattle.net_cells.specs.CellFormulas.{sum_of_cells}
use Rattle.net_cells.specs.Refusals.{RefusedAt}
use Rattle.cell_eval.proofs.SumSteps.{made_stops, failed_at}
use Rattle.cell_eval.proofs.sums.summed.Goals as goal

pub returns-in-Ok-clause-answer : goal.returns-in-Ok-clause-answer
returns-in-Ok-clause-answer g c = λ cells old new h.
    let at = g.T.Table.at c.args.table.now in
    c.finished.ensures cells (subst (Adds at [] cells old new) c.in-Ok.is h).0

pub returns-in-Ok-clause-counts : goal.returns-in-Ok-clause-counts
returns-in-Ok-clause-counts g c = λ cells old new h.
    let at = g.T.Table.at c.args.table.now in
    let adds = subst (Adds at [] cells old new) c.in-Ok.is h in
    counts_all (length cells - 1) old new (answer_of meaning_of c.finished.result) (sum_counts at cells old new (Ok c.in-Ok.whole) adds).0

pub returns-in-Err-clause-answer : goal.returns-in-Err-clause-answer
returns-in-Err-clause-answer g c = λ cells old new h.
    let at = g.T.Table.at c.args.table.now in
    failed_given at cells old new c.in-Err.fault (subst (Adds at [] cells old new) c.in-Err.is h).0

pub returns-in-Err-clause-counts : goal.returns-in-Err-clause-counts
returns-in-Err-clause-counts g c = λ cells old new h.
    let at = g.T.Table.at c.args.table.now in
    let adds = subst (Adds at [] cells old new) c.in-Err.is h in
    let counted = sum_counts at cells old new (Err c.in-Err.fault) adds in
    record { exact = tt; least = counted.1; most = counted.2 }

pub returns-in-Ok-clause-memory : goal.returns-in-Ok-clause-memory
returns-in-Ok-clause-memory g c = λ cells old new h is.
    made_stops (g.T.Table.at c.args.table.now) cells c.in-Ok.whole old new (subst (Adds (g.T.Table.at c.args.table.now) [] cells old new) c.in-Ok.is h)

pub returns-in-Err-clause-memory : goal.returns-in-Err-clause-memory
returns-in-Err-clause-memory g c = λ cells old new h is.
    let at = g.T.Table.at c.args.table.now in
    let adds = subst (Adds at [] cells old new) c.in-Err.is h in
    let one : c.in-Err.fault ≡ NoMemory = cc in
    inr (subst (λ e. RefusedAt at (sum_of_cells cells) e (new - old)) one (failed_at at cells old new c.in-Err.fault adds.0))
