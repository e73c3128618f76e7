use Rattle.std.proofs.Common.{ap, sym, ◌∙◌}
use Rattle.std.specs.List.{flat_map, fold, range_with_len}
use Rattle.std.proofs.lemmas.List.Sums.{fold-append}
use Rattle.rational.specs.Extended.{Ext, max_ext}
use Rattle.rational.specs.declared.Extended.TheVariants.{Fin}
use Rattle.min_plus.specs.Functions.{zero_q}
use Rattle.net_cells.proofs.Growing.{flat_more}
use Rattle.exercise_load.specs.exercise_report.Largest.{bound_at}
use Rattle.exercise_load.proofs.exercise_report.largest.largest_bound.Goals as goal

pub loop-number-preserved : goal.loop-number-preserved
loop-number-preserved g c =
    let n = c.loop-number.number in
    let at = g.T.Table.at c.args.table.now in
    c.with_bound-most.ensures
    ∙ ap (λ (x : Ext). fold max_ext x (bound_at c.args.net.now at n)) c.loop-number.invariant
    ∙ sym (fold-append max_ext (Fin zero_q) (flat_map (bound_at c.args.net.now at) (range_with_len 0 n)) (bound_at c.args.net.now at n))
    ∙ ap (fold max_ext (Fin zero_q)) (sym (flat_more (bound_at c.args.net.now at) n))
