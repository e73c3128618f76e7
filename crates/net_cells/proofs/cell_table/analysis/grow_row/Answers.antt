use Rattle.std.proofs.Common.{◌+◌, length, get_or, ap, ◌∙◌}
use Rattle.std.specs.Prelude.{None}
use Rattle.std.proofs.lemmas.List.{length_push}
use Rattle.net_cells.proofs.cell_table.Rows.{one_empty}
use Rattle.net_cells.proofs.cell_table.analysis.grow_row.Goals as goal

pub loop-number-preserved : goal.loop-number-preserved
loop-number-preserved g c = record {
  same = λ k. ap (λ row. get_or row k None) c.in_ok-push.ensures.items
      ∙ one_empty c.loop-number.row.items k None ∙ c.loop-number.invariant.same k;
  room = ap length c.in_ok-push.ensures.items ∙ length_push c.loop-number.row.items None
      ∙ ap (λ n. n + 1) c.loop-number.invariant.room;
}
