use Rattle.std.proofs.Common.{◌+◌, length, ap, ◌∙◌}
use Rattle.std.proofs.lemmas.List.{length_push}
use Rattle.net_cells.specs.cell_table.Rows.{entry}
use Rattle.net_cells.proofs.cell_table.Rows.{empty_row}
use Rattle.net_cells.proofs.cell_table.analysis.grow_rows.Goals as goal

pub loop-number-preserved : goal.loop-number-preserved
loop-number-preserved g c = record {
  same = λ i k. ap (λ rows. entry rows i k) c.in_ok-push.ensures.items
      ∙ empty_row c.loop-number.rows.items c.new.result i k c.new.ensures.items ∙ c.loop-number.invariant.same i k;
  room = ap length c.in_ok-push.ensures.items ∙ length_push c.loop-number.rows.items c.new.result
      ∙ ap (λ n. n + 1) c.loop-number.invariant.room;
}
