use Rattle.std.proofs.Common.{◌≡◌, map}
use Rattle.std.specs.List.{range_with_len}
use Rattle.arrayvec.specs.ArrayVec.{array_vec_len}
use Rattle.net_cells.specs.Visits.{longest}
use Rattle.cell_eval.proofs.services.longest_each.Given as goal

abbrev pub invariant-loop-queue : goal.invariant-loop-queue
invariant-loop-queue l = record {
  items : l.sizes.items ≡ map (longest l.net l.server) (range_with_len 0 l.queue);
  len : array_vec_len l.sizes ≡ l.queue;
}
