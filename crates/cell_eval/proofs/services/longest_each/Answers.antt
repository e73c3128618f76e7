use Rattle.std.proofs.Common.{sym, ap, ◌∙◌, arith, map, [], ◌∷◌, ◌++◌}
use Rattle.std.specs.List.{range_with_len}
use Rattle.std.proofs.lemmas.List.FromFn.{map-range_with_len_more}
use Rattle.net_cells.specs.Visits.{longest, longest_of}
use Rattle.cell_numbers.specs.declared.found.Pick.TheVariants.{InQueue}
use Rattle.cell_numbers.proofs.Choosing.{picked_are}
use Rattle.cell_eval.proofs.services.longest_each.Goals as goal

pub loop-queue-preserved : goal.loop-queue-preserved
loop-queue-preserved c =
    let net = c.args.net.now in
    let s = c.args.server in
    let q = c.loop-queue.queue in
    let inv = c.loop-queue.invariant in
    let found = c.longest_at.ensures ∙ ap (longest_of net) (sym (picked_are net s (InQueue q))) in
    let n = inv.len in
    let e = c.push.ensures.len in
    record {
      items = c.push.ensures.items ∙ ap (λ xs. xs ++ c.longest_at.result ∷ []) inv.items
          ∙ ap (λ m. map (longest net s) (range_with_len 0 q) ++ m ∷ []) found ∙ sym (map-range_with_len_more (longest net s) 0 q q (omega arith));
      len = omega (arith, n, e);
    }
