use Rattle.std.proofs.Common.{◌++◌, ◌∷◌, [], ℕ, List, None, get_or, map, sym, ◌∙◌, ap, ap₂, arith, append_assoc}
use Rattle.std.specs.List.{range_with_len}
use Rattle.std.proofs.lemmas.List.{map_push}
use Rattle.std.proofs.lemmas.List.FromFn.{map-range_with_len_more}
use Rattle.bounds_command.specs.Reports.{QueueText, queue_view, queue_text}
use Rattle.bounds_command.proofs.rows.push_port.Goals as goal

pub loop-queue-preserved : goal.loop-queue-preserved
loop-queue-preserved c =
    let q = c.loop-queue.queue in
    let old = map queue_view c.args.into.now.items in
    let f : ℕ → QueueText =
    λ k. queue_text c.args.name.now c.args.port.now k (get_or c.args.rates.now k 0) (get_or c.args.found.now k None) in
    ap (map queue_view) c.in_ok-push.ensures.items ∙ map_push queue_view c.loop-queue.into.items c.queue_row.result
    ∙ ap₂ (λ (xs : List QueueText) (x : QueueText). xs ++ x ∷ []) c.loop-queue.invariant c.queue_row.ensures
    ∙ append_assoc old (map f (range_with_len 0 q)) (f q ∷ [])
    ∙ ap (λ (ys : List QueueText). old ++ ys) (sym (map-range_with_len_more f 0 q q (omega arith)))
