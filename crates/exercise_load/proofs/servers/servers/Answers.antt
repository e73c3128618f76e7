use Rattle.std.proofs.Common.{◌∷◌, ◌++◌, [], map, ap, sym, ◌∙◌, arith}
use Rattle.std.specs.List.{range_with_len}
use Rattle.std.proofs.lemmas.List.{map-append}
use Rattle.std.proofs.lemmas.List.FromFn.{map-range_with_len_more}
use Rattle.net_model.specs.Views.{server_of, servers_of}
use Rattle.exercise_load.specs.Workloads.{server}
use Rattle.exercise_load.proofs.servers.servers.Goals as goal

pub loop-number-preserved : goal.loop-number-preserved
loop-number-preserved c =
    let n = c.loop-number.number in
    ap servers_of c.in_ok-push.ensures.items ∙ map-append server_of c.loop-number.made.items (c.in_ok-server_at.field-0 ∷ [])
    ∙ ap (λ xs. xs ++ server_of c.in_ok-server_at.field-0 ∷ []) c.loop-number.invariant
    ∙ ap (λ s. map server (range_with_len 0 n) ++ s ∷ []) c.in_ok-server_at.ensures
    ∙ sym (map-range_with_len_more server 0 n n (omega arith))
