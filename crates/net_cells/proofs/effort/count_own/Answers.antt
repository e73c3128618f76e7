use Rattle.std.proofs.Common.{ℕ, List, length, ap, ap₂, ◌∙◌, Option}
use Rattle.net_model.specs.Networks.{NetFlow}
use Rattle.net_cells.specs.Numbered.{path_of, queues_of}
use Rattle.net_cells.specs.Visits.{hops_in}
use Rattle.net_cells.proofs.Counting.{own_count}
use Rattle.net_cells.proofs.effort.count_own.Goals as goal

pub returns-in-Some : goal.returns-in-Some
returns-in-Some c =
    let i = c.args.flow in
    let s = c.args.server in
    let q = c.args.queue in
    c.count_hops.ensures.count i
    ∙ ap₂ (λ (way lanes : List ℕ). length (hops_in i way lanes s q)) c.deref.ensures.value c.deref-in-Some.ensures.value
    ∙ ap (λ (o : Option NetFlow). length (hops_in i (path_of o) (queues_of o) s q)) c.in-Some.ensures.flow
    ∙ own_count c.args.net.now s q i

pub returns-in-None : goal.returns-in-None
returns-in-None c =
    let i = c.args.flow in
    let s = c.args.server in
    let q = c.args.queue in
    ap (λ (o : Option NetFlow). length (hops_in i (path_of o) (queues_of o) s q)) c.in-None.ensures.flow
    ∙ own_count c.args.net.now s q i
