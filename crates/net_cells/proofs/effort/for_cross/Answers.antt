use Rattle.std.proofs.Common.{◌≡◌, ◌-◌, ℕ, length, ap, ap₂, ◌∙◌, arith, eqb}
use Rattle.net_cells.specs.Visits.{Visit, visits_in, others}
use Rattle.net_cells.proofs.Counting.{both_parts}
use Rattle.net_cells.proofs.effort.for_cross.Goals as goal

pub overflow_sub-count_in : goal.overflow_sub-count_in
overflow_sub-count_in c =
    let parts = both_parts (λ (v : Visit). eqb v.flow c.args.cell.a)
    (visits_in c.args.net.now c.server_of_hop-at_server.result c.queue_of_hop-queue.result) in
    omega (arith, c.count_own-own.ensures, c.count_in.ensures, parts)

pub returns : goal.returns
returns c =
    let net = c.args.net.now in
    let i = c.args.cell.a in
    let s = c.server_of_hop-at_server.result in
    let q = c.queue_of_hop-queue.result in
    let parts = both_parts (λ (v : Visit). eqb v.flow i) (visits_in net s q) in
    let few : c.count_in.result - c.count_own-own.result ≡ length (others net i s q) =
    omega (arith, c.count_own-own.ensures, c.count_in.ensures, parts) in
    c.for_terms.ensures
    ∙ ap (λ (n : ℕ). n - 1) (few
    ∙ ap₂ (λ (t p : ℕ). length (others net i t p)) c.server_of_hop-at_server.ensures c.queue_of_hop-queue.ensures)
