use Rattle.std.proofs.Common.{◌≡◌, ℕ, List, map, ap, ap₂, sym, ◌∙◌, subst, eqb}
use Rattle.std.specs.Prelude.{IfOk, not}
use Rattle.std.specs.List.{filter}
use Rattle.net_cells.specs.declared.cell.Cell.{Cell}
use Rattle.net_cells.specs.declared.cell.Kind.TheVariants.{In}
use Rattle.net_cells.specs.Numbered as at
use Rattle.net_cells.specs.Visits.{Visit, visits_in, others}
use Rattle.net_cells.specs.Order.{at_visit}
use Rattle.net_cells.proofs.LeavesOf.{sum_leaves}
use Rattle.net_cells.proofs.operand.cross.Goals as goal

pub returns : goal.returns
returns c =
    let net = c.args.net.now in
    let i = c.args.cell.a in
    let k = c.args.cell.b in
    let here = ap₂ (λ (s q : ℕ). visits_in net s q) c.server_of_hop-server.ensures c.queue_of_hop.ensures in
    subst (λ (zs : List Cell). IfOk c.of_visits.result (λ v. v.items ≡ zs))
    (ap (map (at_visit In)) (c.deref-2.ensures.value ∙ c.in_ok-others.ensures
    ∙ ap (filter (λ (v : Visit). not (eqb v.flow i))) (c.deref.ensures.value ∙ c.in_ok-here.ensures ∙ here))
    ∙ sym (sum_leaves (map (at_visit In) (others net i (at.server_of_hop net i k) (at.queue_of_hop net i k)))))
    c.of_visits.ensures
