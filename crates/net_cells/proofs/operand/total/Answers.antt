use Rattle.std.proofs.Common.{◌≡◌, ℕ, List, map, ap, sym, ◌∙◌, subst, eqb}
use Rattle.std.specs.Prelude.{IfOk}
use Rattle.std.specs.List.{filter, flat_map}
use Rattle.std.proofs.lemmas.Bool.{eq-eqb, ne_eqb}
use Rattle.net_cells.specs.declared.cell.Cell.{Cell}
use Rattle.net_cells.specs.declared.cell.Kind.TheVariants.{In}
use Rattle.net_cells.specs.Visits.{Visit, visits_in}
use Rattle.net_cells.specs.QueueParts.{part_of, part_numbers, by_parts}
use Rattle.net_cells.specs.Order.{at_visit}
use Rattle.net_cells.specs.Formulas.{leaves}
use Rattle.net_cells.specs.CellFormulas.{total}
use Rattle.net_cells.proofs.LeavesOf.{sum_leaves, parts_leaves}
use Rattle.net_cells.proofs.operand.total.Goals as goal

pub returns-then-version-eq2 : goal.returns-then-version-eq2
returns-then-version-eq2 c =
    let net = c.args.net.now in
    let s = c.args.cell.a in
    let q = c.args.cell.b in
    let here = c.deref.ensures.value ∙ c.in_ok-here.ensures in
    let second = eq-eqb net.version 2 (sym c.version.ensures.version ∙ c.if-version-eq2.true) in
    subst (λ (zs : List Cell). IfOk c.by_parts.result (λ v. v.items ≡ zs))
    (ap (λ (vs : List Visit). map (at_visit In) (flat_map (λ (k : ℕ). filter (λ (x : Visit). eqb (part_of net x) k) vs) (part_numbers net))) here
    ∙ sym (parts_leaves net s q (part_numbers net)) ∙ ap (λ b. leaves (total b net s q)) (sym second))
    c.by_parts.ensures

pub returns : goal.returns
returns c =
    let net = c.args.net.now in
    let s = c.args.cell.a in
    let q = c.args.cell.b in
    let first = ne_eqb net.version 2 (λ e. c.if-version-eq2.false (c.version.ensures.version ∙ e)) in
    subst (λ (zs : List Cell). IfOk c.of_visits.result (λ v. v.items ≡ zs))
    (ap (map (at_visit In)) (c.deref-else-version-eq2.ensures.value ∙ c.in_ok-here.ensures)
    ∙ sym (sum_leaves (map (at_visit In) (visits_in net s q))) ∙ ap (λ b. leaves (total b net s q)) (sym first))
    c.of_visits.ensures
