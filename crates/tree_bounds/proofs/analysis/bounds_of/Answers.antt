use Rattle.std.proofs.Common.{Option, List, length, sym, ◌∙◌, subst}
use Rattle.std.proofs.lemmas.List.{length-map}
use Rattle.std.proofs.lemmas.Option.{slice_get_within}
use Rattle.std.specs.declared.vec.Vec.{Vec}
use Rattle.std.proofs.Common.{Global}
use Rattle.arrival_lines.specs.declared.grid.Queue.{Queue}
use Rattle.tree_bounds.specs.Solved.{HaveBounds}
use Rattle.tree_bounds.specs.Tables.{items_of, row_at}
use Rattle.tree_bounds.proofs.analysis.bounds_of.Goals as goal

pub returns-clause-table : goal.returns-clause-table
returns-clause-table c =
    let net = c.args.network.now in
    let s = c.in_ok-rows.ensures in
    let rows = length-map c.in_ok-rows.rows.items (λ v. v.items) in
    let bounds = length-map c.in_ok-bounds.bounds.items (λ v. v.items) in
    let P : List (Vec (Option Queue) Global) → Type 0 = λ vs. HaveBounds net (row_at (items_of vs)) (length net.links.items) (items_of c.in_ok-bounds.bounds.items) in
    let b = subst P c.deref.ensures.value c.in_ok-bounds.ensures in
    record {
      order = c.in_ok-plan.plan.order.items;
      goes_forward = c.in_ok-plan.ensures.plan.order;
      stair = s.stair;
      equations = s.equations;
      ports = sym rows ∙ s.each.ports;
      queues = s.each.queues;
      links = sym bounds ∙ b.count;
      bounds = λ i link e. b.each i link (slice_get_within net.links.items i link e) e;
    }
