use Rattle.std.proofs.Common.{◌<◌, ◌≤◌, ◌+◌, ◌*◌, ◌^◌, ℕ, Option, List, length, get_or, sym, ◌∙◌, ap, subst, arith}
use Rattle.std.specs.Prelude.{IfSome}
use Rattle.std.proofs.lemmas.List.{get_or_default}
use Rattle.arrival_lines.specs.declared.grid.Queue.{Queue}
use Rattle.tree_network.specs.Networks.{no_node, port_at, no_port, HangsBefore}
use Rattle.tree_network.specs.declared.network.Port.{Port}
use Rattle.tree_network.specs.declared.network.Node.{Node}
use Rattle.tree_bounds.specs.Tables.{items_of, row_at, time_after, time_before}
use Rattle.tree_bounds.proofs.Bounded.{BoundsBelow, before_few, bound_more}
use Rattle.tree_bounds.proofs.bounds.link_bounds.Goals as goal

pub loop-node-preserved : goal.loop-node-preserved
loop-node-preserved c =
    let net = c.args.network.now in
    let link = c.args.link.now in
    let k = c.loop-node.node-index in
    let bounds = c.loop-node.bounds.items in
    let row = row_at (items_of c.args.rows.now) in
    let same = c.deref-node-items.ensures.value in
    let long = ap length same in
    let inside : k < length link.nodes.items = omega (arith, c.loop-node-test.true, long) in
    let node = get_or c.deref-node-items.result.now k no_node in
    let is_node = ap (λ (ns : List Node). get_or ns k no_node) same in
    let its = c.requires.link.nodes k inside in
    let hangs = λ (place : ℕ) (le : place ≤ k). (c.requires.link.nodes place (omega (arith, le, inside))).hangs in
    let H : Node → Type 0 = λ n. HangsBefore k n.from in
    let here = ap (λ (n : Node). n.port) is_node in
    let lt = its.port in
    let before = c.bound_before-before.ensures ∙ ap (λ (b : List (Option ℕ)). time_before b node.from) c.deref.ensures.value in
    let port = c.index.ensures ∙ get_or_default net.ports.items node.port c.index.result.now no_port (omega (arith, here, lt)) in
    let is = c.bound_after.ensures.sum
    ∙ ap (λ (b : Option ℕ). time_after b c.row_of-row.result c.index.result.now.link) before
    ∙ ap (λ (r : Option Queue). time_after (time_before bounds node.from) r c.index.result.now.link) c.row_of-row.ensures
    ∙ ap (λ (p : Port). time_after (time_before bounds node.from) (row node.port node.queue) p.link) port
    ∙ ap (λ (n : Node). time_after (time_before bounds n.from) (row n.port n.queue) (port_at net n.port).link) is_node in
    let F : Option ℕ → Type 0 = λ b. IfSome b (λ x. x ≤ k * 2 ^ 65) in
    let small = c.bound_after.ensures.small (k * 2 ^ 65)
    (subst F (sym before) (before_few net row link k bounds node.from c.loop-node.invariant (subst H (sym is_node) its.hangs))) in
    let P : List (Option ℕ) → Type 0 = λ bs. BoundsBelow net row link (k + 1) bs in
    subst P (sym c.in_ok-push.ensures.items) (bound_more net row link k bounds c.bound_after.result hangs is small c.loop-node.invariant)
