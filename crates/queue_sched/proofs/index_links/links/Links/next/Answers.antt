use Rattle.std.proofs.Common.{◌≡◌, ◌+◌, get_or, arith, ◌∙◌, sym, ap}
use Rattle.std.proofs.lemmas.List.{get_or_read}
use Rattle.queue_sched.specs.index_links.Chains.{after}
use Rattle.queue_sched.specs.index_links.Rings.{node_of}
use Rattle.queue_sched.proofs.index_links.Stored.{at, seen, in_list, node_cells, next_is}
use Rattle.queue_sched.proofs.index_links.links.Links.next.Goals as goal

pub index-requires : goal.index-requires
index-requires c =
    let cells = node_cells (seen _ _ _ _ _ c.self.invariant c.self.view_is) c.args.node c.requires in
    omega (arith, cells.node, c.self.invariant.long_next, c.self.inside.next.ok)

pub node_at-requires : goal.node_at-requires
node_at-requires c =
    let cells = node_cells (seen _ _ _ _ _ c.self.invariant c.self.view_is) c.args.node c.requires in
    let read : c.index.result.now ≡ get_or c.self.inside.next.items (c.self.inside.lists + c.args.node) 0 =
    get_or_read _ (c.self.inside.lists + c.args.node) _ (omega (arith, cells.node, c.self.invariant.long_next)) c.index.ensures 0 in
    omega (arith, read, cells.behind, c.self.invariant.few)

pub returns : goal.returns
returns c = λ l h.
    let see = seen _ _ _ _ _ c.self.invariant c.self.view_is in
    let cells = node_cells see c.args.node c.requires in
    let there = in_list see l c.args.node h in
    let read : c.index.result.now ≡ get_or c.self.inside.next.items (c.self.inside.lists + c.args.node) 0 =
    get_or_read _ (c.self.inside.lists + c.args.node) _ (omega (arith, cells.node, c.self.invariant.long_next)) c.index.ensures 0 in
    c.node_at.ensures ∙ ap (node_of c.self.inside.lists) read
    ∙ next_is (at c.self.inside.next.items) (at c.self.inside.prev.items) c.self.inside.lists l c.args.node _ l (see.rings.rings l there.known)
    there.known (see.rings.once l there.known) there.has
    ∙ ap (after c.args.node) (sym (see.here l there.known))
