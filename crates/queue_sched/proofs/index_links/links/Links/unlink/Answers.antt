use Rattle.std.proofs.Common.{◌≡◌, ◌+◌, get_or, arith}
use Rattle.std.proofs.lemmas.List.{get_or_read}
use Rattle.queue_sched.proofs.index_links.Stored.{seen, node_cells, out_kept}
use Rattle.queue_sched.proofs.index_links.links.Links.unlink.Goals as goal

pub index-before-requires : goal.index-before-requires
index-before-requires c =
    let cells = node_cells (seen _ _ _ _ _ c.self.invariant c.self.view_is) c.args.node c.requires in
    omega (arith, cells.node, c.self.invariant.long_prev, c.self.inside.prev.ok)

pub index-behind-requires : goal.index-behind-requires
index-behind-requires c =
    let cells = node_cells (seen _ _ _ _ _ c.self.invariant c.self.view_is) c.args.node c.requires in
    omega (arith, cells.node, c.self.invariant.long_next, c.self.inside.next.ok)

pub index_mut-requires : goal.index_mut-requires
index_mut-requires c =
    let cells = node_cells (seen _ _ _ _ _ c.self.invariant c.self.view_is) c.args.node c.requires in
    let read : c.index-before.result.now ≡ get_or c.self.inside.prev.items (c.self.inside.lists + c.args.node) 0 =
    get_or_read _ (c.self.inside.lists + c.args.node) _ (omega (arith, cells.node, c.self.invariant.long_prev)) c.index-before.ensures 0 in
    omega (arith, read, cells.before, c.self.invariant.long_next, c.self.inside.next.ok)

pub index_mut-requires-2 : goal.index_mut-requires-2
index_mut-requires-2 c =
    let cells = node_cells (seen _ _ _ _ _ c.self.invariant c.self.view_is) c.args.node c.requires in
    let read : c.index-behind.result.now ≡ get_or c.self.inside.next.items (c.self.inside.lists + c.args.node) 0 =
    get_or_read _ (c.self.inside.lists + c.args.node) _ (omega (arith, cells.node, c.self.invariant.long_next)) c.index-behind.ensures 0 in
    omega (arith, read, cells.behind, c.self.invariant.long_prev, c.self.inside.prev.ok)

pub index_mut-requires-3 : goal.index_mut-requires-3
index_mut-requires-3 c =
    let cells = node_cells (seen _ _ _ _ _ c.self.invariant c.self.view_is) c.args.node c.requires in
    omega (arith, cells.node, c.self.inside.owners.ok)

pub invariant_of-self : goal.invariant_of-self
invariant_of-self c =
    let cells = node_cells (seen _ _ _ _ _ c.self.invariant c.self.view_is) c.args.node c.requires in
    let before : c.index-before.result.now ≡ get_or c.self.inside.prev.items (c.self.inside.lists + c.args.node) 0 =
    get_or_read _ (c.self.inside.lists + c.args.node) _ (omega (arith, cells.node, c.self.invariant.long_prev)) c.index-before.ensures 0 in
    let behind : c.index-behind.result.now ≡ get_or c.self.inside.next.items (c.self.inside.lists + c.args.node) 0 =
    get_or_read _ (c.self.inside.lists + c.args.node) _ (omega (arith, cells.node, c.self.invariant.long_next)) c.index-behind.ensures 0 in
    rw (before, behind) ((out_kept _ _ _ _ _ _ c.self.invariant c.self.view_is c.requires).0)

pub returns : goal.returns
returns c =
    let cells = node_cells (seen _ _ _ _ _ c.self.invariant c.self.view_is) c.args.node c.requires in
    let before : c.index-before.result.now ≡ get_or c.self.inside.prev.items (c.self.inside.lists + c.args.node) 0 =
    get_or_read _ (c.self.inside.lists + c.args.node) _ (omega (arith, cells.node, c.self.invariant.long_prev)) c.index-before.ensures 0 in
    let behind : c.index-behind.result.now ≡ get_or c.self.inside.next.items (c.self.inside.lists + c.args.node) 0 =
    get_or_read _ (c.self.inside.lists + c.args.node) _ (omega (arith, cells.node, c.self.invariant.long_next)) c.index-behind.ensures 0 in
    rw (before, behind) ((out_kept _ _ _ _ _ _ c.self.invariant c.self.view_is c.requires).1)
