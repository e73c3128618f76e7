use Rattle.std.proofs.Common.{◌≡◌, ◌<◌, get_or, arith, ◌∙◌, sym, ap}
use Rattle.std.proofs.lemmas.List.{get_or_read}
use Rattle.queue_sched.specs.index_links.Chains.{first_of}
use Rattle.queue_sched.specs.index_links.Rings.{node_of}
use Rattle.queue_sched.proofs.index_links.Stored.{at, seen, first_is, first_within}
use Rattle.queue_sched.proofs.index_links.links.Links.first.Goals as goal

pub index-requires : goal.index-requires
index-requires c =
    let see = seen _ _ _ _ _ c.self.invariant c.self.view_is in
    omega (arith, see.count, c.self.invariant.long_next, c.self.inside.next.ok)

pub node_at-requires : goal.node_at-requires
node_at-requires c =
    let see = seen _ _ _ _ _ c.self.invariant c.self.view_is in
    let h : c.args.list < c.self.inside.lists = omega (arith, c.requires, see.count) in
    let read : c.index.result.now ≡ get_or c.self.inside.next.items c.args.list 0 =
    get_or_read _ c.args.list _ (omega (arith, h, c.self.invariant.long_next)) c.index.ensures 0 in
    omega (arith, read, first_within see c.args.list h, c.self.invariant.few)

pub returns : goal.returns
returns c =
    let see = seen _ _ _ _ _ c.self.invariant c.self.view_is in
    let h : c.args.list < c.self.inside.lists = omega (arith, c.requires, see.count) in
    let read : c.index.result.now ≡ get_or c.self.inside.next.items c.args.list 0 =
    get_or_read _ c.args.list _ (omega (arith, h, c.self.invariant.long_next)) c.index.ensures 0 in
    c.node_at.ensures ∙ ap (node_of c.self.inside.lists) read
    ∙ first_is (at c.self.inside.next.items) (at c.self.inside.prev.items) c.self.inside.lists c.args.list _ c.args.list (see.rings.rings c.args.list h) h
    ∙ ap first_of (sym (see.here c.args.list h))
