use Rattle.std.proofs.Common.{◌≡◌, ◌<◌, get_or, arith}
use Rattle.std.proofs.lemmas.List.{get_or_read}
use Rattle.queue_sched.proofs.index_links.Stored.{seen, last_within, tail_kept}
use Rattle.queue_sched.proofs.index_links.links.Links.push_tail.Goals as goal

pub index-last-requires : goal.index-last-requires
index-last-requires c =
    let see = seen _ _ _ _ _ c.self.invariant c.self.view_is in
    omega (arith, see.count, c.requires.list, c.self.invariant.long_prev, c.self.inside.prev.ok)

pub index_mut-requires : goal.index_mut-requires
index_mut-requires c =
    let see = seen _ _ _ _ _ c.self.invariant c.self.view_is in
    let h : c.args.list < c.self.inside.lists = omega (arith, c.requires.list, see.count) in
    let read : c.index-last.result.now ≡ get_or c.self.inside.prev.items c.args.list 0 =
    get_or_read _ c.args.list _ (omega (arith, h, c.self.invariant.long_prev)) c.index-last.ensures 0 in
    omega (arith, read, last_within see c.args.list h, c.self.invariant.long_next, c.self.inside.next.ok)

pub index_mut-requires-4 : goal.index_mut-requires-4
index_mut-requires-4 c =
    let see = seen _ _ _ _ _ c.self.invariant c.self.view_is in
    omega (arith, see.count, c.requires.list, c.self.invariant.long_prev, c.self.inside.prev.ok)

pub invariant_of-self : goal.invariant_of-self
invariant_of-self c =
    let see = seen _ _ _ _ _ c.self.invariant c.self.view_is in
    let h : c.args.list < c.self.inside.lists = omega (arith, c.requires.list, see.count) in
    let read : c.index-last.result.now ≡ get_or c.self.inside.prev.items c.args.list 0 =
    get_or_read _ c.args.list _ (omega (arith, h, c.self.invariant.long_prev)) c.index-last.ensures 0 in
    rw read ((tail_kept _ _ _ _ _ _ _ c.self.invariant c.self.view_is c.requires.list c.requires.node c.requires.free).0)

pub returns : goal.returns
returns c =
    let see = seen _ _ _ _ _ c.self.invariant c.self.view_is in
    let h : c.args.list < c.self.inside.lists = omega (arith, c.requires.list, see.count) in
    let read : c.index-last.result.now ≡ get_or c.self.inside.prev.items c.args.list 0 =
    get_or_read _ c.args.list _ (omega (arith, h, c.self.invariant.long_prev)) c.index-last.ensures 0 in
    rw read ((tail_kept _ _ _ _ _ _ _ c.self.invariant c.self.view_is c.requires.list c.requires.node c.requires.free).1)
