use Rattle.std.proofs.Common.{◌≡◌, ◌<◌, length, get_or, arith, sym, subst}
use Rattle.std.proofs.lemmas.List.{get_or_read}
use Rattle.queue_sched.specs.index_links.Chains.{list_at, Has}
use Rattle.queue_sched.proofs.index_links.Stored.{seen, in_list}
use Rattle.queue_sched.proofs.index_links.links.Links.list_of.Goals as goal

pub returns-then-owner-self-clause-some : goal.returns-then-owner-self-clause-some
returns-then-owner-self-clause-some c =
    let see = seen _ _ _ _ _ c.self.invariant c.self.view_is in
    let node : c.args.node < length c.self.inside.owners.items = omega (arith, c.requires, see.nodes) in
    let read : c.index-owner.result.now ≡ get_or c.self.inside.owners.items c.args.node 0 = get_or_read _ c.args.node _ node c.index-owner.ensures 0 in
    let h : get_or c.self.inside.owners.items c.args.node 0 < c.self.inside.lists = omega (arith, read, c.if-owner-self.true) in
    subst (λ t. Has (list_at c.args.self.now t) c.args.node) (sym read)
    (subst (λ t. Has t c.args.node) (sym (see.here _ h)) (see.rings.owned c.args.node node h))

pub returns-else-owner-self-clause-none : goal.returns-else-owner-self-clause-none
returns-else-owner-self-clause-none c = λ l g.
    let see = seen _ _ _ _ _ c.self.invariant c.self.view_is in
    let node : c.args.node < length c.self.inside.owners.items = omega (arith, c.requires, see.nodes) in
    let read : c.index-owner.result.now ≡ get_or c.self.inside.owners.items c.args.node 0 = get_or_read _ c.args.node _ node c.index-owner.ensures 0 in
    let there = in_list see l c.args.node g in
    let own = (see.rings.known l c.args.node there.known there.has).1 in
    absurd (omega (arith, read, own, c.if-owner-self.false, there.known))
