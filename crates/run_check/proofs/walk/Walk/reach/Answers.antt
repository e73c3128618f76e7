use Rattle.std.specs.Prelude.{Some, ◌≡◌, slice_get}
use Rattle.std.proofs.Common.{ap, ◌∙◌, subst, arith}
use Rattle.std.proofs.lemmas.List.{with_items_is}
use Rattle.net_model.specs.NetRoutes.{routes_of}
use Rattle.run_laws.specs.Routes.{queue_at, route_of}
use Rattle.run_check.proofs.WalkSteps.{changed_lists}
use Rattle.run_check.proofs.LeaveRows.{flows_long, bits_long, unknown}
use Rattle.run_check.proofs.SiteSteps.{untrue}
use Rattle.run_check.proofs.ReachRows.{is_out, not_out, reach_early, reach_unknown, reach_not_due, reach_takes, reach_told}
use Rattle.run_check.proofs.walk.Walk.reach.Goals as goal

pub returns-then-is_out_at : goal.returns-then-is_out_at
returns-then-is_out_at c = λ k.
    reach_early (routes_of c.args.net.now) c.args.self.now c.args.self.now c.args.at.now.server c.args.at.now.packet c.args.at.now.time k c.args.end
    (is_out (routes_of c.args.net.now) _ c.args.self.now k c.args.at.now.server c.args.end c.args.at.now.time c.is_out_at.result c.deref.ensures.value k.recorded c.is_out_at.ensures c.if-is_out_at.true)

pub returns-then-not-is_known : goal.returns-then-not-is_known
returns-then-not-is_known c = λ k.
    let far = unknown c.is_known.result c.args.at.now.packet _ c.is_known.ensures c.if-not-is_known.true in
    let a = flows_long (routes_of c.args.net.now) k.room k.grid k.most k.before k.state c.args.self.now k.keeps in
    let b = k.keeps.tracked.long in
    reach_unknown (routes_of c.args.net.now) c.args.self.now c.args.self.now c.args.at.now.server c.args.at.now.packet c.args.at.now.time k c.args.end
    (not_out (routes_of c.args.net.now) _ c.args.self.now k c.args.at.now.server c.args.end c.args.at.now.time c.is_out_at.result c.deref.ensures.value k.recorded c.is_out_at.ensures c.if-is_out_at.false)
    (omega (arith, far, a, b))

pub is_due-requires : goal.is_due-requires
is_due-requires c =
    let k = c.requires in
    let l = c.is_known.ensures.0 c.if-not-is_known.false in
    let a = flows_long (routes_of c.args.net.now) k.room k.grid k.most k.before k.state c.args.self.now k.keeps in
    let b = k.keeps.tracked.long in
    omega (arith, l, a, b)

pub returns-then-not-is_due : goal.returns-then-not-is_due
returns-then-not-is_due c = λ k.
    let l = c.is_known.ensures.0 c.if-not-is_known.false in
    let a = flows_long (routes_of c.args.net.now) k.room k.grid k.most k.before k.state c.args.self.now k.keeps in
    let b = k.keeps.tracked.long in
    reach_not_due (routes_of c.args.net.now) c.args.self.now c.args.self.now c.args.at.now.server c.args.at.now.packet c.args.at.now.time k c.args.end
    (not_out (routes_of c.args.net.now) _ c.args.self.now k c.args.at.now.server c.args.end c.args.at.now.time c.is_out_at.result c.deref.ensures.value k.recorded c.is_out_at.ensures c.if-is_out_at.false)
    (omega (arith, l, a, b)) (λ e. untrue c.is_due.result (c.is_due.ensures.1 e) c.if-not-is_due.true)

pub bits_of-bits-requires : goal.bits_of-bits-requires
bits_of-bits-requires c =
    let k = c.requires in
    let l = c.is_known.ensures.0 c.if-not-is_known.false in
    let a = flows_long (routes_of c.args.net.now) k.room k.grid k.most k.before k.state c.args.self.now k.keeps in
    let b = bits_long (routes_of c.args.net.now) k.room k.grid k.most k.before k.state c.args.self.now k.keeps in
    omega (arith, l, a, b)

pub arrive_row-requires-clause-take : goal.arrive_row-requires-clause-take
arrive_row-requires-clause-take c = λ x e.
    let net = routes_of c.args.net.now in
    let w = c.args.self.now in
    let k = c.requires in
    let l = c.is_known.ensures.0 c.if-not-is_known.false in
    let a = flows_long net k.room k.grid k.most k.before k.state w k.keeps in
    let b = k.keeps.tracked.long in
    reach_takes net w c.args.at.now.server c.args.at.now.packet c.args.at.now.time k c.args.end c.queue_of-queue.result
    (not_out net _ w k c.args.at.now.server c.args.end c.args.at.now.time c.is_out_at.result c.deref.ensures.value k.recorded c.is_out_at.ensures c.if-is_out_at.false)
    (omega (arith, l, a, b)) (c.is_due.ensures.0 c.if-not-is_due.false) (c.queue_of-queue.ensures ∙ ap (λ f. queue_at c.args.at.now.server (route_of net f).hops) c.flow_of.ensures)
    x (subst (λ xs. slice_get xs c.args.at.now.server ≡ Some x) (c.deref_mut.ensures.value ∙ c.settle.ensures.sites) e)

pub returns : goal.returns
returns c = λ k.
    let net = routes_of c.args.net.now in
    let w = c.args.self.now in
    let v = c.settle.new.self in
    let l = c.is_known.ensures.0 c.if-not-is_known.false in
    let a = flows_long net k.room k.grid k.most k.before k.state w k.keeps in
    let b = k.keeps.tracked.long in
    reach_told net w record { flows = v.flows; bits = v.bits; places = v.places; sites = Rattle.std.specs.Vec.with_items v.sites c.arrive_row.new.sites }
    c.args.at.now.server c.args.at.now.packet c.args.at.now.time k c.args.end c.queue_of-queue.result c.bits_of-bits.result
    (not_out net _ w k c.args.at.now.server c.args.end c.args.at.now.time c.is_out_at.result c.deref.ensures.value k.recorded c.is_out_at.ensures c.if-is_out_at.false)
    (omega (arith, l, a, b)) (c.is_due.ensures.0 c.if-not-is_due.false) (c.queue_of-queue.ensures ∙ ap (λ f. queue_at c.args.at.now.server (route_of net f).hops) c.flow_of.ensures)
    c.bits_of-bits.ensures
    (changed_lists c.arrive_row.ensures (c.deref_mut.ensures.value ∙ c.settle.ensures.sites) (with_items_is v.sites c.arrive_row.new.sites (omega (arith, c.arrive_row.auto.sites, c.deref_mut.ensures.len))))
    c.settle.ensures.places c.settle.ensures.flows c.settle.ensures.bits
