use Rattle.std.specs.Prelude.{Some, ◌≡◌, slice_get}
use Rattle.std.proofs.Common.{refl, ◌∙◌, subst, arith}
use Rattle.std.proofs.lemmas.List.{with_items_is}
use Rattle.net_model.specs.NetRoutes.{routes_of}
use Rattle.run_check.specs.Rows.{ChangesAt, Left}
use Rattle.run_check.proofs.WalkSteps.{keeps_some, changed_lists}
use Rattle.run_check.proofs.LeaveRows.{flows_long, leave_refused, leave_told, gone_known, unknown}
use Rattle.run_check.proofs.walk.Walk.leave.Goals as goal

pub leave_row-requires-clause-some : goal.leave_row-requires-clause-some
leave_row-requires-clause-some c = λ x e.
    keeps_some (routes_of c.args.net.now) _ c.args.self.now c.requires c.args.at.now.server x (subst (λ xs. slice_get xs c.args.at.now.server ≡ Some x) c.deref_mut.ensures.value e)

pub returns-in-Some : goal.returns-in-Some
returns-in-Some c = λ k.
    leave_refused (routes_of c.args.net.now) c.args.self.now c.args.self.now c.args.at.now.server c.args.at.now.packet c.args.at.now.time k c.args.end c.is_known-known.result c.in-Some.law
    c.is_known-known.ensures.0 (λ e. unknown c.is_known-known.result c.args.at.now.packet _ c.is_known-known.ensures e)
    (changed_lists (subst (λ o. ChangesAt (Left c.args.end c.is_known-known.result c.args.at.now.packet c.args.at.now.time o) c.deref_mut.result.now c.leave_row.new.sites c.args.at.now.server) c.in-Some.is c.leave_row.ensures)
    c.deref_mut.ensures.value refl)

pub send-requires-clause-flow : goal.send-requires-clause-flow
send-requires-clause-flow c =
    let row = changed_lists (subst (λ o. ChangesAt (Left c.args.end c.is_known-known.result c.args.at.now.packet c.args.at.now.time o) c.deref_mut.result.now c.leave_row.new.sites c.args.at.now.server) c.in-None.is c.leave_row.ensures)
    c.deref_mut.ensures.value refl in
    c.is_known-known.ensures.0 (gone_known (routes_of c.args.net.now) c.args.self.now c.args.at.now.server c.args.at.now.packet c.args.at.now.time c.requires c.args.end c.is_known-known.result row)

pub send-requires-clause-place : goal.send-requires-clause-place
send-requires-clause-place c =
    let row = changed_lists (subst (λ o. ChangesAt (Left c.args.end c.is_known-known.result c.args.at.now.packet c.args.at.now.time o) c.deref_mut.result.now c.leave_row.new.sites c.args.at.now.server) c.in-None.is c.leave_row.ensures)
    c.deref_mut.ensures.value refl in
    let l = c.is_known-known.ensures.0 (gone_known (routes_of c.args.net.now) c.args.self.now c.args.at.now.server c.args.at.now.packet c.args.at.now.time c.requires c.args.end c.is_known-known.result row) in
    let a = flows_long (routes_of c.args.net.now) _ _ _ _ _ c.args.self.now c.requires.keeps in
    let b = c.requires.keeps.tracked.long in
    omega (arith, l, a, b)

pub returns-in-None : goal.returns-in-None
returns-in-None c = λ k.
    let w = c.args.self.now in
    leave_told (routes_of c.args.net.now) w c.send.new.self c.args.at.now.server c.args.at.now.packet c.args.at.now.time k c.args.end c.is_known-known.result c.is_known-known.ensures.0
    (changed_lists (subst (λ o. ChangesAt (Left c.args.end c.is_known-known.result c.args.at.now.packet c.args.at.now.time o) c.deref_mut.result.now c.leave_row.new.sites c.args.at.now.server) c.in-None.is c.leave_row.ensures)
    c.deref_mut.ensures.value (c.send.ensures.sites ∙ with_items_is w.sites c.leave_row.new.sites (omega (arith, c.leave_row.auto.sites, c.deref_mut.ensures.len))))
    c.send.ensures.places c.send.ensures.flows c.send.ensures.bits
