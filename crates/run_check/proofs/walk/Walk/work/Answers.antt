use Rattle.std.specs.Prelude.{Some, ◌≡◌, slice_get}
use Rattle.std.proofs.Common.{refl, sym, subst, arith}
use Rattle.std.proofs.lemmas.List.{with_items_is}
use Rattle.net_model.specs.NetRoutes.{routes_of}
use Rattle.run_check.specs.Sites.{WorkRoom}
use Rattle.run_check.proofs.WalkSteps.{keeps_some, changed_lists}
use Rattle.run_check.proofs.LeaveRows.{unknown}
use Rattle.run_check.proofs.WorkRows.{work_told_by, work_room}
use Rattle.run_check.proofs.walk.Walk.work.Goals as goal

pub work_row-requires-clause-some : goal.work_row-requires-clause-some
work_row-requires-clause-some c = λ x e.
    keeps_some (routes_of c.args.net.now) _ c.args.self.now c.requires c.args.server x (subst (λ xs. slice_get xs c.args.server ≡ Some x) c.deref_mut.ensures.value e)

pub work_row-requires-clause-room : goal.work_row-requires-clause-room
work_row-requires-clause-room c = λ x e.
    subst (λ f. WorkRoom x f c.args.piece.now) (sym c.fresh-fresh.ensures)
    (work_room (routes_of c.args.net.now) c.args.self.now c.args.server c.args.piece.now c.requires x (subst (λ xs. slice_get xs c.args.server ≡ Some x) c.deref_mut.ensures.value e))

pub returns : goal.returns
returns c = λ k.
    let w = c.args.self.now in
    work_told_by (routes_of c.args.net.now) w record { flows = w.flows; bits = w.bits; places = w.places; sites = Rattle.std.specs.Vec.with_items w.sites c.work_row.new.sites }
    c.args.server c.args.piece.now k c.args.end c.fresh-fresh.result c.pace_of-pace.result c.is_known-entered.result c.work_row.result c.fresh-fresh.ensures
    c.pace_of-pace.ensures
    c.is_known-entered.ensures.0 (λ e. unknown c.is_known-entered.result c.args.piece.now.packet _ c.is_known-entered.ensures e)
    (changed_lists c.work_row.ensures c.deref_mut.ensures.value (with_items_is w.sites c.work_row.new.sites (omega (arith, c.work_row.auto.sites, c.deref_mut.ensures.len))))
    refl refl refl
