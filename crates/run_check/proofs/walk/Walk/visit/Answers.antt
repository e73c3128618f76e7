use Rattle.std.specs.Prelude.{Some, ◌≡◌, slice_get}
use Rattle.std.proofs.Common.{refl, subst, arith}
use Rattle.std.proofs.lemmas.List.{with_items_is}
use Rattle.run_check.proofs.WalkSteps.{keeps_some, visit_told, changed_lists}
use Rattle.run_check.proofs.walk.Walk.visit.Goals as goal

pub visit_row-requires-clause-some : goal.visit_row-requires-clause-some
visit_row-requires-clause-some c = λ x e. keeps_some c.requires.0 _ c.args.self.now c.requires.1 c.args.server x (subst (λ xs. slice_get xs c.args.server ≡ Some x) c.deref_mut.ensures.value e)

pub returns : goal.returns
returns c = λ net k.
    let w = c.args.self.now in
    visit_told net w _ c.args.server c.args.queue c.args.time k c.args.end c.visit_row.result
    (changed_lists c.visit_row.ensures c.deref_mut.ensures.value (with_items_is w.sites c.visit_row.new.sites (omega (arith, c.visit_row.auto.sites, c.deref_mut.ensures.len))))
    refl refl refl
