use Rattle.std.proofs.Common.{refl, subst}
use Rattle.std.specs.List.{Any, All}
use Rattle.run_packets.specs.Places.{IsLate}
use Rattle.run_packets.specs.Works.{is_worked_off}
use Rattle.run_check.proofs.AtEnd.{late_unfinished, unfinished_test}
use Rattle.run_check.proofs.walk.Walk.is_unfinished.Goals as goal

pub returns-then-some_late : goal.returns-then-some_late
returns-then-some_late c = λ net room grid most before r h. (
  λ t. late_unfinished net room grid most before r c.args.self.now c.args.end h (subst (Any (IsLate c.args.end)) c.deref.ensures.value (c.some_late.ensures.late c.if-some_late.true)),
  λ t. refl,
)

pub returns : goal.returns
returns c = λ net room grid most before r h.
    unfinished_test net room grid most before r c.args.self.now c.args.end c.some_complete.result h
    (subst (All (λ x. ¬ IsLate c.args.end x)) c.deref.ensures.value (c.some_late.ensures.none c.if-some_late.false))
    (λ e. subst (Any (λ x. is_worked_off x.under)) c.deref-2.ensures.value (c.some_complete.ensures.complete e))
    (λ e. subst (All (λ x. ¬ is_worked_off x.under)) c.deref-2.ensures.value (c.some_complete.ensures.none e))
