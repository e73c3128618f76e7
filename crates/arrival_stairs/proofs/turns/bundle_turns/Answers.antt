use Rattle.std.proofs.Common.{arith, sym, subst, refl, List}
use Rattle.arrival_stairs.specs.Jumps.{AreInTime, AreJumps}
use Rattle.arrival_stairs.specs.declared.jumps.Jump.{Jump}
use Rattle.arrival_stairs.proofs.Course.{course_below, course_ends, first_course, next_course, next_small, same_turn}
use Rattle.arrival_stairs.proofs.Risen.{bundle_rises}
use Rattle.arrival_stairs.proofs.turns.bundle_turns.Goals as goal

pub level_of-level-requires-clause-small : goal.level_of-level-requires-clause-small
level_of-level-requires-clause-small c =
    let h = bundle_rises c.args.bundle.now c.args.end c.requires.stairs in
    let l = c.requires.level in
    omega (arith, h, l)

pub line_at-line-requires-clause-level : goal.line_at-line-requires-clause-level
line_at-line-requires-clause-level c =
    let h = bundle_rises c.args.bundle.now c.args.end c.requires.stairs in
    let l = c.requires.level in
    let e = c.level_of-level.ensures in
    omega (arith, h, l, e)

pub loop-jump-init : goal.loop-jump-init
loop-jump-init c =
    let h = bundle_rises c.args.bundle.now c.args.end c.requires.stairs in
    let l = c.requires.level in
    first_course c.args.bundle.now c.deref-jump-items.result.now c.args.end c.level_of-level.result c.args.turns.now.items c.push.new.self.items c.line_at-line.result
    c.level_of-level.ensures (omega (arith, h, l)) c.requires.pace c.line_at-line.ensures
    (same_turn c.push.new.self.items c.args.turns.now.items _ _ _ _ c.line_at-line.result c.at_picosecond.ensures c.flat.ensures c.in_ok-push.ensures.items)

pub settle-requires : goal.settle-requires
settle-requires c =
    course_below c.args.bundle.now c.deref-jump-items.result.now c.args.end c.loop-jump.jump-index c.loop-jump.level c.args.turns.now.items c.loop-jump.turns.items c.loop-jump.line c.loop-jump.invariant

pub settle-requires-2 : goal.settle-requires-2
settle-requires-2 c =
    course_below c.args.bundle.now c.deref-jump-items.result.now c.args.end c.loop-jump.jump-index c.loop-jump.level c.args.turns.now.items c.loop-jump.turns.items c.loop-jump.line c.loop-jump.invariant

pub overflow_add-level : goal.overflow_add-level
overflow_add-level c =
    let h = next_small c.args.bundle.now _ c.deref-jump-items.result.now c.args.end c.loop-jump.jump-index c.loop-jump.level c.args.turns.now.items c.loop-jump.turns.items c.loop-jump.line
    c.deref-jump-items.ensures.value c.in_ok-jumps.ensures.all c.in_ok-jumps.ensures.order c.loop-jump-test.true c.loop-jump.invariant c.requires.level in
    omega (arith, h)

pub line_at-line-requires-in-loop-jump-clause-level : goal.line_at-line-requires-in-loop-jump-clause-level
line_at-line-requires-in-loop-jump-clause-level c =
    next_small c.args.bundle.now _ c.deref-jump-items.result.now c.args.end c.loop-jump.jump-index c.loop-jump.level c.args.turns.now.items c.loop-jump.turns.items c.loop-jump.line
    c.deref-jump-items.ensures.value c.in_ok-jumps.ensures.all c.in_ok-jumps.ensures.order c.loop-jump-test.true c.loop-jump.invariant c.requires.level

pub loop-jump-preserved : goal.loop-jump-preserved
loop-jump-preserved c =
    let items = c.deref-jump-items.result.now in
    let all = subst (λ (js : List Jump). AreJumps c.args.bundle.now c.args.end js) (sym c.deref-jump-items.ensures.value) c.in_ok-jumps.ensures.all in
    let order = subst (λ (js : List Jump). AreInTime js) (sym c.deref-jump-items.ensures.value) c.in_ok-jumps.ensures.order in
    next_course c.args.bundle.now items c.args.end c.loop-jump.jump-index c.loop-jump.level c.args.turns.now.items c.loop-jump.turns.items c.loop-jump.line all order
    c.loop-jump-test.true c.loop-jump.invariant c.settle.new.turns.items c.push-in-loop-jump.new.self.items c.in_ok-off.off c.line_at-line-in-loop-jump.result
    c.requires.level c.requires.pace c.requires.end c.in_ok-off.ensures c.line_at-line-in-loop-jump.ensures
    (same_turn c.push-in-loop-jump.new.self.items c.settle.new.turns.items _ _ c.in_ok-off.off _ c.line_at-line-in-loop-jump.result c.at_picosecond-in-loop-jump.ensures refl c.in_ok-push-2.ensures.items)

pub returns : goal.returns
returns c =
    let items = c.deref-jump-items.result.now in
    let all = subst (λ (js : List Jump). AreJumps c.args.bundle.now c.args.end js) (sym c.deref-jump-items.ensures.value) c.in_ok-jumps.ensures.all in
    course_ends c.args.bundle.now items c.args.end c.loop-jump.jump-index c.loop-jump.level c.args.turns.now.items c.loop-jump.turns.items c.loop-jump.line all
    c.loop-jump-test.false c.loop-jump.invariant c.settle-2.new.turns.items _ c.requires.level c.requires.pace c.in_ok-settle.ensures
