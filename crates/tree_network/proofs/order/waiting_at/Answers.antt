use Rattle.std.proofs.Common.{arith, ◌∙◌, false, replicate}
use Rattle.std.proofs.lemmas.List.{get_or_default}
use Rattle.tree_network.specs.Spots.{spot_at}
use Rattle.tree_network.specs.Turns.{waits_at}
use Rattle.tree_network.proofs.Counted.{none_waits, one_waits, none_more}
use Rattle.tree_network.proofs.Those.{those_few}
use Rattle.tree_network.proofs.order.waiting_at.Goals as goal
use Rattle.tree_network.proofs.order.waiting_at.Goals.{then-spot-gt0, else-spot-gt0}

pub loop-spot-init : goal.loop-spot-init
loop-spot-init c = none_waits c.args.spots.now c.args.ports c.in_ok-waiting.waiting.items (c.in_ok-waiting.ensures.items_if_clones_equal (λ y e. e))

pub overflow_add-index_mut : goal.overflow_add-index_mut
overflow_add-index_mut c =
    let spots = c.args.spots.now in
    let n = c.loop-spot.spot-index in
    let inside = c.requires n c.loop-spot-test.true in
    let w = c.loop-spot.invariant in
    let value = c.index_mut.ensures.value ∙ get_or_default c.loop-spot.waiting.items (spot_at spots n).port c.index_mut.result.now 0 (omega (arith, inside, w.count)) in
    let few = those_few (waits_at spots (replicate c.args.ports false) (spot_at spots n).port) n in
    let counted = w.each (spot_at spots n).port inside in
    omega (arith, value, few, counted)

pub loop-spot-preserved : goal.loop-spot-preserved
loop-spot-preserved c =
    let spots = c.args.spots.now in
    let n = c.loop-spot.spot-index in
    let inside = c.requires n c.loop-spot-test.true in
    let w = c.loop-spot.invariant in
    elim c.if-spot-gt0.branch [
      | then-spot-gt0 b ↦
          let value = b.index_mut.ensures.value ∙ get_or_default c.loop-spot.waiting.items (spot_at spots n).port b.index_mut.result.now 0 (omega (arith, inside, w.count)) in
          rw b.waiting-is (one_waits spots c.args.ports n c.loop-spot.waiting.items b.index_mut.result.now inside b.if-spot-gt0.true value w)
      | else-spot-gt0 b ↦ rw b.waiting-is (none_more spots c.args.ports n c.loop-spot.waiting.items b.if-spot-gt0.false w)
    ]
