use Rattle.std.proofs.Common.{List, ℕ, filter, ◌∙◌, ap}
use Rattle.std.proofs.lemmas.List.{take_all}
use Rattle.tree_bounds.specs.Coming.{is_of_queue}
use Rattle.tree_bounds.proofs.Coming.{kept, left_out}
use Rattle.tree_bounds.proofs.arriving.of_queue.Goals as goal
use Rattle.tree_bounds.proofs.arriving.of_queue.Goals.{then-spots-n+in_ok-push, else-spots-n}

pub loop-n-preserved : goal.loop-n-preserved
loop-n-preserved c =
    let spots = c.args.spots.now in
    let numbers = c.args.numbers.now in
    elim c.if-spots-n.branch [
      | then-spots-n+in_ok-push w ↦
          rw w.found-is (kept spots c.args.q numbers c.loop-n.n-index c.loop-n.found.items _ c.loop-n-test.true w.if-spots-n.true c.loop-n.invariant w.in_ok-push.ensures.items)
      | else-spots-n w ↦ rw w.found-is (left_out spots c.args.q numbers c.loop-n.n-index c.loop-n.found.items c.loop-n-test.true w.if-spots-n.false c.loop-n.invariant)
    ]

pub returns : goal.returns
returns c = c.loop-n.invariant ∙ ap (λ (l : List ℕ). filter (is_of_queue c.args.spots.now c.args.q) l) (take_all c.loop-n.n-index c.args.numbers.now c.loop-n-test.false)
