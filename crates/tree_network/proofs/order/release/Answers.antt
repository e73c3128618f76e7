use Rattle.std.proofs.Common.{◌≡◌, ◌+◌, ◌-◌, ℕ, List, get_or, set, arith, subst, sym, ◌∙◌}
use Rattle.std.proofs.lemmas.List.{get_or_default}
use Rattle.tree_network.specs.Lists.{number_at}
use Rattle.tree_network.proofs.Released.{Released, none_released, some_waits, one_released, last_released}
use Rattle.tree_network.proofs.order.release.Goals as goal
use Rattle.tree_network.proofs.order.release.Goals.{then-left-eq0+in_ok-push, else-left-eq0}

pub loop-n-init : goal.loop-n-init
loop-n-init c = none_released (number_at c.args.spot_ports.now) c.args.numbers.now c.args.waiting.now.items c.args.ready.now.items

pub overflow_sub-left : goal.overflow_sub-left
overflow_sub-left c =
    let numbers = c.args.numbers.now in
    let k = c.loop-n.n-index in
    let p = number_at c.args.spot_ports.now (get_or numbers k 0) in
    let inside = c.requires.ports (get_or numbers k 0) (c.requires.inside k 0 c.loop-n-test.true) in
    let value = c.index.ensures ∙ get_or_default c.loop-n.waiting.items p c.index.result.now 0 (omega (arith, inside, c.loop-n.invariant.count)) in
    let some = some_waits (number_at c.args.spot_ports.now) numbers k c.args.waiting.now.items c.loop-n.waiting.items c.args.ready.now.items c.loop-n.ready.items
    c.loop-n.invariant c.loop-n-test.true inside c.requires.waits in
    omega (arith, value, some)

pub loop-n-preserved : goal.loop-n-preserved
loop-n-preserved c =
    let port = number_at c.args.spot_ports.now in
    let numbers = c.args.numbers.now in
    let k = c.loop-n.n-index in
    let p = port (get_or numbers k 0) in
    let old = c.args.waiting.now.items in
    let waiting = c.loop-n.waiting.items in
    let v = c.index.result.now - 1 in
    let inside = c.requires.ports (get_or numbers k 0) (c.requires.inside k 0 c.loop-n-test.true) in
    let value = c.index.ensures ∙ get_or_default waiting p c.index.result.now 0 (omega (arith, inside, c.loop-n.invariant.count)) in
    let some = some_waits port numbers k old waiting c.args.ready.now.items c.loop-n.ready.items c.loop-n.invariant c.loop-n-test.true inside c.requires.waits in
    let is : v + 1 ≡ get_or waiting p 0 = omega (arith, value, some) in
    let P : List ℕ → Type 0 = λ xs. Released port numbers (k + 1) old (set waiting p v) c.args.ready.now.items xs in
    elim c.if-left-eq0.branch [
      | then-left-eq0+in_ok-push w ↦
          rw w.ready-is (subst P (sym w.in_ok-push.ensures.items)
          (last_released port numbers k v old waiting c.args.ready.now.items c.loop-n.ready.items c.loop-n.invariant c.loop-n-test.true inside is w.if-left-eq0.true))
      | else-left-eq0 w ↦
          rw w.ready-is (one_released port numbers k v old waiting c.args.ready.now.items c.loop-n.ready.items c.loop-n.invariant c.loop-n-test.true inside is w.if-left-eq0.false)
    ]
