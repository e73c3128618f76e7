use Rattle.std.proofs.Common.{◌+◌, ℕ, List, subst, sym}
use Rattle.tree_network.proofs.Ready.{ReadyBelow, ready_yes, ready_no}
use Rattle.tree_network.proofs.order.idle_ports.Goals as goal
use Rattle.tree_network.proofs.order.idle_ports.Goals.{then-waiting-port-eq0+in_ok-push, else-waiting-port-eq0}

pub loop-port-preserved : goal.loop-port-preserved
loop-port-preserved c =
    let P : List ℕ → Type 0 = λ xs. ReadyBelow c.args.waiting.now (c.loop-port.port + 1) xs in
    elim c.if-waiting-port-eq0.branch [
      | then-waiting-port-eq0+in_ok-push w ↦
          rw w.ready-is (subst P (sym w.in_ok-push.ensures.items) (ready_yes c.args.waiting.now c.loop-port.port c.loop-port.ready.items w.if-waiting-port-eq0.true c.loop-port.invariant))
      | else-waiting-port-eq0 w ↦ rw w.ready-is (ready_no c.args.waiting.now c.loop-port.port c.loop-port.ready.items w.if-waiting-port-eq0.false c.loop-port.invariant)
    ]
