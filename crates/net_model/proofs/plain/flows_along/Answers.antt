use Rattle.std.proofs.Common.{ap, sym, ◌∙◌, Some, None}
use Rattle.net_model.specs.Views.{flows_of}
use Rattle.net_model.proofs.PlainNets.{no_flow, none_along, some_along, stored_push}
use Rattle.net_model.proofs.plain.flows_along.Goals as goal
use Rattle.net_model.proofs.plain.flows_along.Goals.{then-is_empty+in_ok-push, else-is_empty+in_ok-flow_at+in_ok-push-2}

pub loop-number-init : goal.loop-number-init
loop-number-init c = ap flows_of c.in_ok-flows.ensures.items ∙ sym no_flow

pub loop-number-preserved : goal.loop-number-preserved
loop-number-preserved c =
    let number = c.loop-number.number in
    let paths = c.args.paths.now in
    elim c.if-is_empty.branch [
      | then-is_empty+in_ok-push w ↦ rw w.flows-is
          (stored_push c.loop-number.flows.items w.push.new.self.items paths number _ None c.loop-number-test.true w.in_ok-push.ensures.items c.loop-number.invariant
          (none_along number _ c.is_empty.result c.is_empty.ensures w.if-is_empty.true))
      | else-is_empty+in_ok-flow_at+in_ok-push-2 w ↦ rw w.flows-is
          (stored_push c.loop-number.flows.items w.push-else-is_empty.new.self.items paths number _ (Some w.in_ok-flow_at.field-0) c.loop-number-test.true
          w.in_ok-push-2.ensures.items c.loop-number.invariant
          (ap Some w.in_ok-flow_at.ensures ∙ some_along number _ c.is_empty.result c.is_empty.ensures w.if-is_empty.false))
    ]
