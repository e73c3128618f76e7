use Rattle.std.proofs.Common.{◌≡◌, ◌<◌, ℕ, List, length, get_or, take, arith, subst, sym, refl, Option, Some, None}
use Rattle.std.specs.Prelude.{All}
use Rattle.std.proofs.lemmas.List.{length-map}
use Rattle.net_model.specs.declared.flow.Flow.{Flow}
use Rattle.net_model.specs.Networks.{NetFlow}
use Rattle.net_model.specs.Views.{flow_of, flows_of}
use Rattle.net_model.specs.net_graph.Waits.{lists_of, AreBefore, AddsSteps}
use Rattle.net_model.proofs.net_graph.FlowSteps.{path_in_range, stored_flow, dropped_flow, live_flow, flows_more}
use Rattle.net_model.proofs.net_graph.waits.servers_before.Goals as goal
use Rattle.net_model.proofs.net_graph.waits.servers_before.Goals.{in-Some+in_ok-add_path, in_default}

none_unless : {X : Type 0} (o : Option X) → ((x : X) → o ≡ Some x → ⊥) → o ≡ None
none_unless None h = refl
none_unless (Some x) h = absurd (h x refl)

pub add_path-requires : goal.add_path-requires
add_path-requires c =
    let fs = c.flows-flow-items.result.now in
    let P : Option Flow → Type 0 = λ x. x ≡ get_or fs c.loop-flow.flow-index x in
    let live = stored_flow c.args.net.now fs c.loop-flow.flow-index c.in-Some.f c.flows-flow-items.ensures.flows c.loop-flow-test.true (subst P c.in-Some.is c.flow-item.is) in
    let within = path_in_range c.args.net.now (flow_of c.in-Some.f) c.flows-flow-items.ensures.kept live in
    let count = length-map c.loop-flow.before.items (λ v. v.items) in
    let Q : List ℕ → Type 0 = λ xs. All (λ s. s < length c.loop-flow.before.items) xs in
    subst Q (sym c.deref.ensures.value) (λ k d h. omega (arith, within k d h, count, c.loop-flow.invariant.count))

pub loop-flow-preserved : goal.loop-flow-preserved
loop-flow-preserved c =
    let fs = c.flows-flow-items.result.now in
    let i = c.loop-flow.flow-index in
    let n = length c.args.net.now.servers in
    let P : Option Flow → Type 0 = λ x. x ≡ get_or fs i x in
    elim c.match-flow.branch [
      | in-Some+in_ok-add_path w ↦
          let split = flows_more fs i (Some w.in-Some.f) c.loop-flow-test.true (subst P w.in-Some.is c.flow-item.is) in
          let Q : List (Option NetFlow) → Type 0 = λ gs. AreBefore gs n (lists_of w.add_path.new.before.items) in
          let S : List ℕ → Type 0 = λ xs. AddsSteps (lists_of c.loop-flow.before.items) (lists_of w.add_path.new.before.items) xs in
          let adds = subst S w.deref.ensures.value w.in_ok-add_path.ensures in
          rw w.before-is (subst Q (sym split) (live_flow (flows_of (take i fs)) (flow_of w.in-Some.f) n (lists_of c.loop-flow.before.items) (lists_of w.add_path.new.before.items) c.loop-flow.invariant adds))
      | in_default w ↦
          let split = flows_more fs i None c.loop-flow-test.true (subst P (none_unless c.flow-item.result w.in_default.not-Some) c.flow-item.is) in
          let Q : List (Option NetFlow) → Type 0 = λ gs. AreBefore gs n (lists_of c.loop-flow.before.items) in
          rw w.before-is (subst Q (sym split) (dropped_flow (flows_of (take i fs)) n (lists_of c.loop-flow.before.items) c.loop-flow.invariant))
    ]
