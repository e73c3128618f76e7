use Rattle.std.proofs.Common.{◌∙◌, ℕ, List, Option, subst, sym, ap, length}
use Rattle.std.proofs.lemmas.Result.{IfOk-weaker}
use Rattle.net_model.specs.net_graph.Waits.{lists_of}
use Rattle.net_model.specs.net_graph.Loops.{AreFirsts}
use Rattle.net_model.proofs.net_graph.Turns.{placed_unless, ring_of_firsts, trap_of}
use Rattle.net_model.proofs.net_graph.cycle.cycle_of.Goals as goal

pub cycle_from-requires : goal.cycle_from-requires
cycle_from-requires c =
    let placed = c.args.is_placed.now in
    let lists = lists_of c.args.before.now in
    let firsts = c.deref.ensures.value in
    let P : List (Option ℕ) → Type 0 = λ fs. AreFirsts placed lists fs in
    trap_of lists placed c.deref.result.now c.in-Some.start (ap length firsts ∙ c.in_ok-firsts.ensures.0 ∙ c.requires.length)
    (subst P (sym firsts) c.in_ok-firsts.ensures.1) c.requires.busy c.in-Some.ensures.meets

pub unreachable-requires : goal.unreachable-requires
unreachable-requires c = c.requires.some (λ s h. placed_unless c.args.is_placed.now s h (c.in-None.ensures s))

pub returns : goal.returns
returns c =
    let placed = c.args.is_placed.now in
    let lists = lists_of c.args.before.now in
    let P : List (Option ℕ) → Type 0 = λ fs. AreFirsts placed lists fs in
    let are = subst P (sym c.deref.ensures.value) c.in_ok-firsts.ensures.1 in
    IfOk-weaker c.cycle_from.result _ _ (λ v r. ring_of_firsts placed lists c.deref.result.now c.in-Some.start v.items are c.in-Some.ensures r) c.cycle_from.ensures
