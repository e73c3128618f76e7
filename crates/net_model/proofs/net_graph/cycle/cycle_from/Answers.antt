use Rattle.std.proofs.Common.{ℕ, List, subst, sym}
use Rattle.std.proofs.lemmas.Result.{IfOk-weaker}
use Rattle.net_model.specs.net_graph.Loops.{IsLoopBack}
use Rattle.net_model.proofs.net_graph.LoopBacks.{ring_of}
use Rattle.net_model.proofs.net_graph.cycle.cycle_from.Goals as goal

pub returns : goal.returns
returns c =
    let P : List ℕ → Type 0 = λ xs. IsLoopBack c.args.firsts.now c.args.start xs in
    let e = c.deref.ensures.value in
    let loop = subst P (sym e) c.in_ok-servers.ensures in
    IfOk-weaker c.from_least.result _ _ (λ v turned. ring_of c.args.firsts.now c.args.start c.deref.result.now v.items loop turned) c.from_least.ensures
