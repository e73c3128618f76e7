use Rattle.std.proofs.Common.{ℕ, List, Option, [], ◌∷◌, length, arith, subst, sym, ap, length-append}
use Rattle.net_model.specs.net_graph.Waits.{lists_of}
use Rattle.net_model.specs.net_graph.Loops.{AreFirsts}
use Rattle.net_model.proofs.net_graph.LoopBacks.{one_first_more}
use Rattle.net_model.proofs.net_graph.cycle.firsts_awaited.Goals as goal

pub loop-server-preserved : goal.loop-server-preserved
loop-server-preserved c =
    let firsts = c.loop-server.firsts.items in
    let placed = c.args.is_placed.now in
    let lists = lists_of c.args.before.now in
    let more = c.in_ok-push.ensures.items in
    let P : List (Option ℕ) → Type 0 = λ fs. AreFirsts placed lists fs in
    record {
      count = let now = ap length more in let one = length-append firsts (c.first_awaited.result ∷ []) in omega (arith, now, one, c.loop-server.invariant.count);
      are = subst P (sym more)
          (one_first_more placed lists firsts c.loop-server.server c.first_awaited.result c.loop-server.invariant.count c.loop-server.invariant.are c.first_awaited.ensures);
    }
