use Rattle.std.proofs.Common.{List, ℕ, subst, sym, ◌∙◌, ap}
use Rattle.std.proofs.lemmas.Result.{IfOk-weaker}
use Rattle.tree_network.specs.Rings.{turned_round}
use Rattle.tree_network.specs.Turns.{IsLoopFrom}
use Rattle.tree_network.proofs.Endless.{free_endless}
use Rattle.tree_network.proofs.ring.ring_of.Goals as goal

pub returns : goal.returns
returns c =
    let spots = c.args.spots.now in
    let start = c.in-Some.start in
    let first = c.in-Some.ensures in
    let L : List ℕ → Type 0 = λ xs. IsLoopFrom spots start xs in
    let loop = subst L (sym c.deref.ensures.value) c.in_ok-ports-in-Some.ensures in
    IfOk-weaker c.turned.result _ _ (λ v same. record {
      start = start;
      endless = free_endless spots c.args.is_done.now c.requires.stuck start first.free;
      least = λ s unending. first.least s (c.requires.endless s unending);
      walk = loop.walk;
      place = loop.place;
      goes = loop.goes;
      is = same ∙ ap turned_round loop.is;
    }) c.turned.ensures
