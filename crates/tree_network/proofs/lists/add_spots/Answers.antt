use Rattle.std.proofs.Common.{◌++◌, ◌∷◌, [], length, get_or, ap, sym, ◌∙◌, arith, length-set}
use Rattle.std.proofs.lemmas.List.{length-map}
use Rattle.tree_network.specs.Lists.{lists_of, list_at, number_at}
use Rattle.tree_network.proofs.Those.{port_added}
use Rattle.tree_network.proofs.lists.add_spots.Goals as goal

pub loop-n-preserved : goal.loop-n-preserved
loop-n-preserved c =
    let port = number_at c.args.spot_ports.now in
    let numbers = c.args.numbers.now in
    let k = c.loop-n.n-index in
    let n = get_or numbers k 0 in
    let p = port n in
    let old = lists_of c.loop-n.lists.items in
    let grown = c.in_ok-add_to.ensures in
    let old_count = length-map c.loop-n.lists.items (λ v. v.items) in
    let new_count = length-map c.add_to.new.lists.items (λ v. v.items) in
    let all = c.loop-n.invariant.count in
    let inside = c.requires.ports n (c.requires.inside k 0 c.loop-n-test.true) in
    record {
      count = sym new_count ∙ ap length grown ∙ length-set old p (list_at old p ++ n ∷ []) ∙ old_count ∙ all;
      added = λ s h.
          port_added port numbers k (lists_of c.args.lists.now.items) old (lists_of c.add_to.new.lists.items) c.loop-n-test.true
          (omega (arith, inside, old_count, all)) grown s (c.loop-n.invariant.added s h);
    }
