use Rattle.std.proofs.Common.{◌≡◌, ℕ, ◌<◌, ◌==◌, ◌++◌, List, [], length, filter, sym, ◌∙◌, subst, ap, arith}
use Rattle.std.specs.Prelude.{All}
use Rattle.std.proofs.lemmas.List.{length-replicate, get_or-replicate, length-map}
use Rattle.tree_network.specs.Lists.{lists_of, list_at, those, is_from, spots_at_port, AreByPort}
use Rattle.tree_network.specs.Spots.{spot_at}
use Rattle.tree_network.specs.declared.spots.Spot.{Spot}
use Rattle.tree_network.proofs.SpotLists.{port_by}
use Rattle.tree_network.proofs.Those.{port_none, port_more, those_pass, those_filter, from_source}
use Rattle.tree_network.proofs.lists.by_port.Goals as goal

pub loop-numbers-init : goal.loop-numbers-init
loop-numbers-init c =
    let P : List (List ℕ) → Type 0 = λ ls. AreByPort c.args.spots.now c.args.ports 0 ls in
    subst P (sym c.in_ok-lists.ensures) record {
      count = length-replicate c.args.ports [];
      each = λ s h. get_or-replicate c.args.ports s [] [] h ∙ sym (port_none c.args.spots.now s);
    }

its_list : (c : goal.After-deref) → c.deref.result.now ≡ those (is_from c.args.spots.now c.loop-numbers.numbers-index) (length c.args.spots.now)
its_list c =
    from_source c.args.spots.now (length c.args.sources.now) c.loop-numbers.numbers-index c.args.sources.now c.numbers-item.result c.deref.result.now
    c.requires.sources c.loop-numbers-test.true c.numbers-item.is c.deref.ensures.value

pub add_spots-requires-clause-inside : goal.add_spots-requires-clause-inside
add_spots-requires-clause-inside c =
    let P : List ℕ → Type 0 = λ xs. All (λ n. n < length c.args.spot_ports.now) xs in
    let few = ap length c.requires.own ∙ length-map c.args.spots.now (λ (s : Spot). s.port) in
    subst P (sym (its_list c)) (those_pass (λ n. n < length c.args.spot_ports.now) (is_from c.args.spots.now c.loop-numbers.numbers-index) (length c.args.spots.now) (λ k h e. omega (arith, few, h)))

pub add_spots-requires-clause-ports : goal.add_spots-requires-clause-ports
add_spots-requires-clause-ports c = λ n h.
    let count = length-map c.loop-numbers.lists.items (λ v. v.items) in
    let few = ap length c.requires.own ∙ length-map c.args.spots.now (λ (s : Spot). s.port) in
    let own = port_by c.args.spots.now c.args.spot_ports.now c.requires.own n in
    let inside = c.requires.ports n (omega (arith, few, h)) in
    omega (arith, count, own, inside, c.loop-numbers.invariant.count)

pub loop-numbers-preserved : goal.loop-numbers-preserved
loop-numbers-preserved c =
    let spots = c.args.spots.now in
    let own = port_by spots c.args.spot_ports.now c.requires.own in
    let k = c.loop-numbers.numbers-index in
    let old = length-map c.loop-numbers.lists.items (λ v. v.items) in
    let new = length-map c.add_spots.new.lists.items (λ v. v.items) in
    let list = from_source spots (length c.args.sources.now) k c.args.sources.now c.numbers-item.result c.deref.result.now
    c.requires.sources c.loop-numbers-test.true c.numbers-item.is c.deref.ensures.value in
    record {
      count = omega (arith, old, new, c.in_ok-add_spots.ensures.count, c.loop-numbers.invariant.count);
      each = λ s h.
          c.in_ok-add_spots.ensures.added s (omega (arith, old, h, c.loop-numbers.invariant.count))
          ∙ (λ i. list_at (lists_of c.loop-numbers.lists.items) s ++ filter (λ n. own n i == s) c.deref.result.now)
          ∙ ap (λ l. l ++ filter (λ n. (spot_at spots n).port == s) c.deref.result.now) (c.loop-numbers.invariant.each s h)
          ∙ ap (λ l. spots_at_port spots s k ++ filter (λ n. (spot_at spots n).port == s) l) list
          ∙ ap (λ l. spots_at_port spots s k ++ l) (those_filter (is_from spots k) (λ n. (spot_at spots n).port == s) (length spots))
          ∙ sym (port_more spots s k);
    }
