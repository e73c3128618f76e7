use Rattle.std.proofs.Common.{◌<◌, ◌+◌, ℕ, List, length, sym, ◌∙◌, ap, subst, arith}
use Rattle.std.specs.Prelude.{All}
use Rattle.tree_network.specs.Spots.{spots_of}
use Rattle.tree_network.proofs.InRange.{in_range}
use Rattle.tree_network.proofs.Those.{port_pass}
use Rattle.tree_bounds.specs.Groups.{incoming_of_groups}
use Rattle.tree_bounds.specs.Lines.{line_of}
use Rattle.tree_bounds.specs.Onward.{stair_in}
use Rattle.tree_bounds.specs.Parts.{IsOfNetwork}
use Rattle.tree_bounds.specs.declared.groups.Group.{Group}
use Rattle.tree_bounds.proofs.Coming.{are_in_groups, at_port, queue_groups, queue_spots}
use Rattle.tree_bounds.proofs.Grouped.{queue_pass}
use Rattle.tree_bounds.proofs.Ranged.{of_network}
use Rattle.tree_bounds.proofs.arriving.grouped_at.Goals as goal

pub of_queue-requires : goal.of_queue-requires
of_queue-requires c =
    let net = c.args.network.now in
    let plan = c.args.plan.now in
    let at = at_port net plan c.args.port c.index.result.now c.deref-2.result.now c.requires.plan c.requires.port c.index.ensures c.deref-2.ensures.value in
    let Q : ℕ → Type 0 = λ n. n < length c.deref.result.now in
    let P : List ℕ → Type 0 = λ xs. All Q xs in
    let same = ap length (c.deref.ensures.value ∙ c.requires.plan.spots) in
    subst P (sym at) (port_pass Q (spots_of net) c.args.port (length net.ports.items + 1) (λ n h e. omega (arith, h, same)))

pub groups_of-requires-clause-inside : goal.groups_of-requires-clause-inside
groups_of-requires-clause-inside c =
    let net = c.args.network.now in
    let plan = c.args.plan.now in
    let q = c.args.q in
    let found = queue_spots net plan c.args.port q c.deref.result.now c.index.result.now c.deref-2.result.now c.in_ok-numbers.numbers.items c.requires.plan c.requires.port
    c.index.ensures c.deref-2.ensures.value c.deref.ensures.value c.in_ok-numbers.ensures in
    let Q : ℕ → Type 0 = λ n. n < length c.deref-3.result.now in
    let P : List ℕ → Type 0 = λ xs. All Q xs in
    let same = ap length (c.deref-3.ensures.value ∙ c.requires.plan.spots) in
    subst P (sym (c.deref-4.ensures.value ∙ found)) (queue_pass Q (spots_of net) c.args.port q (length net.ports.items + 1) (λ n h. omega (arith, h, same)))

pub groups_of-requires-clause-stairs : goal.groups_of-requires-clause-stairs
groups_of-requires-clause-stairs c = let same = ap length c.deref-3.ensures.value in omega (arith, same, c.requires.stairs)

pub arrivals-requires : goal.arrivals-requires
arrivals-requires c =
    let net = c.args.network.now in
    let plan = c.args.plan.now in
    let q = c.args.q in
    let stair = λ (n : ℕ). stair_in c.args.stairs.now n in
    let are = queue_groups net plan stair c.args.port q c.deref.result.now c.index.result.now c.deref-2.result.now c.in_ok-numbers.numbers.items
    c.deref-3.result.now c.deref-4.result.now c.in_ok-groups.groups.items c.requires.plan c.requires.port
    c.index.ensures c.deref-2.ensures.value c.deref.ensures.value c.in_ok-numbers.ensures c.deref-3.ensures.value c.deref-4.ensures.value c.in_ok-groups.ensures in
    let P : List Group → Type 0 = λ gs. All (IsOfNetwork net) gs in
    subst P (sym (c.deref-5.ensures.value ∙ are))
    (of_network net (spots_of net) (λ n. line_of (stair n)) c.args.port q (length net.ports.items + 1) (in_range net c.requires.network) (omega arith))

pub returns : goal.returns
returns c =
    let net = c.args.network.now in
    let plan = c.args.plan.now in
    let q = c.args.q in
    let stair = λ (n : ℕ). stair_in c.args.stairs.now n in
    let found = queue_spots net plan c.args.port q c.deref.result.now c.index.result.now c.deref-2.result.now c.in_ok-numbers.numbers.items c.requires.plan c.requires.port
    c.index.ensures c.deref-2.ensures.value c.deref.ensures.value c.in_ok-numbers.ensures in
    let are = queue_groups net plan stair c.args.port q c.deref.result.now c.index.result.now c.deref-2.result.now c.in_ok-numbers.numbers.items
    c.deref-3.result.now c.deref-4.result.now c.in_ok-groups.groups.items c.requires.plan c.requires.port
    c.index.ensures c.deref-2.ensures.value c.deref.ensures.value c.in_ok-numbers.ensures c.deref-3.ensures.value c.deref-4.ensures.value c.in_ok-groups.ensures in
    record {
      inside = subst (λ (xs : List ℕ). All (λ n. n < length (spots_of net)) xs) (sym found) (queue_pass (λ n. n < length (spots_of net)) (spots_of net) c.args.port q (length net.ports.items + 1) (λ n h. h));
      groups_are = are;
      of_network = subst (λ (gs : List Group). All (IsOfNetwork net) gs) (sym are)
          (of_network net (spots_of net) (λ n. line_of (stair n)) c.args.port q (length net.ports.items + 1) (in_range net c.requires.network) (omega arith));
      in_groups = are_in_groups net (λ n. line_of (stair n)) c.args.port q c.in_ok-groups.groups.items c.in_ok-numbers.numbers.items are found;
      lines_are = c.in_ok-lines.ensures ∙ ap (incoming_of_groups net) c.deref-5.ensures.value;
    }
