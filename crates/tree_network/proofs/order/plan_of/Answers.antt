use Rattle.std.proofs.Common.{List, length, arith, subst, sym, ap, ◌∙◌}
use Rattle.tree_network.specs.declared.spots.Spot.{Spot}
use Rattle.tree_network.specs.Lists.{ports_in}
use Rattle.tree_network.specs.Spots.{AreSpots}
use Rattle.tree_network.proofs.FewSpots.{few_below}
use Rattle.tree_network.proofs.InRange.{in_range}
use Rattle.tree_network.proofs.order.plan_of.Goals as goal

pub by_source-requires-clause-few : goal.by_source-requires-clause-few
by_source-requires-clause-few c =
    let net = c.args.network.now in
    let most = few_below net (length net.links.items) c.requires (omega arith) in
    let same = ap length (c.deref.ensures.value ∙ c.in_ok-spots.ensures) in
    omega (arith, most, same, c.requires.few_links)

pub by_source-requires-clause-sources : goal.by_source-requires-clause-sources
by_source-requires-clause-sources c =
    let P : List Spot → Type 0 = λ xs. AreSpots c.args.network.now xs in
    let a = subst P (sym (c.deref.ensures.value ∙ c.in_ok-spots.ensures)) (in_range c.args.network.now c.requires) in
    λ n h. let lt = (a.each n h).source in omega (arith, lt, c.len-ports.ensures)

pub by_port-requires-clause-ports : goal.by_port-requires-clause-ports
by_port-requires-clause-ports c =
    let P : List Spot → Type 0 = λ xs. AreSpots c.args.network.now xs in
    let a = subst P (sym (c.deref-3.ensures.value ∙ c.in_ok-spots.ensures)) (in_range c.args.network.now c.requires) in
    λ n h. let lt = (a.each n h).port in omega (arith, lt, c.len-ports.ensures)

pub order_of-requires-clause-ports : goal.order_of-requires-clause-ports
order_of-requires-clause-ports c =
    let P : List Spot → Type 0 = λ xs. AreSpots c.args.network.now xs in
    let a = subst P (sym (c.deref-6.ensures.value ∙ c.in_ok-spots.ensures)) (in_range c.args.network.now c.requires) in
    λ n h. let lt = (a.each n h).port in omega (arith, lt, c.len-ports.ensures)

pub order_of-requires-clause-from : goal.order_of-requires-clause-from
order_of-requires-clause-from c =
    let P : List Spot → Type 0 = λ xs. AreSpots c.args.network.now xs in
    let a = subst P (sym (c.deref-6.ensures.value ∙ c.in_ok-spots.ensures)) (in_range c.args.network.now c.requires) in
    λ n h. let lt = (a.each n h).source in omega (arith, lt, c.len-ports.ensures)

pub by_port-requires-clause-own : goal.by_port-requires-clause-own
by_port-requires-clause-own c = c.deref-4.ensures.value ∙ c.in_ok-spot_ports.ensures ∙ ap ports_in (c.deref-2.ensures.value ∙ sym c.deref-3.ensures.value)

pub order_of-requires-clause-own : goal.order_of-requires-clause-own
order_of-requires-clause-own c = c.deref-7.ensures.value ∙ c.in_ok-spot_ports.ensures ∙ ap ports_in (c.deref-2.ensures.value ∙ sym c.deref-6.ensures.value)
