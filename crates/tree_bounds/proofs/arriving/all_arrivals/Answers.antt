use Rattle.std.proofs.Common.{[], ◌<◌, ℕ, List, length, sym, ◌∙◌, ap, subst, arith}
use Rattle.std.specs.List.{sum_by}
use Rattle.std.specs.Prelude.{All}
use Rattle.port_bounds.specs.declared.arrivals.Arrivals.{Arrivals}
use Rattle.port_bounds.specs.declared.stair_arrivals.StairArrivals.{StairArrivals}
use Rattle.tree_network.specs.Spots.{spots_of}
use Rattle.tree_bounds.specs.Bunches.{arriving_of_groups}
use Rattle.tree_bounds.specs.Coming.{IsComing}
use Rattle.tree_bounds.specs.Grouping.{AreInGroups}
use Rattle.tree_bounds.specs.Groups.{incoming_of_groups}
use Rattle.tree_bounds.specs.Onward.{stair_in}
use Rattle.tree_bounds.specs.Parts.{IsOfNetwork}
use Rattle.tree_bounds.specs.declared.groups.Group.{Group}
use Rattle.tree_bounds.proofs.Coming.{none_coming, one_coming}
use Rattle.tree_bounds.proofs.Grouped.{counts_are}
use Rattle.tree_bounds.proofs.arriving.all_arrivals.Goals as goal

pub loop-q-init : goal.loop-q-init
loop-q-init c =
    let net = c.args.network.now in
    let stair = λ (n : ℕ). stair_in c.args.stairs.now n in
    let A : List Arrivals → Type 0 = λ xs. IsComing net stair c.args.port 0 xs c.in_ok-all_stairs.all_stairs.items in
    let B : List StairArrivals → Type 0 = λ xs. IsComing net stair c.args.port 0 [] xs in
    subst A (sym c.in_ok-lines.ensures.items) (subst B (sym c.in_ok-all_stairs.ensures.items) (none_coming net stair c.args.port))

pub stair_arrivals-requires-clause-inside : goal.stair_arrivals-requires-clause-inside
stair_arrivals-requires-clause-inside c =
    let same = ap length c.requires.plan.spots in
    subst (λ (xs : List ℕ). All (λ n. n < length c.args.stairs.now) xs) (sym c.deref.ensures.value)
    (λ i d h. let lt = c.in_ok-found.ensures.inside i d h in omega (arith, lt, same, c.requires.stairs))

pub stair_arrivals-requires-clause-groups : goal.stair_arrivals-requires-clause-groups
stair_arrivals-requires-clause-groups c =
    subst (λ (gs : List Group). All (IsOfNetwork c.args.network.now) gs) (sym c.deref-in-loop-q.ensures.value) c.in_ok-found.ensures.of_network

pub stair_arrivals-requires-clause-count : goal.stair_arrivals-requires-clause-count
stair_arrivals-requires-clause-count c =
    let found = c.in_ok-found.found in
    ap (sum_by (λ (g : Group). g.count)) c.deref-in-loop-q.ensures.value
    ∙ counts_are (spots_of c.args.network.now) c.args.port c.loop-q.q found.groups.items found.numbers.items c.in_ok-found.ensures.in_groups
    ∙ ap length (sym c.deref.ensures.value)

pub stair_arrivals-requires-clause-lines : goal.stair_arrivals-requires-clause-lines
stair_arrivals-requires-clause-lines c =
    c.in_ok-found.ensures.lines_are ∙ ap (incoming_of_groups c.args.network.now) (sym c.deref-in-loop-q.ensures.value)

pub loop-q-preserved : goal.loop-q-preserved
loop-q-preserved c =
    let net = c.args.network.now in
    let q = c.loop-q.q in
    let stair = λ (n : ℕ). stair_in c.args.stairs.now n in
    let found = c.in_ok-found.found in
    let G : List Group → Type 0 = λ gs. AreInGroups (spots_of net) c.args.port q gs c.deref.result.now in
    let N : List ℕ → Type 0 = λ ns. AreInGroups (spots_of net) c.args.port q found.groups.items ns in
    let by_line = c.in_ok-found.ensures.lines_are ∙ ap (incoming_of_groups net) c.in_ok-found.ensures.groups_are in
    let by_stair = c.in_ok-come.ensures c.args.port q (subst G (sym c.deref-in-loop-q.ensures.value) (subst N (sym c.deref.ensures.value) c.in_ok-found.ensures.in_groups))
    ∙ ap (arriving_of_groups net (spots_of net) stair c.args.port q) (c.deref-in-loop-q.ensures.value ∙ c.in_ok-found.ensures.groups_are) in
    one_coming net stair c.args.port q c.loop-q.lines.items _ c.loop-q.all_stairs.items _ found.lines c.in_ok-come.come
    c.in_ok-push-2.ensures.items c.in_ok-push.ensures.items by_line by_stair c.loop-q.invariant
