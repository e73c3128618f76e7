use Rattle.std.proofs.Common.{◌≡◌, ◌<◌, ◌+◌, ℕ, List, Bool, true, length, get_or, set, arith, subst, sym, ◌∙◌, ap}
use Rattle.std.specs.Prelude.{All, ◌++◌}
use Rattle.std.proofs.lemmas.List.{length-map}
use Rattle.tree_network.specs.Lists.{lists_of, number_at, those, is_from, AreByPort}
use Rattle.tree_network.specs.Spots.{spot_at}
use Rattle.tree_network.specs.Turns.{IsFree, AreReady, AreStuck, AreEndless, count_at, count_of}
use Rattle.tree_network.specs.declared.spots.Spot.{Spot}
use Rattle.tree_network.proofs.SpotLists.{port_by}
use Rattle.tree_network.proofs.Those.{those_pass, from_source}
use Rattle.tree_network.proofs.Turned.{Ordered, none_ordered, none_ready, take_last, next_ordered, all_ordered, stuck, some_free, split}
use Rattle.tree_network.proofs.Endless.{endless_free}
use Rattle.tree_network.proofs.order.order_of.Goals as goal

pub loop-turn-init : goal.loop-turn-init
loop-turn-init c =
    let spots = c.args.spots.now in
    let order = c.in_ok-order.order.items in
    let P : List Bool → Type 0 = λ done. Ordered spots c.args.ports done c.in_ok-waiting.waiting.items order c.in_ok-ready.ready.items 0 in
    subst P (sym (c.in_ok-is_done.ensures.items_if_clones_equal (λ y e. e)))
    (none_ordered spots c.args.ports c.in_ok-waiting.waiting.items order c.in_ok-ready.ready.items c.in_ok-order.ensures.items c.in_ok-waiting.ensures.0 c.in_ok-waiting.ensures.1
    (let Q : List ℕ → Type 0 = λ w. AreReady w c.in_ok-ready.ready.items in subst Q c.deref.ensures.value c.in_ok-ready.ensures))

pub ring_of-requires-clause-at : goal.ring_of-requires-clause-at
ring_of-requires-clause-at c =
    let t = c.loop-turn.invariant.turned in
    let e : length c.deref-in-None.result.now ≡ c.args.ports = ap length c.deref-in-None.ensures.value ∙ t.marks in
    let P : ℕ → Type 0 = λ n. AreByPort c.args.spots.now n (n + 1) (lists_of c.args.at.now) in
    subst P (sym e) c.requires.at

pub ring_of-requires-clause-from : goal.ring_of-requires-clause-from
ring_of-requires-clause-from c = λ n h.
    let t = c.loop-turn.invariant.turned in
    let e = ap length c.deref-in-None.ensures.value ∙ t.marks in
    let small = c.requires.from n h in
    omega (arith, e, small)

pub ring_of-requires-clause-stuck : goal.ring_of-requires-clause-stuck
ring_of-requires-clause-stuck c =
    let l = c.loop-turn in
    let P : List Bool → Type 0 = λ done. AreStuck c.args.spots.now done in
    let none : length c.pop.new.self.items ≡ 0 = omega (arith, c.in-None.ensures.cases.1) in
    let t = none_ready c.args.spots.now c.args.ports l.is_done.items l.waiting.items l.order.items l.ready.items c.pop.new.self.items l._turn c.in-None.ensures.items none l.invariant in
    subst P (sym c.deref-in-None.ensures.value)
    (stuck c.args.spots.now c.args.ports l.is_done.items l.waiting.items l.order.items l._turn t (omega (arith, l.invariant.count)) c.requires.from)

pub ring_of-requires-clause-endless : goal.ring_of-requires-clause-endless
ring_of-requires-clause-endless c =
    let l = c.loop-turn in
    let P : List Bool → Type 0 = λ done. AreEndless c.args.spots.now done in
    subst P (sym c.deref-in-None.ensures.value)
    (endless_free c.args.spots.now c.args.ports l.is_done.items l.waiting.items (l.order.items ++ l.ready.items) (length l.order.items) l.invariant.turned c.requires.ports)

pub ring_of-requires-clause-some : goal.ring_of-requires-clause-some
ring_of-requires-clause-some c = λ none.
    let l = c.loop-turn in
    let P : List Bool → Type 0 = λ done. (s : ℕ) → ¬ (IsFree done s) in
    some_free c.args.spots.now c.args.ports l.is_done.items l.waiting.items (l.order.items ++ l.ready.items) (length l.order.items) l.invariant.turned
    (omega (arith, l.invariant.count, c.loop-turn-test.true)) (subst P c.deref-in-None.ensures.value none)

pub overflow_add-port : goal.overflow_add-port
overflow_add-port c =
    let l = c.loop-turn in
    let k = take_last c.args.spots.now c.args.ports l.is_done.items l.waiting.items l.order.items l.ready.items c.pop.new.self.items c.in-Some.port l._turn c.in-Some.ensures.items l.invariant in
    omega (arith, k.small, k.turned.counts)

pub bounds-sources-port : goal.bounds-sources-port
bounds-sources-port c =
    let l = c.loop-turn in
    let k = take_last c.args.spots.now c.args.ports l.is_done.items l.waiting.items l.order.items l.ready.items c.pop.new.self.items c.in-Some.port l._turn c.in-Some.ensures.items l.invariant in
    let count = length-map c.args.sources.now (λ v. v.items) in
    omega (arith, k.small, count, c.requires.sources.count)

pub offset_bounds-sources-port : goal.offset_bounds-sources-port
offset_bounds-sources-port c =
    let l = c.loop-turn in
    let k = take_last c.args.spots.now c.args.ports l.is_done.items l.waiting.items l.order.items l.ready.items c.pop.new.self.items c.in-Some.port l._turn c.in-Some.ensures.items l.invariant in
    let count = length-map c.args.sources.now (λ v. v.items) in
    omega (arith, k.small, count, c.requires.sources.count)

pub release-requires-clause-inside : goal.release-requires-clause-inside
release-requires-clause-inside c =
    let l = c.loop-turn in
    let spots = c.args.spots.now in
    let p = c.in-Some.port in
    let k = take_last spots c.args.ports l.is_done.items l.waiting.items l.order.items l.ready.items c.pop.new.self.items p l._turn c.in-Some.ensures.items l.invariant in
    let list = from_source spots (c.args.ports + 1) (p + 1) c.args.sources.now c.index-sources-port.result c.deref-in-Some.result.now c.requires.sources
    (omega (arith, k.small)) c.index-sources-port.is c.deref-in-Some.ensures.value in
    let few = ap length c.requires.own ∙ length-map spots (λ (s : Spot). s.port) in
    let P : List ℕ → Type 0 = λ xs. All (λ n. n < length c.args.spot_ports.now) xs in
    subst P (sym list) (those_pass (λ n. n < length c.args.spot_ports.now) (is_from spots (p + 1)) (length spots) (λ k small e. omega (arith, few, small)))

pub release-requires-clause-ports : goal.release-requires-clause-ports
release-requires-clause-ports c = λ n h.
    let few = ap length c.requires.own ∙ length-map c.args.spots.now (λ (s : Spot). s.port) in
    let own = port_by c.args.spots.now c.args.spot_ports.now c.requires.own n in
    let lt = c.requires.ports n (omega (arith, few, h)) in
    omega (arith, own, lt, c.loop-turn.invariant.turned.counts)

pub release-requires-clause-waits : goal.release-requires-clause-waits
release-requires-clause-waits c = λ s small.
    let l = c.loop-turn in
    let spots = c.args.spots.now in
    let p = c.in-Some.port in
    let k = take_last spots c.args.ports l.is_done.items l.waiting.items l.order.items l.ready.items c.pop.new.self.items p l._turn c.in-Some.ensures.items l.invariant in
    let t = k.turned in
    let own = port_by spots c.args.spot_ports.now c.requires.own in
    let list = from_source spots (c.args.ports + 1) (p + 1) c.args.sources.now c.index-sources-port.result c.deref-in-Some.result.now c.requires.sources
    (omega (arith, k.small)) c.index-sources-port.is c.deref-in-Some.ensures.value in
    let two = split spots l.is_done.items p s (omega (arith, k.small, t.marks)) k.fresh in
    let waits = t.waits s (omega (arith, small, t.counts)) in
    let same : count_of (number_at c.args.spot_ports.now) s c.deref-in-Some.result.now ≡ count_at spots s (those (is_from spots (p + 1)) (length spots)) =
    (λ i. count_of (λ n. own n i) s c.deref-in-Some.result.now) ∙ ap (count_at spots s) list in
    omega (arith, two, waits, same)

pub loop-turn-preserved : goal.loop-turn-preserved
loop-turn-preserved c =
    let l = c.loop-turn in
    let spots = c.args.spots.now in
    let waiting = l.waiting.items in
    let p = c.in-Some.port in
    let rest = c.pop.new.self.items in
    let k = take_last spots c.args.ports l.is_done.items waiting l.order.items l.ready.items rest p l._turn c.in-Some.ensures.items l.invariant in
    let list = from_source spots (c.args.ports + 1) (p + 1) c.args.sources.now c.index-sources-port.result c.deref-in-Some.result.now c.requires.sources
    (omega (arith, k.small)) c.index-sources-port.is c.deref-in-Some.ensures.value in
    let own = port_by spots c.args.spot_ports.now c.requires.own in
    let Q : (ℕ → ℕ) → List ℕ → Type 0 = λ port xs. (s : ℕ) → s < length waiting → get_or c.release.new.waiting.items s 0 + count_of port s xs ≡ get_or waiting s 0 in
    let less = subst (λ port. Q port c.deref-in-Some.result.now) (λ i. λ n. own n i) c.in_ok-release-in-Some.ensures.less in
    let P : List ℕ → Type 0 = λ xs. Ordered spots c.args.ports (set l.is_done.items p true) c.release.new.waiting.items xs c.release.new.ready.items (l._turn + 1) in
    subst P (sym c.in_ok-push-in-Some.ensures.items)
    (next_ordered spots c.args.ports l.is_done.items waiting l.order.items l.ready.items rest p l._turn c.release.new.waiting.items c.release.new.ready.items
    c.in-Some.ensures.items l.invariant c.in_ok-release-in-Some.ensures.count (subst (Q (λ n. (spot_at spots n).port)) list less) c.in_ok-release-in-Some.ensures.ready c.in_ok-release-in-Some.ensures.more)

pub returns-clause-order : goal.returns-clause-order
returns-clause-order c =
    let l = c.loop-turn in
    let e : l._turn ≡ c.args.ports = omega (arith, l.auto._turn-end, c.loop-turn-test.false) in
    let P : ℕ → Type 0 = λ n. Ordered c.args.spots.now c.args.ports l.is_done.items l.waiting.items l.order.items l.ready.items n in
    all_ordered c.args.spots.now c.args.ports l.is_done.items l.waiting.items l.order.items l.ready.items (subst P e l.invariant)

pub waiting_at-requires : goal.waiting_at-requires
waiting_at-requires c = c.requires.ports

pub index_mut-requires : goal.index_mut-requires
index_mut-requires c =
    let l = c.loop-turn in
    let k = take_last c.args.spots.now c.args.ports l.is_done.items l.waiting.items l.order.items l.ready.items c.pop.new.self.items c.in-Some.port l._turn c.in-Some.ensures.items l.invariant in
    omega (arith, k.small, k.turned.marks)
