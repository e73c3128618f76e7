use Rattle.std.proofs.Common.{◌≡◌, ◌<◌, ℕ, List, [], ◌∷◌, length, set, arith, subst, sym, ◌∙◌, ap, Bool, true, false, replicate}
use Rattle.std.proofs.lemmas.List.{length-map, length-append}
use Rattle.std.specs.declared.vec.Vec.{Vec}
use Rattle.std.proofs.Common.{Global}
use Rattle.net_model.specs.Views.{server_of}
use Rattle.net_model.specs.Walks.{IsRingBefore}
use Rattle.net_model.specs.net_graph.Loops.{IsFirstAwaited}
use Rattle.net_model.specs.net_graph.Waits.{lists_of, AllLosePlaced, AreBusy, IsFree, IsPlaced, IsFirstIdle}
use Rattle.net_model.proofs.net_graph.Returns.{first_in_range}
use Rattle.net_model.proofs.net_graph.Turns.{Turned, no_turn_yet, after_losses, after_turn, all_turns, some_is_free, cycle_of_ring}
use Rattle.net_model.proofs.net_graph.placing.order.Goals as goal

pub first_idle-requires-clause-length : goal.first_idle-requires-clause-length
first_idle-requires-clause-length c =
    let t = c.loop-turn.invariant.turned in
    let marks = ap length c.deref.ensures.value in
    let lists = length-map c.loop-turn.before.items (λ v. v.items) in
    omega (arith, marks, lists, t.marks, t.count)

pub first_idle-requires-clause-below : goal.first_idle-requires-clause-below
first_idle-requires-clause-below c = λ server other m.
    let t = c.loop-turn.invariant.turned in
    let marks = ap length c.deref.ensures.value in
    let within = first_in_range c.args.net.now other server c.servers-count.ensures.kept (t.only other server m) in
    omega (arith, marks, t.marks, within)

pub cycle_of-requires-clause-length : goal.cycle_of-requires-clause-length
cycle_of-requires-clause-length c =
    let t = c.loop-turn.invariant.turned in
    let marks = ap length c.deref-in-None-2.ensures.value in
    let stored = ap length c.deref-in-None.ensures.value in
    let lists = length-map c.first_idle.new.before.items (λ v. v.items) in
    omega (arith, marks, stored, lists, t.marks, t.count, c.first_idle.ensures.lost.count)

pub cycle_of-requires-clause-some : goal.cycle_of-requires-clause-some
cycle_of-requires-clause-some c =
    let t = c.loop-turn.invariant.turned in
    let P : List Bool → Type 0 = λ ps. ¬ ((s : ℕ) → s < length ps → IsPlaced ps s) in
    let count = length-map c.servers-count.result.now server_of in
    let same = ap length c.servers-count.ensures.servers in
    subst P (sym c.deref-in-None-2.ensures.value)
    (some_is_free c.args.net.now (lists_of c.loop-turn.before.items) c.loop-turn.is_placed.items c.loop-turn.placed.items t
    (omega (arith, c.loop-turn.invariant.turns, c.loop-turn-test.true, count, same)))

pub returns-in-None-clause-fault : goal.returns-in-None-clause-fault
returns-in-None-clause-fault c =
    let t = c.loop-turn.invariant.turned in
    let old = lists_of c.loop-turn.before.items in
    let new = lists_of c.first_idle.new.before.items in
    let P : List Bool → Type 0 = λ ps. AllLosePlaced ps old new in
    let lost = subst P c.deref.ensures.value c.first_idle.ensures.lost in
    let turned = after_losses c.args.net.now old new c.loop-turn.is_placed.items c.loop-turn.placed.items lost t in
    let placed = c.loop-turn.is_placed.items in
    let walk = c.in_ok-cycle_of-in-None.field-0.items in
    let Q : List Bool → Type 0 = λ ps. AreBusy ps new (length ps) in
    let busy = subst Q c.deref.ensures.value c.in-None.ensures.busy in
    let R : List (Vec ℕ Global) → List Bool → Type 0 = λ vs ps. IsRingBefore (IsFree ps) (IsFirstAwaited ps (lists_of vs)) walk in
    let S : List (Vec ℕ Global) → Type 0 = λ vs. R vs placed in
    let ring = subst S c.deref-in-None.ensures.value (subst (R c.deref-in-None.result.now) c.deref-in-None-2.ensures.value c.in_ok-cycle_of-in-None.ensures) in
    cycle_of_ring c.args.net.now new placed c.loop-turn.placed.items walk c.servers-count.ensures.kept turned busy ring

pub returns-clause-order : goal.returns-clause-order
returns-clause-order c =
    let t = c.loop-turn.invariant.turned in
    let count = length-map c.servers-count.result.now server_of in
    let same = ap length c.servers-count.ensures.servers in
    let whole : length c.loop-turn.placed.items ≡ length c.args.net.now.servers =
    omega (arith, c.loop-turn.invariant.turns, c.loop-turn-test.false, c.loop-turn.auto._turn-end, count, same) in
    all_turns c.args.net.now (lists_of c.loop-turn.before.items) c.loop-turn.is_placed.items c.loop-turn.placed.items t whole

pub loop-turn-init : goal.loop-turn-init
loop-turn-init c =
    let net = c.args.net.now in
    let lists = lists_of c.in_ok-before.before.items in
    let count = length-map c.servers-count.result.now server_of in
    let same = sym count ∙ ap length c.servers-count.ensures.servers in
    let marks = c.in_ok-is_placed.ensures.items_if_clones_equal (λ y e. e) ∙ ap (λ n. replicate n false) same in
    let P : List Bool → Type 0 = λ ps. Turned net lists ps c.in_ok-placed.placed.items in
    let Q : List ℕ → Type 0 = λ xs. Turned net lists (replicate (length net.servers) false) xs in
    record {
      turned = subst P (sym marks) (subst Q (sym c.in_ok-placed.ensures.items) (no_turn_yet net lists c.in_ok-before.ensures));
      turns = ap length c.in_ok-placed.ensures.items;
    }

pub loop-turn-preserved : goal.loop-turn-preserved
loop-turn-preserved c =
    let t = c.loop-turn.invariant.turned in
    let net = c.args.net.now in
    let old = lists_of c.loop-turn.before.items in
    let new = lists_of c.first_idle.new.before.items in
    let placed = c.loop-turn.is_placed.items in
    let order = c.loop-turn.placed.items in
    let server = c.in-Some.server in
    let P : List Bool → Type 0 = λ ps. AllLosePlaced ps old new in
    let lost = subst P c.deref.ensures.value c.first_idle.ensures.lost in
    let Q : List Bool → Type 0 = λ ps. IsFirstIdle ps new server in
    let idle = subst Q c.deref.ensures.value c.in-Some.ensures.idle in
    let S : List ℕ → Type 0 = λ xs. Turned net new (set placed server true) xs in
    let more = c.in_ok-push-in-Some.ensures.items in
    record {
      turned = subst S (sym more) (after_turn net new placed order server (after_losses net old new placed order lost t) idle);
      turns = let count = length-append order (server ∷ []) in let now = ap length more in omega (arith, now, count, c.loop-turn.invariant.turns);
    }
