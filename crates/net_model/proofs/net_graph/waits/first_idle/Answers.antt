use Rattle.std.proofs.Common.{◌≡◌, ◌<◌, ℕ, List, length, get_or, arith, subst, sym, Bool}
use Rattle.std.specs.Prelude.{Contains}
use Rattle.std.specs.declared.vec.Vec.{Vec}
use Rattle.std.proofs.lemmas.List.{length-map, get_or_default}
use Rattle.net_model.specs.net_graph.Waits.{lists_of, AllLosePlaced}
use Rattle.net_model.proofs.net_graph.ListSets.{list_of}
use Rattle.net_model.proofs.net_graph.Losses.{free_of, set_loses, set_busy, set_idle, placed_is_busy}
use Rattle.net_model.proofs.net_graph.waits.first_idle.Goals as goal
use Rattle.net_model.proofs.net_graph.waits.first_idle.Goals.{else-not-is_placed-server-via-then-not-is_placed-server+else-not-still_waits, else-not-is_placed-server-via-else-not-is_placed-server}

-- the server has a list
listed : {Z : Type 0} (placed : List Bool) (old now : List (Vec ℕ Z)) (i : ℕ) → length placed ≡ length old → AllLosePlaced placed (lists_of old) (lists_of now)
    → i < length placed → i < length now
listed placed old now i same lost h =
    let first = length-map old (λ v. v.items) in
    let last = length-map now (λ v. v.items) in
    omega (arith, same, h, lost.count, first, last)

pub still_waits-requires : goal.still_waits-requires
still_waits-requires c = λ k d h.
    let here = listed c.args.is_placed.now c.args.before.now.items c.loop-server.before.items c.loop-server.server c.requires.length c.loop-server.invariant.lost c.loop-server-test.true in
    let items = c.index_mut.result.now.items in
    let P : List ℕ → Type 0 = λ xs. Contains xs (get_or items k d) in
    let same = list_of c.loop-server.before.items c.loop-server.server c.index_mut.result.now here c.index_mut.ensures.value in
    c.requires.below c.loop-server.server (get_or items k d)
    ((c.loop-server.invariant.lost.each c.loop-server.server).only (get_or items k d) (subst P (sym same) (k, h, get_or_default items k (get_or items k d) d h)))

pub returns-then-not-still_waits-clause-lost : goal.returns-then-not-still_waits-clause-lost
returns-then-not-still_waits-clause-lost c =
    let here = listed c.args.is_placed.now c.args.before.now.items c.loop-server.before.items c.loop-server.server c.requires.length c.loop-server.invariant.lost c.loop-server-test.true in
    set_loses c.args.is_placed.now _ c.loop-server.before.items c.loop-server.server c.index_mut.result.now c.still_waits.new.list here c.index_mut.ensures.value
    c.loop-server.invariant.lost c.still_waits.ensures.lost

pub returns-then-not-still_waits-clause-idle : goal.returns-then-not-still_waits-clause-idle
returns-then-not-still_waits-clause-idle c =
    let here = listed c.args.is_placed.now c.args.before.now.items c.loop-server.before.items c.loop-server.server c.requires.length c.loop-server.invariant.lost c.loop-server-test.true in
    set_idle c.args.is_placed.now c.loop-server.before.items c.loop-server.server c.still_waits.new.list here c.loop-server.invariant.busy
    (free_of c.args.is_placed.now c.loop-server.server c.loop-server-test.true c.if-not-is_placed-server.true) c.if-not-still_waits.ensures.waits

pub loop-server-preserved : goal.loop-server-preserved
loop-server-preserved c =
    let here = listed c.args.is_placed.now c.args.before.now.items c.loop-server.before.items c.loop-server.server c.requires.length c.loop-server.invariant.lost c.loop-server-test.true in
    elim c.else-not-is_placed-server.branch [
      | else-not-is_placed-server-via-then-not-is_placed-server+else-not-still_waits w ↦ rw w.before-is record {
        lost = set_loses c.args.is_placed.now _ c.loop-server.before.items c.loop-server.server w.index_mut.result.now w.still_waits.new.list here w.index_mut.ensures.value
            c.loop-server.invariant.lost w.still_waits.ensures.lost;
        busy = set_busy c.args.is_placed.now c.loop-server.before.items c.loop-server.server w.still_waits.new.list here c.loop-server.invariant.busy w.if-not-still_waits.ensures.waits;
      }
      | else-not-is_placed-server-via-else-not-is_placed-server w ↦ rw w.before-is record {
        lost = c.loop-server.invariant.lost;
        busy = placed_is_busy c.args.is_placed.now (lists_of c.loop-server.before.items) c.loop-server.server c.loop-server.invariant.busy w.if-not-is_placed-server.false;
      }
    ]
