use Rattle.std.proofs.Common.{◌≡◌, ◌<◌, ◌+◌, set, ℕ, List, [], ◌∷◌, None, length, drop, arith, subst, sym, ◌∙◌, ap, length-append}
use Rattle.std.specs.Prelude.{All}
use Rattle.std.proofs.lemmas.List.{length-map, length-replicate, length-set, take_rest}
use Rattle.std.proofs.lemmas.Result.{IfOk-weaker}
use Rattle.tree_network.specs.Turns.{IsLateFrom, IsFirstLateFrom, IsLoopFrom, FindsPlace, RiseBySource}
use Rattle.tree_network.specs.Orders.{StandsAt}
use Rattle.tree_network.proofs.Those.{port_pass, from_port}
use Rattle.tree_network.specs.Turns.{AreNoted}
use Rattle.tree_network.proofs.Noted.{none_noted, one_noted}
use Rattle.tree_network.proofs.Walked.{Walked, no_port_yet, below_free, leaves_room, goes_on, comes_back, is_first, not_stuck}
use Rattle.tree_network.proofs.Lates.{port_rises}
use Rattle.tree_network.proofs.ring.loop_back.Goals as goal

pub loop-place-init : goal.loop-place-init
loop-place-init c =
    let zeros = c.in_ok-places.ensures.items_if_clones_equal (λ y e. e) in
    record {
      walked =
          let P : List ℕ → Type 0 = λ xs. Walked c.args.spots.now c.args.is_done.now c.args.start xs c.args.start in
          subst P (sym c.new-seen.ensures.items) (no_port_yet c.args.spots.now c.args.is_done.now c.args.start c.requires.start);
      noted =
          let P : List ℕ → Type 0 = λ xs. AreNoted xs c.in_ok-places.places.items in
          subst P (sym c.new-seen.ensures.items) (none_noted c.in_ok-places.places.items);
      count = ap length zeros ∙ length-replicate (length c.args.is_done.now) 0;
    }

pub returns-in-Some : goal.returns-in-Some
returns-in-Some c =
    let seen = c.loop-place.seen.items in
    let place = c.in-Some.place in
    let F : List ℕ → Type 0 = λ xs. StandsAt xs c.loop-place.port place in
    let stands = subst F c.deref.ensures.value c.in-Some.ensures in
    let loop = comes_back c.args.spots.now c.args.is_done.now c.args.start seen c.loop-place.port place c.loop-place.invariant.walked stands in
    let P : List ℕ → Type 0 = λ xs. IsLoopFrom c.args.spots.now c.args.start xs in
    IfOk-weaker c.from_slice.result _ _
    (λ v same. subst P (sym (same ∙ take_rest c.deref-in-Some.result.now place ∙ ap (λ xs. drop place xs) c.deref-in-Some.ensures.value)) loop)
    c.from_slice.ensures.items

pub bounds-at-port : goal.bounds-at-port
bounds-at-port c =
    let lt = below_free c.args.is_done.now c.loop-place.port c.loop-place.invariant.walked.here in
    let count = length-map c.args.at.now (λ v. v.items) in
    omega (arith, lt, count, c.requires.at.count)

pub waits_for-requires-clause-inside : goal.waits_for-requires-clause-inside
waits_for-requires-clause-inside c =
    let spots = c.args.spots.now in
    let port = c.loop-place.port in
    let lt = below_free c.args.is_done.now port c.loop-place.invariant.walked.here in
    let list = from_port spots (length c.args.is_done.now) (length c.args.is_done.now + 1) port c.args.at.now c.index-at-port.result c.deref-in-loop-place-2.result.now
    c.requires.at lt c.index-at-port.is c.deref-in-loop-place-2.ensures.value in
    let P : List ℕ → Type 0 = λ xs. All (λ n. n < length spots) xs in
    subst P (sym list) (port_pass (λ n. n < length spots) spots port (length c.args.is_done.now + 1) (λ n h e. h))

pub waits_for-requires-clause-rise : goal.waits_for-requires-clause-rise
waits_for-requires-clause-rise c =
    let spots = c.args.spots.now in
    let port = c.loop-place.port in
    let lt = below_free c.args.is_done.now port c.loop-place.invariant.walked.here in
    let list = from_port spots (length c.args.is_done.now) (length c.args.is_done.now + 1) port c.args.at.now c.index-at-port.result c.deref-in-loop-place-2.result.now
    c.requires.at lt c.index-at-port.is c.deref-in-loop-place-2.ensures.value in
    let P : List ℕ → Type 0 = λ xs. RiseBySource spots xs in
    subst P (sym list) (port_rises spots port (length c.args.is_done.now + 1))

pub unreachable-requires : goal.unreachable-requires
unreachable-requires c =
    let spots = c.args.spots.now in
    let done = c.args.is_done.now in
    let port = c.loop-place.port in
    let lt = below_free done port c.loop-place.invariant.walked.here in
    let list = from_port spots (length done) (length done + 1) port c.args.at.now c.index-at-port.result c.deref-in-loop-place-2.result.now
    c.requires.at lt c.index-at-port.is c.deref-in-loop-place-2.ensures.value in
    let P : List ℕ → Type 0 = λ xs. (a : ℕ) → ¬ (IsLateFrom spots done xs a) in
    not_stuck spots done port (length done) c.requires.from (c.requires.stuck port c.loop-place.invariant.walked.here) (subst P list c.in-None.ensures)

pub loop-place-smaller : goal.loop-place-smaller
loop-place-smaller c =
    let P : List ℕ → Type 0 = λ xs. FindsPlace xs c.loop-place.port None in
    let new = subst P c.deref.ensures.value c.in_default.ensures in
    let room = leaves_room c.args.spots.now c.args.is_done.now c.args.start c.loop-place.seen.items c.loop-place.port c.loop-place.invariant.walked new in
    let more = ap length c.in_ok-push.ensures.items ∙ length-append c.loop-place.seen.items (c.loop-place.port ∷ []) in
    omega (arith, room, more)

pub loop-place-preserved : goal.loop-place-preserved
loop-place-preserved c =
    let spots = c.args.spots.now in
    let done = c.args.is_done.now in
    let port = c.loop-place.port in
    let before = c.in-Some-waits_for.before in
    let F : List ℕ → Type 0 = λ xs. FindsPlace xs port None in
    let new = subst F c.deref.ensures.value c.in_default.ensures in
    let lt = below_free done port c.loop-place.invariant.walked.here in
    let list = from_port spots (length done) (length done + 1) port c.args.at.now c.index-at-port.result c.deref-in-loop-place-2.result.now
    c.requires.at lt c.index-at-port.is c.deref-in-loop-place-2.ensures.value in
    let L : List ℕ → Type 0 = λ xs. IsFirstLateFrom spots done xs before in
    let late = subst L list c.in-Some-waits_for.ensures in
    let first = is_first spots done port (length done) before c.requires.from c.requires.stuck c.requires.endless late in
    let seen = c.loop-place.seen.items in
    let count = c.loop-place.invariant.count in
    let inside : port < length c.loop-place.places.items = omega (arith, lt, count) in
    let W : List ℕ → Type 0 = λ xs. Walked spots done c.args.start xs before in
    let N : List ℕ → Type 0 = λ xs. AreNoted xs c.note.new.places.items in
    let full : c.len.result ≡ length seen = omega (arith, c.loop-place.seen.ok, c.len.ensures) in
    let at = c.note.ensures ∙ ap (λ k. set c.loop-place.places.items port k) full in
    record {
      walked =
          subst W (sym c.in_ok-push.ensures.items)
          (goes_on spots done c.args.start seen port before c.loop-place.invariant.walked new first late.late.free);
      noted = subst N (sym c.in_ok-push.ensures.items) (one_noted seen c.loop-place.places.items c.note.new.places.items port c.loop-place.invariant.noted new inside at);
      count = ap length c.note.ensures ∙ length-set c.loop-place.places.items port c.len.result ∙ count;
    }

pub place_in-requires-clause-inside : goal.place_in-requires-clause-inside
place_in-requires-clause-inside c =
    let lt = below_free c.args.is_done.now c.loop-place.port c.loop-place.invariant.walked.here in
    let same = ap length c.deref-in-loop-place.ensures.value in
    omega (arith, lt, same, c.loop-place.invariant.count)

pub place_in-requires-clause-noted : goal.place_in-requires-clause-noted
place_in-requires-clause-noted c =
    let P : List ℕ → Type 0 = λ xs. AreNoted xs c.loop-place.places.items in
    let Q : List ℕ → Type 0 = λ places. AreNoted c.deref.result.now places in
    subst Q (sym c.deref-in-loop-place.ensures.value) (subst P (sym c.deref.ensures.value) c.loop-place.invariant.noted)

pub note-requires : goal.note-requires
note-requires c =
    let lt = below_free c.args.is_done.now c.loop-place.port c.loop-place.invariant.walked.here in
    omega (arith, lt, c.loop-place.invariant.count)

pub waits_for-requires-clause-from : goal.waits_for-requires-clause-from
waits_for-requires-clause-from c = c.requires.from
