use Rattle.std.proofs.Common.{◌<◌, ℕ, length, get_or, List, [], ◌∷◌, arith, subst, sym, ◌∙◌, ap, drop}
use Rattle.std.specs.Prelude.{Contains}
use Rattle.std.proofs.lemmas.List.{length-append, take_rest}
use Rattle.std.proofs.lemmas.Result.{IfOk-weaker}
use Rattle.net_model.specs.net_graph.Loops.{IsLoopBack}
use Rattle.net_model.proofs.net_graph.LoopBacks.{Walked, no_server_yet, goes_on, leaves_room, comes_back}
use Rattle.net_model.proofs.net_graph.cycle.loop_back.Goals as goal

pub loop-place-init : goal.loop-place-init
loop-place-init c = rw c.new-seen.ensures.items (no_server_yet c.args.firsts.now c.args.start c.requires)

pub returns-in-Some : goal.returns-in-Some
returns-in-Some c =
    let firsts = c.args.firsts.now in
    let seen = c.loop-place.seen.items in
    let place = c.in-Some.place in
    let found = c.in-Some.ensures in
    let within : place < length seen = let e = c.deref.ensures.value in rw (← e) found.0 in
    let is = ap (λ xs. get_or xs place 0) (sym c.deref.ensures.value) ∙ found.1 in
    let loop = comes_back firsts c.args.start seen c.loop-place.at place c.loop-place.invariant within is in
    let P : List ℕ → Type 0 = λ xs. IsLoopBack firsts c.args.start xs in
    IfOk-weaker c.from_slice.result _ _
    (λ v same. subst P (sym (same ∙ take_rest c.deref-in-Some.result.now place ∙ ap (λ xs. drop place xs) c.deref-in-Some.ensures.value)) loop)
    c.from_slice.ensures.items

pub loop-place-smaller : goal.loop-place-smaller
loop-place-smaller c =
    let P : List ℕ → Type 0 = λ xs. ¬ (Contains xs c.loop-place.at) in
    let new = subst P c.deref.ensures.value c.in_default.ensures in
    let room = leaves_room c.args.firsts.now c.args.start c.loop-place.seen.items c.loop-place.at c.loop-place.invariant new in
    let more = ap length c.in_ok-push.ensures.items ∙ length-append c.loop-place.seen.items (c.loop-place.at ∷ []) in
    omega (arith, room, more)

pub loop-place-preserved : goal.loop-place-preserved
loop-place-preserved c =
    let firsts = c.args.firsts.now in
    let at = c.loop-place.at in
    let N : List ℕ → Type 0 = λ xs. ¬ (Contains xs at) in
    let new = subst N c.deref.ensures.value c.in_default.ensures in
    let next = c.in-Some-firsts.first in
    let P : List ℕ → Type 0 = λ xs. Walked firsts c.args.start xs next in
    subst P (sym c.in_ok-push.ensures.items) (goes_on firsts c.args.start c.loop-place.seen.items at next c.loop-place.invariant new c.in-Some-firsts.is)
