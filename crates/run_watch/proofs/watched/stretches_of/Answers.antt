use Rattle.std.specs.List.{slice_index_or}
use Rattle.std.specs.Option.{option_to_list}
use Rattle.std.proofs.Common.{◌≡◌, List, [], ◌∷◌, ◌+◌, ◌<◌, ◌≤◌, ◌++◌, drop, length, refl, sym, subst, ap, ◌∙◌}
use Rattle.run_watch.specs.declared.span.Ramp.{Ramp}
use Rattle.run_watch.specs.Watching.{stretches_in}
use Rattle.run_watch.proofs.Gathered.{taken, passed, all_taken}
use Rattle.run_watch.proofs.watched.stretches_of.Goals as goal
use Rattle.run_watch.proofs.watched.stretches_of.Goals.{in-Some+in_ok-push, in_default}

pub loop-r-preserved : goal.loop-r-preserved
loop-r-preserved c =
    let xs = c.args.w.now.arrivals.items in
    let x = c.r-item.result in
    let i = c.loop-r.r-index in
    let F = stretches_in c.args.w.now c.args.stops.now in
    let inside = subst (λ (rs : List Ramp). i < length rs) c.deref-r-items.ensures.value c.loop-r-test.true in
    let is = subst (λ (rs : List Ramp). x ≡ slice_index_or rs i x) c.deref-r-items.ensures.value c.r-item.is in
    elim c.match-stretch_from.branch [
      | in-Some+in_ok-push w ↦
          taken F x xs i c.loop-r.found.items (w.in-Some.stretch ∷ []) c.match-stretch_from.found.items (F xs) inside is (ap (λ o. option_to_list o ++ F (drop (i + 1) xs)) (sym w.in-Some.ensures))
          (ap (λ v. v.items) w.found-is ∙ w.in_ok-push.ensures.items) c.loop-r.invariant
      | in_default w ↦
          passed F x xs i c.loop-r.found.items c.match-stretch_from.found.items (F xs) inside is (ap (λ o. option_to_list o ++ F (drop (i + 1) xs)) (sym w.in_default.ensures)) (ap (λ v. v.items) w.found-is)
          c.loop-r.invariant
    ]

pub returns : goal.returns
returns c =
    let xs = c.args.w.now.arrivals.items in
    let F = stretches_in c.args.w.now c.args.stops.now in
    all_taken F xs c.loop-r.r-index c.loop-r.found.items (F xs) refl (subst (λ (rs : List Ramp). length rs ≤ c.loop-r.r-index) c.deref-r-items.ensures.value c.loop-r-test.false) c.loop-r.invariant
