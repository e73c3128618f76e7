use Rattle.std.specs.List.{slice_index_or}
use Rattle.std.proofs.Common.{◌≡◌, List, [], ◌∷◌, ◌<◌, ◌≤◌, ◌++◌, length, refl, subst, ap, ◌∙◌, append_assoc}
use Rattle.run_watch.specs.declared.span.Ramp.{Ramp}
use Rattle.run_watch.specs.Watching.{change_at, changes_in, ends_of, turns}
use Rattle.run_watch.proofs.Gathered.{taken, all_taken}
use Rattle.run_watch.proofs.watched.turns_of.Goals as goal

pub loop-s-preserved : goal.loop-s-preserved
loop-s-preserved c =
    let xs = c.args.stretches.now in
    let s = c.s-item.result in
    let had = c.loop-s.turns.items in
    taken ends_of s xs c.loop-s.s-index had (s.start ∷ s.end ∷ []) c.push-in-loop-s.new.self.items (ends_of xs) c.loop-s-test.true c.s-item.is refl
    (c.in_ok-push-2.ensures.items ∙ ap (λ es. es ++ s.end ∷ []) c.in_ok-push.ensures.items ∙ append_assoc had (s.start ∷ []) (s.end ∷ [])) c.loop-s.invariant

pub loop-r-init : goal.loop-r-init
loop-r-init c =
    let w = c.args.w.now in
    let xs = c.args.stretches.now in
    ap (λ es. es ++ changes_in w w.works.items) (all_taken ends_of xs c.loop-s.s-index c.loop-s.turns.items (ends_of xs) refl c.loop-s-test.false c.loop-s.invariant)

pub loop-r-preserved : goal.loop-r-preserved
loop-r-preserved c =
    let w = c.args.w.now in
    let xs = w.works.items in
    let r = c.r-item.result in
    let i = c.loop-r.r-index in
    let had = c.loop-r.turns.items in
    let start = change_at w r.span.start in
    let end = change_at w r.span.end in
    taken (changes_in w) r xs i had (start ++ end) c.push_change-in-loop-r.new.turns.items (turns w c.args.stretches.now) (subst (λ (rs : List Ramp). i < length rs) c.deref-r-items.ensures.value c.loop-r-test.true)
    (subst (λ (rs : List Ramp). r ≡ slice_index_or rs i r) c.deref-r-items.ensures.value c.r-item.is) refl
    (c.in_ok-push_change-2.ensures ∙ ap (λ es. es ++ end) c.in_ok-push_change.ensures ∙ append_assoc had start end) c.loop-r.invariant

pub returns : goal.returns
returns c =
    let w = c.args.w.now in
    all_taken (changes_in w) w.works.items c.loop-r.r-index c.loop-r.turns.items (turns w c.args.stretches.now) refl (subst (λ (rs : List Ramp). length rs ≤ c.loop-r.r-index) c.deref-r-items.ensures.value c.loop-r-test.false)
    c.loop-r.invariant
