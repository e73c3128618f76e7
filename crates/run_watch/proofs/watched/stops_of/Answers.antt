use Rattle.std.specs.Prelude.{if◌then◌else◌}
use Rattle.std.specs.List.{slice_index_or}
use Rattle.std.proofs.Common.{◌≡◌, List, [], ◌∷◌, ◌+◌, ◌<◌, ◌≤◌, drop, length, refl, sym, subst, ap, ◌∙◌}
use Rattle.rational.specs.Rational.{ℚ}
use Rattle.run_watch.specs.Watching.{stops_in}
use Rattle.run_watch.proofs.Gathered.{taken, passed, all_taken}
use Rattle.run_watch.proofs.watched.stops_of.Goals as goal
use Rattle.run_watch.proofs.watched.stops_of.Goals.{then-is_caught_up+in_ok-push, else-is_caught_up}

pub loop-t-preserved : goal.loop-t-preserved
loop-t-preserved c =
    let xs = c.args.w.now.leaves.items in
    let x = c.t-item.result in
    let i = c.loop-t.t-index in
    let F = stops_in c.args.w.now in
    let rest = F (drop (i + 1) xs) in
    let inside = subst (λ (ts : List ℚ). i < length ts) c.deref-t-items.ensures.value c.loop-t-test.true in
    let is = subst (λ (ts : List ℚ). x ≡ slice_index_or ts i x) c.deref-t-items.ensures.value c.t-item.is in
    elim c.if-is_caught_up.branch [
      | then-is_caught_up+in_ok-push w ↦
          taken F x xs i c.loop-t.found.items (x ∷ []) c.if-is_caught_up.found.items (F xs) inside is (ap (λ b. if b then x ∷ rest else rest) (sym c.is_caught_up.ensures ∙ w.if-is_caught_up.true))
          (ap (λ v. v.items) w.found-is ∙ w.in_ok-push.ensures.items) c.loop-t.invariant
      | else-is_caught_up w ↦
          passed F x xs i c.loop-t.found.items c.if-is_caught_up.found.items (F xs) inside is (ap (λ b. if b then x ∷ rest else rest) (sym c.is_caught_up.ensures ∙ w.if-is_caught_up.false))
          (ap (λ v. v.items) w.found-is) c.loop-t.invariant
    ]

pub returns : goal.returns
returns c =
    let xs = c.args.w.now.leaves.items in
    all_taken (stops_in c.args.w.now) xs c.loop-t.t-index c.loop-t.found.items (stops_in c.args.w.now xs) refl (subst (λ (ts : List ℚ). length ts ≤ c.loop-t.t-index) c.deref-t-items.ensures.value c.loop-t-test.false)
    c.loop-t.invariant
