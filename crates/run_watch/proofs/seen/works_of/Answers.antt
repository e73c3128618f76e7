use Rattle.std.specs.Option.{option_to_list}
use Rattle.std.proofs.Common.{[], ◌∷◌, ◌+◌, ◌++◌, drop, refl, sym, ap, ◌∙◌}
use Rattle.run_watch.specs.Seen.{works_at}
use Rattle.run_watch.proofs.Gathered.{taken, passed, all_taken}
use Rattle.run_watch.proofs.seen.works_of.Goals as goal
use Rattle.run_watch.proofs.seen.works_of.Goals.{in-Some+in_ok-push, in_default}

pub loop-step-preserved : goal.loop-step-preserved
loop-step-preserved c =
    let xs = c.args.steps.now in
    let x = c.step-item.result in
    let i = c.loop-step.step-index in
    let F = works_at c.args.server in
    elim c.match-work_of.branch [
      | in-Some+in_ok-push w ↦
          taken F x xs i c.loop-step.found.items (w.in-Some.work ∷ []) c.match-work_of.found.items (F xs) c.loop-step-test.true c.step-item.is
          (ap (λ o. option_to_list o ++ F (drop (i + 1) xs)) (sym w.in-Some.ensures)) (ap (λ v. v.items) w.found-is ∙ w.in_ok-push.ensures.items) c.loop-step.invariant
      | in_default w ↦
          passed F x xs i c.loop-step.found.items c.match-work_of.found.items (F xs) c.loop-step-test.true c.step-item.is
          (ap (λ o. option_to_list o ++ F (drop (i + 1) xs)) (sym w.in_default.ensures)) (ap (λ v. v.items) w.found-is) c.loop-step.invariant
    ]

pub returns : goal.returns
returns c = all_taken (works_at c.args.server) c.args.steps.now c.loop-step.step-index c.loop-step.found.items (works_at c.args.server c.args.steps.now) refl c.loop-step-test.false c.loop-step.invariant
