use Rattle.std.proofs.Common.{sym, ap, ◌∙◌}
use Rattle.run_watch.specs.Seen.{sizes_after}
use Rattle.run_watch.proofs.SeenLists.{sizes_kept}
use Rattle.run_watch.proofs.seen.note_size.Goals as goal

pub returns-in_ok-push-in-Enter : goal.returns-in_ok-push-in-Enter
returns-in_ok-push-in-Enter c = c.in_ok-push-in-Enter.ensures.items ∙ ap (sizes_after c.args.sizes.now.items) (sym c.in-Enter.is)

pub returns-in_default : goal.returns-in_default
returns-in_default c = sizes_kept c.args.sizes.now.items c.args.step.now (λ f p t b e. c.in_default.not-Enter f p t b e)
