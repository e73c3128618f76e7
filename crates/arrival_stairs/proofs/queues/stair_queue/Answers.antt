use Rattle.std.proofs.Common.{Option, sym, subst}
use Rattle.arrival_lines.specs.declared.grid.Queue.{Queue}
use Rattle.arrival_stairs.specs.BelowLines.{line_parts}
use Rattle.arrival_stairs.specs.Queues.{IsLeastOfBoth}
use Rattle.arrival_stairs.proofs.Leasts.{both_are}
use Rattle.arrival_stairs.proofs.queues.stair_queue.Goals as goal

pub returns : goal.returns
returns c =
    let bundles = c.args.bundles.now in
    let services = c.args.services.now in
    subst (λ (o : Option Queue). IsLeastOfBoth bundles services c.args.longest o) (sym c.queue_in.ensures)
    (both_are bundles services c.args.longest c.queue_of-by_lines.result (c.queue_of-by_lines.ensures.least (line_parts bundles) c.requires.steps) c.least_stay-least.result
    (c.least_stay-least.ensures bundles c.requires.bundles c.requires.steps c.in_ok-walk.ensures))
