use Rattle.std.proofs.Common.{◌≡◌, ◌++◌, None, map, get_or}
use Rattle.bounds_command.specs.Reports.{queue_view, queues_with}
use Rattle.bounds_command.proofs.rows.push_port.Given as goal

abbrev pub invariant-loop-queue : goal.invariant-loop-queue
invariant-loop-queue l =
    map queue_view l.into.items ≡ map queue_view l.initial.into.items
    ++ queues_with l.name l.port (λ q. get_or l.rates q 0) (λ q. get_or l.found q None) l.queue
