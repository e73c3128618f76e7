use Rattle.std.proofs.Common.{◌≡◌, ◌+◌, ◌-◌, ◌*◌, ◌^◌, ◌≤◌}
use Rattle.upp_curve.specs.Curve.{value_at}
use Rattle.flow_watch.specs.watch_laws.Entries.{bits_between}
use Rattle.flow_watch.specs.Flows.{FindsFirst}
use Rattle.flow_watch.proofs.flows.least_first.Given as goal

abbrev pub invariant-loop-back : goal.invariant-loop-back
invariant-loop-back l =
    (l.bits ≡ bits_between (l.last + 1 - l.back) l.last l.entries) × (l.bits ≤ 2 ^ 32 * l.back)
    × FindsFirst (value_at l.arrival) l.entries (l.last + 1 - l.back) l.last l.found
