-- What is told of servers before their runs are looked at: those of kind latency or gate that have no stall keep their
-- service curves. Own choice.
use Rattle.std.specs.Prelude.{Bool, true, false, List, [], ◌∷◌, map, slice_set}
use Rattle.net_model.specs.declared.server.ServiceKind.{ServiceKind}
use Rattle.net_model.specs.declared.server.ServiceKind.TheVariants.{Latency, Gate, Listed}
use Rattle.net_model.specs.declared.trace.Stall.{Stall}
use Rattle.net_model.specs.Networks.{Net, NetServer}
use Rattle.net_model.specs.Traces.{SpecTrace}

-- not listed by its pieces
abbrev pub is_by_formula : ServiceKind → Bool
is_by_formula (Latency latency) = true
is_by_formula (Gate cycle slot) = true
is_by_formula Listed = false

abbrev pub by_formula : List NetServer → List Bool
by_formula servers = map (λ (s : NetServer). is_by_formula s.kind) servers

-- nothing more is told of a server that stalls
abbrev pub less_stalled : List Bool → List Stall → List Bool
less_stalled told [] = told
less_stalled told (x ∷ xs) = less_stalled (slice_set told x.server false) xs

abbrev pub open_servers : Net → SpecTrace → List Bool
open_servers net trace = less_stalled (by_formula net.servers) trace.stalls
