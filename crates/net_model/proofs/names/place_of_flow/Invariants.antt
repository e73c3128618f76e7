use Rattle.std.proofs.Common.{ℕ, ◌<◌, get_or, Option}
use Rattle.std.specs.Option.{option_map}
use Rattle.net_model.specs.declared.flow.Flow.{Flow}
use Rattle.net_model.specs.Names.{HasName}
use Rattle.net_model.specs.Views.{flow_of}
use Rattle.net_model.proofs.names.place_of_flow.Given as goal

abbrev pub invariant-loop-i : goal.invariant-loop-i
invariant-loop-i l = (k : ℕ) (d : Option Flow) → k < l.i → HasName (option_map flow_of (get_or l.flows k d)) l.name → ⊥
