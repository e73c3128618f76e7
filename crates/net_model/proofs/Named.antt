-- A live flow that has a name, by what is stored at its place.
use Rattle.std.proofs.Common.{◌≡◌, ℕ, ◌<◌, List, length, get_or, Option, Some, None}
use Rattle.std.specs.Option.{option_map}
use Rattle.net_model.specs.declared.flow.Flow.{Flow}
use Rattle.net_model.specs.Names.{HasName, IsFlowNamed}
use Rattle.net_model.specs.Views.{flow_of, flows_of}
use Rattle.net_model.proofs.Placed.{made_at}

pub flow_named_at : (flows : List (Option Flow)) (name : List ℕ) (k : ℕ) (f : Option Flow) → k < length flows → f ≡ get_or flows k f
    → HasName (option_map flow_of f) name → IsFlowNamed (flows_of flows) name k
flow_named_at flows name k None within is h = absurd h
flow_named_at flows name k (Some f) within is h =
    record { flow = flow_of f; is = made_at (option_map flow_of) flows k (Some f) within is; named = h }
