-- Flows by their numbers.
use Rattle.std.proofs.Common.{◌≡◌, ℕ, zero, suc, ◌<◌, List, [], ◌∷◌, length, get_or, sym, ap, arith, inl, inr, Some}
use Rattle.std.specs.Prelude.{Option, Contains}
use Rattle.std.specs.Option.{option_map}
use Rattle.net_model.specs.declared.flow.Flow.{Flow}
use Rattle.net_model.specs.NetRoutes.{route_for}
use Rattle.net_model.specs.Views.{flow_of, flows_of}
use Rattle.net_model.proofs.stated_runs.Lists.{In, in_contains}
use Rattle.sim_bounds.specs.sim_gauge.Flows.{hops_of}

pub flow_route : (fs : List (Option Flow)) (i : ℕ) (x : Option Flow) → i < length fs → x ≡ get_or fs i x → hops_of (flows_of fs) i ≡ (route_for (option_map flow_of x)).hops
flow_route [] i x h e = absurd (omega (arith, h))
flow_route (y ∷ ys) zero x h e = ap (λ (t : Option Flow). (route_for (option_map flow_of t)).hops) (sym e)
flow_route (y ∷ ys) (suc i) x h e = flow_route ys i x (omega (arith, h)) e

flow_in : (fs : List (Option Flow)) (i : ℕ) (f : Flow) → i < length fs → Some f ≡ get_or fs i (Some f) → In (flows_of fs) (Some (flow_of f))
flow_in [] i f h e = absurd (omega (arith, h))
flow_in (y ∷ ys) zero f h e = inl (ap (option_map flow_of) (sym e))
flow_in (y ∷ ys) (suc i) f h e = inr (flow_in ys i f (omega (arith, h)) e)

pub flow_there : (fs : List (Option Flow)) (i : ℕ) (f : Flow) → i < length fs → Some f ≡ get_or fs i (Some f) → Contains (flows_of fs) (Some (flow_of f))
flow_there fs i f h e = in_contains (flows_of fs) (Some (flow_of f)) (flow_in fs i f h e)
