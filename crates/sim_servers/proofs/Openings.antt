-- An opening of the simulator, and that of its server.
use Rattle.std.specs.Prelude.{◌≡◌, ◌↔◌, ℕ, List, map}
use Rattle.std.proofs.Common.{sym, subst}
use Rattle.rational.specs.Rational.{ℚ, ◌≤ℚ◌}
use Rattle.rational.proofs.Laws.{le_trans}
use Rattle.net_model.specs.stated_runs.Setups.{Setup, IsGateOpen, IsStalled, IsOpenAt, IsFirstOpen, IsFirstOpenAt, opening_of}
use Rattle.sim_servers.specs.declared.opening.Opening.{Opening}
use Rattle.sim_servers.specs.Openings.{gate_for, stall_times, opening_for, IsSameOpening, IsInOrder}
use Rattle.sim_servers.specs.declared.opening.Span.{Span}
use Rattle.sim_servers.specs.Stations.{IsOpeningOf}

pub open_there : (S : Setup) (s : ℕ) (o : Opening) → IsOpeningOf S s o → (x : ℚ) → IsOpenAt (opening_for o) x → IsOpenAt (opening_of S s) x
open_there S s o h x k = (subst (λ g. IsGateOpen g x) h.gate k.0, λ i. k.1 ((h.stalled x).1 i))

pub open_here : (S : Setup) (s : ℕ) (o : Opening) → IsOpeningOf S s o → (x : ℚ) → IsOpenAt (opening_of S s) x → IsOpenAt (opening_for o) x
open_here S s o h x k = (subst (λ g. IsGateOpen g x) (sym h.gate) k.0, λ i. k.1 ((h.stalled x).0 i))

pub first_there : (S : Setup) (s : ℕ) (o : Opening) (from t : ℚ) → IsOpeningOf S s o → IsFirstOpenAt (opening_for o) from t → IsFirstOpen S s from t
first_there S s o from t h k = record {
  not_before = k.not_before;
  open_then = open_there S s o h t k.open_then;
  closed_before = λ x a b i. k.closed_before x a b (open_here S s o h x i);
}

-- a later start of the wait, up to the same time
pub first_later : (S : Setup) (s : ℕ) (from now t : ℚ) → IsFirstOpen S s from t → from ≤ℚ now → now ≤ℚ t → IsFirstOpen S s now t
first_later S s from now t h a b = record {
  not_before = b;
  open_then = h.open_then;
  closed_before = λ x c d. h.closed_before x (le_trans a c) d;
}

-- what changes nothing but the count of stalls passed
pub same_server : (S : Setup) (s : ℕ) (before after : Opening) → IsOpeningOf S s before → IsSameOpening before after → IsInOrder after → IsOpeningOf S s after
same_server S s before after h same order = record {
  order = order;
  gate = subst (λ g. gate_for g ≡ (opening_of S s).gate) (sym same.gate) h.gate;
  stalled = λ x. subst (λ (v : List Span). IsStalled (map stall_times v) x ↔ IsStalled (opening_of S s).stalls x) (sym same.stalls) (h.stalled x);
}
