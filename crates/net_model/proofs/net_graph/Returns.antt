-- A network with an order has no closed walk.
use Rattle.std.proofs.Common.{◌≡◌, ℕ, suc, zero, ◌<◌, List, [], ◌∷◌, ◌++◌, length, get_or, subst, arith}
use Rattle.std.proofs.lemmas.Option.{slice_get_within}
use Rattle.net_model.specs.Networks.{Net}
use Rattle.net_model.specs.Accepted.{IsAccepted}
use Rattle.net_model.specs.Walks.{IsNext, IsFirstBefore, Chain, IsClosed, IsCycle, IsFeedForward}
use Rattle.net_model.specs.Orders.{IsOrder}
use Rattle.net_model.specs.net_graph.OrderLaws.{OrderOrCycle}
use Rattle.net_model.proofs.net_graph.Members.{place_of, of_front}
use Rattle.net_model.proofs.net_graph.Forward.{goes_forward, has_each_server}
use Rattle.net_model.proofs.net_graph.Chains.{weaker}

-- paths go over servers of the network
pub first_in_range : (net : Net) (a b : ℕ) → IsAccepted net → IsNext net a b → a < length net.servers
first_in_range net a b kept n =
    let hop = (kept.flows n.flow n.live).hops n.step.hop (omega (arith, n.step.on_path)) in
    let P : ℕ → Type 0 = λ s. s < length net.servers in
    subst P n.step.from (slice_get_within net.servers (get_or n.flow.path n.step.hop 0) hop.server hop.is)

pub next_in_range : (net : Net) (a b : ℕ) → IsAccepted net → IsNext net a b → b < length net.servers
next_in_range net a b kept n =
    let hop = (kept.flows n.flow n.live).hops (suc n.step.hop) n.step.on_path in
    let P : ℕ → Type 0 = λ s. s < length net.servers in
    subst P n.step.to (slice_get_within net.servers (get_or n.flow.path (suc n.step.hop) 0) hop.server hop.is)

-- where a walk begins, and where it goes first
first_step : (R : ℕ → ℕ → Type 0) (x : ℕ) (ys : List ℕ) (z : ℕ) → Chain R (x ∷ (ys ++ z ∷ [])) → (y : ℕ) × R x y
first_step R x [] z c = (z, c.0)
first_step R x (y ∷ ys) z c = (y, c.0)

-- of a walk of one step or more the first server stands before the last
behind : (net : Net) (xs : List ℕ) → IsOrder net xs → (x : ℕ) (ys : List ℕ) (z k : ℕ) → Chain (IsNext net) (x ∷ (ys ++ z ∷ []))
    → k < length xs → get_or xs k 0 ≡ z → (i : ℕ) × (i < k) × (get_or xs i 0 ≡ x)
behind net xs o x [] z k c h is = of_front xs k x (omega arith) (goes_forward net xs x z k o c.0 h is)
behind net xs o x (y ∷ ys) z k c h is =
    let rest = behind net xs o y ys z k c.1 h is in
    let first = of_front xs rest.0 x (omega (arith, rest.1)) (goes_forward net xs x y rest.0 o c.0 (omega (arith, rest.1)) rest.2) in
    (first.0, omega (arith, first.1, rest.1), first.2)

-- so a walk that comes back has a place before each place
no_place : (net : Net) (xs : List ℕ) → IsOrder net xs → (x : ℕ) (ys : List ℕ) → Chain (IsNext net) (x ∷ (ys ++ x ∷ [])) → (n k : ℕ)
    → k < n → k < length xs → get_or xs k 0 ≡ x → ⊥
no_place net xs o x ys c zero k less h is = absurd (omega arith)
no_place net xs o x ys c (suc n) k less h is =
    let early = behind net xs o x ys x k c h is in
    no_place net xs o x ys c n early.0 (omega (arith, early.1)) (omega (arith, early.1)) early.2

feed_forward : (net : Net) (xs : List ℕ) → IsAccepted net → IsOrder net xs → IsFeedForward net
feed_forward net xs kept o walk w =
    let P : List ℕ → Type 0 = λ v. Chain (IsNext net) v in
    let steps = subst P w.is w.steps in
    let first = first_step (IsNext net) w.start w.between w.start steps in
    let s = place_of xs w.start ((has_each_server net xs o).each w.start (first_in_range net w.start first.0 kept first.1)) in
    no_place net xs o w.start w.between steps (suc s.place) s.place (omega arith) s.within s.is

pub cycle_is_closed : (net : Net) (walk : List ℕ) → IsCycle net walk → IsClosed (IsNext net) walk
cycle_is_closed net walk r = record {
  start = r.ring.start;
  between = r.ring.between;
  is = r.ring.is;
  steps = weaker (IsFirstBefore net) (IsNext net) (λ a b h. h.meets.0) walk r.ring.steps;
}

pub order_or_cycle : OrderOrCycle
order_or_cycle = record {
  feed_forward = feed_forward;
  no_cycle = λ net xs walk kept o r.
      feed_forward net xs kept o walk (cycle_is_closed net walk r);
}
