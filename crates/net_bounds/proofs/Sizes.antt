-- The longest packets of queues and flows.
use Rattle.std.specs.Prelude.{◌≡◌, ℕ, ◌≤◌, nat_lt, true, List, [], ◌∷◌}
use Rattle.std.proofs.Common.{arith, sym, ap, subst, inl, inr}
use Rattle.std.proofs.Math.Nat.{le-max_left, le-max_right}
use Rattle.std.proofs.lemmas.Bool.{eqb-true}
use Rattle.run_laws.specs.Runs.{SpecRun}
use Rattle.run_laws.specs.Cards.{Card, of_flow, of_queue, after_queue}
use Rattle.run_laws.specs.Premises.{KeepsSizes}
use Rattle.run_laws.proofs.Arrivals.{arrivals_map}
use Rattle.net_model.specs.Networks.{Net}
use Rattle.net_cells.specs.Numbered.{packet, queue_of_hop}
use Rattle.net_cells.specs.declared.visit.Visit.{Visit}
use Rattle.net_cells.specs.Visits.{visits, visits_in, visits_after, longest_of, longest, longest_after}
use Rattle.net_cells.specs.Meanings.{CellTable}
use Rattle.net_cells.proofs.Lists.{has_filter}
use Rattle.net_bounds.specs.Promises.{seen_by}
use Rattle.net_bounds.proofs.Routed.{hop_at}
use Rattle.net_bounds.proofs.Arriving.{AtServer, IsVisiting, all_visiting, card_visit, has_card, has_in}
use Rattle.run_laws.proofs.Members.{Has}

pub longest_most : (net : Net) (vs : List Visit) (v : Visit) → Has vs v → packet net v.flow ≤ longest_of net vs
longest_most net [] v h = absurd h
longest_most net (u ∷ vs) v (inl e) =
    let same : packet net u.flow ≡ packet net v.flow = ap (λ (w : Visit). packet net w.flow) e in
    omega (arith, same, le-max_left (packet net u.flow) (longest_of net vs))
longest_most net (u ∷ vs) v (inr h) =
    let rest = longest_most net vs v h in
    omega (arith, rest, le-max_right (packet net u.flow) (longest_of net vs))

pub queue_sizes : (net : Net) (at : CellTable) (run : SpecRun) (s q : ℕ) → AtServer net at run s
    → KeepsSizes (of_queue q) (longest net s q) (seen_by net run s)
queue_sizes net at run s q w =
    arrivals_map (IsVisiting net s) (λ c. of_queue q c ≡ true → c.bits ≤ longest net s q) one (seen_by net run s)
    (all_visiting net at run s w)
  where
    one : (c : Card) → IsVisiting net s c → of_queue q c ≡ true → c.bits ≤ longest net s q
    one c v e =
        let most = longest_most net (visits_in net s q) (card_visit net s c)
        (has_in net s q c v (eqb-true c.queue q e)) in
        let small = v.small in
        omega arith

pub after_sizes : (net : Net) (at : CellTable) (run : SpecRun) (s q : ℕ) → AtServer net at run s
    → KeepsSizes (after_queue q) (longest_after net s q) (seen_by net run s)
after_sizes net at run s q w =
    arrivals_map (IsVisiting net s) (λ c. after_queue q c ≡ true → c.bits ≤ longest_after net s q) one
    (seen_by net run s) (all_visiting net at run s w)
  where
    one : (c : Card) → IsVisiting net s c → after_queue q c ≡ true → c.bits ≤ longest_after net s q
    one c v e =
        let later : nat_lt q (queue_of_hop net c.flow (hop_at net c.flow s)) ≡ true =
        subst (λ (p : ℕ). nat_lt q p ≡ true) (sym v.queue) e in
        let there = has_filter (λ u. nat_lt q (queue_of_hop net u.flow u.hop)) (visits net s) (card_visit net s c)
        (has_card net s c v) later in
        let most = longest_most net (visits_after net s q) (card_visit net s c) there in
        let small = v.small in
        omega arith

pub flow_sizes : (net : Net) (at : CellTable) (run : SpecRun) (s i : ℕ) → AtServer net at run s
    → KeepsSizes (of_flow i) (packet net i) (seen_by net run s)
flow_sizes net at run s i w =
    arrivals_map (IsVisiting net s) (λ c. of_flow i c ≡ true → c.bits ≤ packet net i) one (seen_by net run s)
    (all_visiting net at run s w)
  where
    one : (c : Card) → IsVisiting net s c → of_flow i c ≡ true → c.bits ≤ packet net i
    one c v e = subst (λ (j : ℕ). c.bits ≤ packet net j) (eqb-true c.flow i e) v.small
