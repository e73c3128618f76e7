-- The numbers bound every run over the fork that keeps its premises: each queue by what its parts bring.
use Rattle.std.specs.Prelude.{Some, None, ◌≡◌, ◌<◌, ℕ, zero, suc, pos, ◌==◌, true}
use Rattle.std.proofs.Common.{arith, sym, ap, refl, inl, inr}
use Rattle.std.proofs.lemmas.Bool.{eqb-true, ne_eqb}
use Rattle.rational.specs.Rational.{ℚ, int, ◌+ℚ◌, ◌≤ℚ◌}
use Rattle.rational.specs.MinMax.{min_q}
use Rattle.rational.specs.Extended.{◌≤ₑ◌}
use Rattle.rational.specs.declared.Extended.TheVariants.{Fin}
use Rattle.rational.proofs.ExtendedOrder.{le_ext_refl, min_left}
use Rattle.rational.proofs.Linear.{with1, with2}
use Rattle.min_plus.specs.Formulas.{IsService}
use Rattle.run_laws.specs.Runs.{SpecRun}
use Rattle.run_laws.specs.Bounds.{IsQueueBounded}
use Rattle.run_laws.specs.Cards.{whole, of_queue}
use Rattle.run_laws.specs.Delays.{hop_delays}
use Rattle.run_laws.specs.Premises.{KeepsArrivals}
use Rattle.run_laws.specs.Routes.{first_server, server_at}
use Rattle.run_laws.specs.Servers.{Fifo}
use Rattle.run_laws.specs.Views.{view}
use Rattle.run_laws.specs.Weaker.{IsNowhereAbove}
use Rattle.run_laws.proofs.Arrivals.{arrivals_all}
use Rattle.run_laws.proofs.Backlog.{backlog_from_gap}
use Rattle.run_laws.proofs.Classes.{delay_from_wait}
use Rattle.run_laws.proofs.Delay.{none_above_infinity, one_wait_is_enough}
use Rattle.run_laws.proofs.FifoQueue.{fifo_queue_is_served}
use Rattle.run_laws.proofs.Latency.{latency_is_zero_at_start, latency_rises}
use Rattle.run_laws.proofs.Small.{le_t, lt_t}
use Rattle.run_laws.proofs.Weaker.{greater_kept}
use Rattle.tree_runs.specs.Trees.{tree_of, hops_in, Hangs, IsTree, IsOverTrees, flat, IsLawfulTree, KeepsTreePremises}
use Rattle.tree_runs.specs.Orders.{TreeGoesForward}
use Rattle.tree_runs.specs.Parts.{tree_parts_curve, AreTreePaced}
use Rattle.tree_runs.specs.Bounded.{GrowsByStays, stay_in, QueuesAreBounded, IsBoundedByQueues}
use Rattle.tree_runs.specs.BoundedByParts.{QueuesKeepParts}
use Rattle.tree_runs.proofs.Bounded.{trees_are_bounded_by_parts}
use Rattle.tree_runs.proofs.Examples as fork
use Rattle.tree_runs.proofs.Packets.{tree_queues_keep_sizes}
use Rattle.tree_runs.proofs.Premises.{sizes_kept, enters_kept}
use Rattle.tree_runs.proofs.Stairs.{stair_rises}
use Rattle.tree_runs.proofs.Views.{tree_views_are_lawful}
use Rattle.worked_trees.specs.PacedFork.{paced_fork, longest, at_entry, service, delay, held, jitter, arrival, BranchReachesItsSum}
use Rattle.worked_trees.proofs.Numbers.{waits_at_most, above_by_one}
use Rattle.worked_trees.proofs.PacedForkRun.{is_lawful, to_the_first, to_the_second, stay, held_at_0, keeps_service, keeps_arrivals}

-- ---- the network
is_tree : IsTree paced_fork 0
is_tree = record { servers = fork.is_tree.servers; hangs = fork.is_tree.hangs }

over_trees : IsOverTrees paced_fork
over_trees zero live = is_tree
over_trees (suc i) live = absurd (cc)

-- what hangs on a server hangs on the first one
record IsOnFirst (a b : ℕ) : Type 0 where
  on : a ≡ 0
  later : 0 < b

on_first : (a b : ℕ) → Hangs paced_fork 0 a b → IsOnFirst a b
on_first a zero h = absurd (cc)
on_first a (suc zero) h = record { on = let e : 0 ≡ a = cc in sym e; later = omega arith }
on_first a (suc (suc zero)) h = record { on = let e : 0 ≡ a = cc in sym e; later = omega arith }
on_first a (suc (suc (suc b))) h =
    let k : None ≡ Some a = rw (
      ne_eqb 0 (suc (suc (suc b))) (λ e. omega arith),
      ne_eqb 1 (suc (suc (suc b))) (λ e. omega arith),
      ne_eqb 2 (suc (suc (suc b))) (λ e. omega arith),
    ) at h in
    absurd (cc)

forward : TreeGoesForward paced_fork (λ s. s)
forward zero a b live h = let k = on_first a b h in let first = k.on in let later = k.later in omega arith
forward (suc i) a b live h = absurd (cc)

grows : GrowsByStays paced_fork arrival (stay_in paced_fork delay)
grows zero a zero live h t on = absurd (cc)
grows zero a (suc b) live h t on =
    rw (on_first a (suc b) h).on
    (stair_rises (whole 12000) (whole 1000) (whole 0) (whole 130) (t +ℚ whole 130) t (le_t 0 12000 refl)
    (lt_t 0 1000 refl) (with1 t (λ c. omega (arith, c.le, c.lt, c.same))))
grows (suc i) a b live h t on = absurd (cc)

on_time : (s q : ℕ) → Fin (int (pos 0)) ≤ₑ delay s q
on_time s zero = le_t 0 130 refl
on_time s (suc q) = tt

known_paced : (s q : ℕ) → s < 3 → AreTreePaced paced_fork s q longest (λ p. 12000) (λ p. whole 100)
known_paced s q l = record { pace = paces; some = λ p k. le_t 0 100 refl; none_longer = λ p i e. omega arith }
  where
    paces : (p : ℕ) → p < 3 → (server_at (flat paced_fork) p).pace ≡ Some (whole 100)
    paces zero k = refl
    paces (suc zero) k = refl
    paces (suc (suc zero)) k = refl
    paces (suc (suc (suc p))) k = absurd (omega arith)

-- ---- what the parts of a queue bring is no more than what the one flow does
enters_alone : (x : ℚ) → whole 0 +ℚ (whole 0 +ℚ x) ≤ℚ x
enters_alone x = with1 x (λ c. omega (arith, c.le, c.lt, c.same))

comes_cut : (x y : ℚ) → whole 0 +ℚ min_q (whole 0 +ℚ x) y ≤ℚ x
comes_cut x y =
    let less : min_q (whole 0 +ℚ x) y ≤ℚ whole 0 +ℚ x = min_left (Fin (whole 0 +ℚ x)) (Fin y) in
    with2 x (min_q (whole 0 +ℚ x) y) (λ c. omega (arith, c.le, c.lt, c.same))

parts_below : (s : ℕ) → s < 3 → (t : ℚ) → whole 0 ≤ℚ t
    → tree_parts_curve paced_fork s 0 (λ i. arrival i s) (λ p. 12000) (λ p. whole 100) t ≤ₑ arrival 0 s t
parts_below zero l t on = enters_alone _
parts_below (suc zero) l t on = comes_cut _ _
parts_below (suc (suc zero)) l t on = comes_cut _ _
parts_below (suc (suc (suc s))) l t on = absurd (omega arith)

-- ---- each queue is bounded
jitter_on : (i s : ℕ) → (whole 0 ≤ℚ jitter i s) × (jitter i s ≤ℚ whole 130)
jitter_on i zero = (le_t 0 0 refl, le_t 0 130 refl)
jitter_on i (suc s) = (le_t 0 130 refl, le_t 130 130 refl)

is_fifo : (s : ℕ) → s < 3 → (server_at (flat paced_fork) s).discipline ≡ Fifo
is_fifo zero l = refl
is_fifo (suc zero) l = refl
is_fifo (suc (suc zero)) l = refl
is_fifo (suc (suc (suc s))) l = absurd (omega arith)

queue_bounded : (run : SpecRun) (s : ℕ) → s < 3 → IsLawfulTree paced_fork run
    → KeepsTreePremises paced_fork longest at_entry service run
    → KeepsArrivals (of_queue 0) (arrival 0 s) (view (flat paced_fork) run s)
    → IsQueueBounded (flat paced_fork) run s 0 (Fin (whole 130)) (Fin (whole 12000))
queue_bounded run s l lawful keeps arrives =
    let V = view (flat paced_fork) run s in
    let server = server_at (flat paced_fork) s in
    let seen = tree_views_are_lawful paced_fork run s lawful l in
    let kind : IsService (whole 100) (whole 10) (service s) = record { is = λ t on. refl } in
    let rises = latency_rises (whole 100) (whole 10) (service s) (le_t 0 100 refl) kind in
    let serves = fifo_queue_is_served server run.end V (service s) seen (is_fifo s l) (keeps.service s l)
    (latency_is_zero_at_start (whole 100) (whole 10) (service s) (le_t 0 10 refl) kind) in
    let early = jitter_on 0 s in
    record {
      delays = delay_from_wait server run.end V (of_queue 0) 0 (arrival 0 s) (service s) (whole 130) seen
          (arrivals_all (λ c. of_queue 0 c ≡ true → c.queue ≡ 0) (λ c e. eqb-true c.queue 0 e) V)
          arrives serves (le_t 0 130 refl)
          (one_wait_is_enough (arrival 0 s) (service s) (whole 130) (le_t 0 130 refl) rises
          (λ t on. waits_at_most (jitter 0 s) t early.0 early.1 on));
      backlogs = backlog_from_gap server run.end V (of_queue 0) 12000 (arrival 0 s) (service s) (Fin (whole 12000)) seen
          (tree_queues_keep_sizes paced_fork run longest s (λ q. q == 0) 12000 lawful
          (sizes_kept paced_fork longest at_entry service run keeps) (λ i live passes e. omega arith)) arrives serves
          (above_by_one (jitter 0 s) early.0 early.1);
    }

queues : (run : SpecRun) (s : ℕ) → s < 3 → IsLawfulTree paced_fork run
    → KeepsTreePremises paced_fork longest at_entry service run
    → QueuesKeepParts paced_fork run arrival (λ s q p. 12000) (λ p. whole 100) s
    → QueuesAreBounded paced_fork run delay held s
queues run s l lawful keeps parts zero =
    queue_bounded run s l lawful keeps
    (greater_kept (view (flat paced_fork) run s) (of_queue 0)
    (tree_parts_curve paced_fork s 0 (λ i. arrival i s) (λ p. 12000) (λ p. whole 100)) (arrival 0 s)
    (parts_below s l) (parts 0))
queues run s l lawful keeps parts (suc q) = record {
  delays = none_above_infinity (hop_delays (of_queue (suc q)) run.end (view (flat paced_fork) run s));
  backlogs = λ t in_run. tt;
}

first_kept : (i : ℕ) → (tree_of paced_fork i).live ≡ true
    → IsNowhereAbove (at_entry i) (arrival i (first_server (hops_in (tree_of paced_fork i).nodes)))
first_kept zero live t on = le_ext_refl (at_entry 0 t)
first_kept (suc i) live t on = absurd (cc)

bounded : (run : SpecRun) → IsLawfulTree paced_fork run → KeepsTreePremises paced_fork longest at_entry service run
    → IsBoundedByQueues paced_fork run arrival delay held
bounded run lawful keeps =
    trees_are_bounded_by_parts paced_fork run (λ s. s) longest (λ s q p. 12000) (λ p. whole 100) arrival delay held
    lawful over_trees forward
    (sizes_kept paced_fork longest at_entry service run keeps)
    (enters_kept paced_fork longest at_entry service run arrival keeps first_kept) known_paced on_time grows
    (λ s l parts. queues run s l lawful keeps parts)

-- ---- and the run that reaches the sum of the branch keeps the premises
pub a_branch_reaches_its_sum : BranchReachesItsSum
a_branch_reaches_its_sum = record {
  over_trees = over_trees;
  forward = forward;
  paced = known_paced;
  nonneg = on_time;
  grows = grows;
  bounded = bounded;
  lawful = is_lawful;
  keeps = record {
    sizes = λ i live. (λ e. omega arith, tt);
    arrivals = λ i live s t l. keeps_arrivals i s t l;
    service = keeps_service;
  };
  is_branch = (inl refl, refl, (inr (inl refl), refl, tt));
  its_sum = ap (λ (x : ℚ). Fin x) (with1 (whole 0) (λ c. omega (arith, c.le, c.lt, c.same)));
  its_delay = to_the_first;
  at_the_other = to_the_second;
  its_stay = stay;
  its_backlog = held_at_0;
}
