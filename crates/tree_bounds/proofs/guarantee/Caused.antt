-- A queue of a table has no promise only by its causes.
use Rattle.std.specs.Prelude.{Option, Some, None, MatchOption, ◌≡◌, ◌⊎◌, ℕ, zero, suc, ◌+◌, ◌-◌, ◌*◌, ◌<◌, ◌≤◌, List, [], ◌∷◌, All, length, map}
use Rattle.std.specs.List.{sum_by}
use Rattle.std.specs.Option.{option_map}
use Rattle.std.proofs.Common.{arith, sym, ap, ◌∙◌, refl, subst, inl, inr}
use Rattle.std.proofs.lemmas.Bool.{cases_lt}
use Rattle.arrival_lines.specs.Delays.{IsDelayAt}
use Rattle.arrival_lines.specs.Queues.{IsUnbounded, IsLeastQueue}
use Rattle.arrival_lines.specs.declared.grid.Part.{Part}
use Rattle.arrival_lines.specs.declared.grid.Queue.{Queue}
use Rattle.arrival_lines.specs.declared.grid.Service.{Service}
use Rattle.arrival_stairs.specs.BelowLines.{line_parts}
use Rattle.arrival_stairs.specs.declared.stairs.Bundle.{Bundle}
use Rattle.arrival_stairs.specs.declared.stairs.Stair.{Stair}
use Rattle.arrival_stairs.specs.Queues.{IsNone}
use Rattle.arrival_stairs.specs.Stays.{IsStay}
use Rattle.port_bounds.specs.StairsIncoming.{StairsIn, stairs_at, line_incomings}
use Rattle.port_bounds.specs.StairRows.{IsStairRow, IsStairRowBy, IsLeastStairRow}
use Rattle.port_bounds.proofs.StairsHeld.{at_line}
use Rattle.port_bounds.specs.Incoming.{Incoming, queue_in, joined_parts, longest_frame_of, behind}
use Rattle.port_bounds.specs.Ports.{port_service}
use Rattle.port_bounds.specs.Services.{IsLeft, IsLeftBy, IsServiceAt, IsServiceOf}
use Rattle.tree_network.specs.Networks.{port_at, queues_of}
use Rattle.tree_network.specs.Spots.{spots_of}
use Rattle.tree_bounds.specs.Bunches.{arriving_of}
use Rattle.tree_bounds.specs.Equations.{MeetsEquations, arrivals_of, comes_to}
use Rattle.tree_bounds.specs.Tables.{row_in}
use Rattle.tree_bounds.proofs.Bunched.{lines_of_coming}
use Rattle.tree_network.specs.declared.network.Discipline.{Discipline}
use Rattle.tree_network.specs.declared.network.Discipline.TheVariants.{Fifo, Priority, Drr}
use Rattle.tree_network.specs.declared.network.Network.{Network}
use Rattle.tree_network.specs.declared.network.Port.{Port}
use Rattle.tree_bounds.specs.guarantee.Causes.{IsCause, IsLong, IsOverloaded, IsSlow, NoneHasACause, first_served, rates_of}
use Rattle.tree_bounds.specs.guarantee.Causes.IsCause.{unbounded, unbounded_before, overloaded, long}
use Rattle.tree_bounds.proofs.guarantee.LastSteps.{last_step, not_endless}

-- ---- a service that is as fast as the parts
record IsFast (P : Service → Type 0) (parts : List Part) : Type 0 where
  service : Service
  is : P service
  some : 0 < service.rate
  fast : sum_by (λ part. part.sum.rate) parts ≤ service.rate

-- one of some services is, or each is slower
fast_or_slow : (P : Service → Type 0) (parts : List Part) (services : List Service) → All P services
    → IsFast P parts ⊎ All (λ s. IsSlow s (Some parts)) services
fast_or_slow P parts [] each = inr (λ k d h. absurd (omega (arith, h)))
fast_or_slow P parts (x ∷ xs) each = by_rest (fast_or_slow P parts xs (λ k d h. each (suc k) d (omega (arith, h))))
  where
    more : IsSlow x (Some parts) → All (λ s. IsSlow s (Some parts)) xs → All (λ s. IsSlow s (Some parts)) (x ∷ xs)
    more first rest zero d h = first
    more first rest (suc k) d h = rest k d (omega (arith, h))

    by_rest : IsFast P parts ⊎ All (λ s. IsSlow s (Some parts)) xs → IsFast P parts ⊎ All (λ s. IsSlow s (Some parts)) (x ∷ xs)
    by_rest (inl fast) = inl fast
    by_rest (inr rest) = elim (cases_lt 0 x.rate) [
      | inr none ↦ inr (more (inl (omega (arith, none))) rest)
      | inl some ↦ elim (cases_lt x.rate (sum_by (λ (part : Part). part.sum.rate) parts)) [
        | inl slow ↦ inr (more (inr slow) rest)
        | inr fast ↦ inl record { service = x; is = each 0 x (omega arith); some = some; fast = fast }
      ]
    ]

not_slow : (P : Service → Type 0) (parts : List Part) (fast : IsFast P parts) → ¬ IsSlow fast.service (Some parts)
not_slow P parts fast (inl none) = let some = fast.some in absurd (omega (arith, none, some))
not_slow P parts fast (inr slow) = let most = fast.fast in absurd (omega (arith, slow, most))

-- what the last step of the parts before leaves
left_is_fast : (own : Service) (first parts : List Part) (frame : ℕ) → sum_by (λ part. part.sum.rate) first < own.rate
    → sum_by (λ part. part.sum.rate) first + sum_by (λ part. part.sum.rate) parts ≤ own.rate → IsFast (IsLeftBy own first frame) parts
left_is_fast own first parts frame some all =
    let last = last_step first in
    let slow = last.rate in
    record {
      service = record { rate = own.rate - last.line.rate; debt = own.debt + last.line.burst + frame };
      is = record { line = last.line; step = last.step; slower = omega (arith, slow, some); is = refl };
      some = omega (arith, slow, some);
      fast = omega (arith, slow, all);
    }

-- ---- of a queue, by stairs
module _ (port : Port) (stairs : List StairsIn) (q : ℕ) where
  abbrev queues : List Incoming
  queues = line_incomings stairs

  fast_at : (d : Discipline) (first parts : List Part) → joined_parts (first_served d q queues) ≡ Some first
      → sum_by (λ part. part.sum.rate) first < (port_service port).rate
      → sum_by (λ part. part.sum.rate) first + sum_by (λ part. part.sum.rate) parts ≤ (port_service port).rate → IsFast (IsServiceAt d (port_service port) queues q) parts
  fast_at Fifo first parts e some all = record {
    service = port_service port;
    is = refl;
    some = omega (arith, some);
    fast = omega (arith, all);
  }
  fast_at (Priority n) first parts e some all =
      let frame = 1024 * longest_frame_of (behind q queues) in
      let left = left_is_fast (port_service port) first parts frame some all in
      record {
        service = left.service;
        is = subst (λ o. IsLeft (port_service port) o frame left.service) (sym e) left.is;
        some = left.some;
        fast = left.fast;
      }
  fast_at (Drr quanta) first parts e some all =
      let left = left_is_fast (port_service port) first parts 0 some all in
      record {
        service = left.service;
        is = inr (subst (λ o. IsLeft (port_service port) o 0 left.service) (sym e) left.is);
        some = left.some;
        fast = left.fast;
      }

  cause_known : (bundles : List Bundle) → (stairs_at stairs q).bundles ≡ Some bundles → IsLeastStairRow port stairs q bundles None
      → IsCause port queues stairs q
  cause_known bundles be row = by_first (joined_parts (first_served port.discipline q queues)) refl
    where
      parts : List Part
      parts = line_parts bundles

      own : (queue_in queues q).parts ≡ Some parts
      own = ap (λ (w : Incoming). w.parts) (at_line stairs q) ∙ ap (option_map line_parts) be

      by_lines : (o : Option Queue) → MatchOption o (IsUnbounded parts row.services) (λ queue. IsLeastQueue parts row.services (1024 * (stairs_at stairs q).longest) queue)
          → IsNone o → IsUnbounded parts row.services
      by_lines None far none = far
      by_lines (Some queue) least none = absurd none

      long_by : IsFast (IsServiceOf port queues q) parts → IsLong port queues stairs q
      long_by fast = record {
        parts = parts;
        parts_are = own;
        bundles = bundles;
        bundles_are = be;
        service = fast.service;
        is = fast.is;
        some = fast.some;
        fast = subst (λ o. rates_of o ≤ fast.service.rate) (sym own) fast.fast;
        serves = λ never. elim never [
          | inl none ↦ let h = fast.some in absurd (omega (arith, none, h))
          | inr endless ↦ not_endless parts fast.service.rate fast.fast endless
        ];
        lines = λ other delay is d.
            let c = row.all.every other is in
            let far = by_lines row.least.lines row.least.by_lines row.least.least.lines in
            far.long c.0 other delay c.1 (subst (λ (s : Service). IsDelayAt parts s delay) (sym c.2) d);
        by_stairs = λ other delay backlog is d.
            let c = row.all.every other is in
            row.least.least.stairs c.0 other delay backlog c.1 (subst (λ (s : Service). IsStay bundles s (1024 * (stairs_at stairs q).longest) delay backlog) (sym c.2) d);
      }

      slow_by : (first : List Part) → joined_parts (first_served port.discipline q queues) ≡ Some first
          → All (λ s. IsSlow s (Some parts)) row.services → IsOverloaded port queues q
      slow_by first e slow = record {
        slow = slow_each;
        load = elim (cases_lt (sum_by (λ (part : Part). part.sum.rate) first) (port_service port).rate) [
          | inr none ↦ inl (subst (λ o. (port_service port).rate ≤ rates_of o) (sym e) none)
          | inl some ↦ elim (cases_lt (port_service port).rate (sum_by (λ (part : Part). part.sum.rate) first + sum_by (λ (part : Part). part.sum.rate) parts)) [
            | inl over ↦
                inr (subst (λ o. (port_service port).rate < rates_of o + rates_of (queue_in queues q).parts) (sym e)
                (subst (λ o. (port_service port).rate < rates_of (Some first) + rates_of o) (sym own) over))
            | inr fits ↦
                let fast = fast_at port.discipline first parts e some fits in
                absurd (not_slow (IsServiceOf port queues q) parts fast (subst (λ o. IsSlow fast.service o) own (slow_each fast.service fast.is)))
          ]
        ];
      }
        where
          slow_each : (service : Service) → IsServiceOf port queues q service → IsSlow service (queue_in queues q).parts
          slow_each service is =
              let c = row.all.every service is in
              subst (λ o. IsSlow service o) (sym own) (subst (λ (s : Service). IsSlow s (Some parts)) c.2 (slow c.0 service c.1))

      by_first : (o : Option (List Part)) → joined_parts (first_served port.discipline q queues) ≡ o → IsCause port queues stairs q
      by_first None e = unbounded_before e
      by_first (Some first) e = elim (fast_or_slow (IsServiceOf port queues q) parts row.services row.all.each) [
        | inl fast ↦ long (long_by fast)
        | inr slow ↦ overloaded (slow_by first e slow)
      ]

  pub cause_of : IsStairRow port stairs q None → IsCause port queues stairs q
  cause_of row = by_row (stairs_at stairs q).longest (stairs_at stairs q).bundles refl row
    where
      by_row : (longest : ℕ) (bundles : Option (List Bundle)) → (stairs_at stairs q).bundles ≡ bundles → IsStairRowBy port stairs q longest bundles None
          → IsCause port queues stairs q
      by_row zero bundles e none = absurd (let f : None ≡ Some record { delay = 0; backlog = 0 } = none in cc)
      by_row (suc longest) None e none = unbounded (ap (λ (w : Incoming). w.parts) (at_line stairs q) ∙ ap (option_map line_parts) e)
      by_row (suc longest) (Some bundles) e least = cause_known bundles e least

-- ---- of a queue of a table
pub record CausedBy (net : Network) (stair : ℕ → Option Stair) (s q : ℕ) : Type 0 where
  pub stairs : List StairsIn
  pub are : map arriving_of stairs ≡ comes_to net stair s
  pub cause : IsCause (port_at net s) (arrivals_of net stair s) stairs q

pub caused : (net : Network) (row : ℕ → ℕ → Option Queue) (stair : ℕ → Option Stair) (s q : ℕ) → MeetsEquations net row stair → s < length net.ports.items
    → q < queues_of (port_at net s).discipline → row s q ≡ None → CausedBy net stair s q
caused net row stair s q equations inside queue none =
    let port = port_at net s in
    let at = equations.rows s q inside queue in
    let is = subst (λ r. IsStairRow port at.queues q r) none at.row in
    let lines = lines_of_coming net (spots_of net) stair s (queues_of port.discipline) at.queues at.are in
    record {
      stairs = at.queues;
      are = at.are;
      cause = subst (λ (xs : List Incoming). IsCause port xs at.queues q) lines (cause_of port at.queues q is);
    }

pub none_has_a_cause : NoneHasACause
none_has_a_cause net table s q is inside queue none =
    let by = caused net (row_in table) is.stair s q is.equations inside queue none in
    record { stair = is.stair; equations = is.equations; stairs = by.stairs; are = by.are; cause = by.cause }
