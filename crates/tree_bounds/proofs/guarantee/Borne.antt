-- A queue that has a promise bears its load: of the service that gives its delay, by lines or by stairs, a line that is no faster is nowhere
-- below what comes, and so is as fast as the load.
use Rattle.std.specs.Prelude.{Option, Some, None, MatchOption, ◌≡◌, ◌⊎◌, ◌+◌, ◌*◌, ◌/◌, ◌<◌, ◌≤◌, ◌++◌, ℕ, zero, suc, List, [], ◌∷◌, length, get_or, sum}
use Rattle.std.specs.List.{sum_by}
use Rattle.std.specs.Option.{option_map}
use Rattle.std.proofs.Common.{arith, sym, ap, ◌∙◌, refl, subst, inl, inr}
use Rattle.std.proofs.lemmas.List.Sums.{sum_by-append}
use Rattle.arrival_lines.specs.Delays.{IsDelayAt}
use Rattle.arrival_lines.specs.Queues as of_lines
use Rattle.arrival_lines.specs.declared.grid.Part.{Part}
use Rattle.arrival_lines.specs.declared.grid.Queue.{Queue}
use Rattle.arrival_lines.specs.declared.grid.Service.{Service}
use Rattle.arrival_stairs.specs.BelowLines.{line_parts}
use Rattle.arrival_stairs.specs.declared.stairs.Bundle.{Bundle}
use Rattle.arrival_stairs.specs.Queues.{IsLeastOfBoth}
use Rattle.arrival_stairs.specs.Stays.{IsStay}
use Rattle.port_bounds.specs.Incoming.{Incoming, queue_in, both, joined_parts, longest_frame_of, before, behind}
use Rattle.port_bounds.specs.Ports.{port_service}
use Rattle.port_bounds.specs.Services.{IsLeft, IsServiceAt}
use Rattle.port_bounds.specs.StairRows.{IsStairRow, IsStairRowBy, IsLeastStairRow}
use Rattle.port_bounds.specs.StairsIncoming.{StairsIn, stairs_at, line_incomings}
use Rattle.port_bounds.proofs.Queues.{parts_cons}
use Rattle.port_bounds.proofs.StairsHeld.{at_line}
use Rattle.tree_network.specs.declared.network.Discipline.{Discipline}
use Rattle.tree_network.specs.declared.network.Discipline.TheVariants.{Fifo, Priority, Drr}
use Rattle.tree_network.specs.declared.network.Port.{Port}
use Rattle.tree_bounds.specs.guarantee.Loads.{sum_below}
use Rattle.tree_bounds.proofs.guarantee.LastSteps.{carries, long_run_rate}
use Rattle.tree_bounds.proofs.guarantee.LoadSums.{below_first}

-- ---- a service that gives a delay is as fast as the load
by_lines : (parts : List Part) (service : Service) (d : ℕ) → IsDelayAt parts service d → sum_by long_run_rate parts ≤ service.rate
by_lines parts service d is = carries parts record { burst = is.over; rate = service.rate } record { above = is.excess.over }

by_stairs : (bundles : List Bundle) (service : Service) (longest d b : ℕ) → IsStay bundles service longest d b
    → sum_by long_run_rate (line_parts bundles) ≤ service.rate
by_stairs bundles service longest d b is =
    let tail = is.excess.tail in
    let load = carries (line_parts bundles) tail.line tail.step.above in
    let slow = tail.slow in
    omega (arith, load, slow)

-- one of some services, by its place
record Carries (parts : List Part) (services : List Service) : Type 0 where
  place : ℕ
  inside : place < length services
  fast : (e : Service) → sum_by long_run_rate parts ≤ (get_or services place e).rate

of_both : (bundles : List Bundle) (services : List Service) (longest : ℕ) (queue : Queue) → IsLeastOfBoth bundles services longest (Some queue)
    → Carries (line_parts bundles) services
of_both bundles services longest queue is = elim is.least.delay [
  | inl lines ↦
      let parts = line_parts bundles in
      let Q : Option Queue → Type 0 = λ o. MatchOption o (of_lines.IsUnbounded parts services) (λ (x : Queue). of_lines.IsLeastQueue parts services longest x) in
      let least : of_lines.IsLeastQueue parts services longest lines.queue = subst Q lines.is is.by_lines in
      record {
        place = least.delay.place;
        inside = least.delay.inside;
        fast = λ e. by_lines parts (get_or services least.delay.place e) lines.queue.delay (least.delay.is e);
      }
  | inr stairs ↦ record {
    place = stairs.1.place;
    inside = stairs.1.inside;
    fast = λ e. by_stairs bundles (get_or services stairs.1.place e) longest queue.delay stairs.0 (stairs.1.is e);
  }
]

-- ---- the load with what is served before it is within the rate
abbrev BearsWith : Option (List Part) → (load rate : ℕ) → Type 0
BearsWith others load rate = (first : List Part) × (others ≡ Some first) × (sum_by long_run_rate first + load ≤ rate)

abbrev pub Bears : Discipline → (rate load : ℕ) → List Incoming → ℕ → Type 0
Bears Fifo rate load queues q = load ≤ rate
Bears (Priority n) rate load queues q = BearsWith (joined_parts (before q queues)) load rate
Bears (Drr quanta) rate load queues q =
    (load ≤ rate * get_or quanta.items q 0 / sum quanta.items) ⊎ BearsWith (joined_parts (before q queues ++ behind q queues)) load rate

left_bears : (own : Service) (others : Option (List Part)) (frame load : ℕ) (service : Service) → IsLeft own others frame service → load ≤ service.rate
    → BearsWith others load own.rate
left_bears own None frame load service is fast = absurd is
left_bears own (Some parts) frame load service is fast =
    let line = carries parts is.line is.step.above in
    let slower = is.slower in
    let e = ap (λ (x : Service). x.rate) is.is in
    (parts, refl, omega (arith, line, slower, e, fast))

service_bears : (d : Discipline) (own : Service) (load : ℕ) (queues : List Incoming) (q : ℕ) (service : Service) → IsServiceAt d own queues q service
    → load ≤ service.rate → Bears d own.rate load queues q
service_bears Fifo own load queues q service is fast = let e = ap (λ (x : Service). x.rate) is in omega (arith, e, fast)
service_bears (Priority n) own load queues q service is fast =
    left_bears own (joined_parts (before q queues)) (1024 * longest_frame_of (behind q queues)) load service is fast
service_bears (Drr quanta) own load queues q service (inl is) fast = inl (let e = ap (λ (x : Service). x.rate) is in omega (arith, e, fast))
service_bears (Drr quanta) own load queues q service (inr is) fast = inr (left_bears own (joined_parts (before q queues ++ behind q queues)) 0 load service is fast)

-- ---- of a queue, by stairs
pub record IsBorne (port : Port) (queues : List Incoming) (q : ℕ) : Type 0 where
  pub parts : List Part
  pub are : (queue_in queues q).parts ≡ Some parts
  pub bears : Bears port.discipline (port_service port).rate (sum_by long_run_rate parts) queues q

known_borne : (port : Port) (stairs : List StairsIn) (q : ℕ) (bundles : List Bundle) (queue : Queue) → (stairs_at stairs q).bundles ≡ Some bundles
    → IsLeastStairRow port stairs q bundles (Some queue) → IsBorne port (line_incomings stairs) q
known_borne port stairs q bundles queue known row =
    let parts = line_parts bundles in
    let found = of_both bundles row.services (1024 * (stairs_at stairs q).longest) queue row.least in
    let any : Service = record { rate = 0; debt = 0 } in
    record {
      parts = parts;
      are = ap (λ (x : Incoming). x.parts) (at_line stairs q) ∙ ap (option_map line_parts) known;
      bears = service_bears port.discipline (port_service port) (sum_by long_run_rate parts) (line_incomings stairs) q (get_or row.services found.place any)
          (row.all.each found.place any found.inside) (found.fast any);
    }

pub row_borne : (port : Port) (stairs : List StairsIn) (q : ℕ) (queue : Queue) → 0 < (stairs_at stairs q).longest → IsStairRow port stairs q (Some queue)
    → IsBorne port (line_incomings stairs) q
row_borne port stairs q queue some is = by_row (stairs_at stairs q).longest (stairs_at stairs q).bundles refl some is
  where
    by_row : (longest : ℕ) (bundles : Option (List Bundle)) → (stairs_at stairs q).bundles ≡ bundles → 0 < longest
        → IsStairRowBy port stairs q longest bundles (Some queue) → IsBorne port (line_incomings stairs) q
    by_row zero bundles e h r = absurd (omega (arith, h))
    by_row (suc longest) None e h r = absurd (let f : Some queue ≡ None = r in cc)
    by_row (suc longest) (Some bundles) e h r = known_borne port stairs q bundles queue e r

-- ---- the parts of several queues carry the loads of these
pub record AreBoth (one other : Option (List Part)) (all : List Part) : Type 0 where
  pub first : List Part
  pub last : List Part
  pub first_is : one ≡ Some first
  pub last_is : other ≡ Some last
  pub load : sum_by long_run_rate all ≡ sum_by long_run_rate first + sum_by long_run_rate last

pub of_two : (one other : Option (List Part)) (all : List Part) → both one other ≡ Some all → AreBoth one other all
of_two None other all e = absurd (let f : None ≡ Some all = e in cc)
of_two (Some first) None all e = absurd (let f : None ≡ Some all = e in cc)
of_two (Some first) (Some last) all e =
    let f : Some (first ++ last) ≡ Some all = e in
    let is : first ++ last ≡ all = cc in
    record {
      first = first;
      last = last;
      first_is = refl;
      last_is = refl;
      load = ap (sum_by long_run_rate) (sym is) ∙ sum_by-append long_run_rate first last;
    }

pub joined_carry : (queues : List Incoming) (load : ℕ → ℕ) (all : List Part) → joined_parts queues ≡ Some all
    → ((i : ℕ) (parts : List Part) → i < length queues → (queue_in queues i).parts ≡ Some parts → load i ≤ sum_by long_run_rate parts)
    → sum_below load (length queues) ≤ sum_by long_run_rate all
joined_carry [] load all e each = omega arith
joined_carry (x ∷ xs) load all e each =
    let two = of_two x.parts (joined_parts xs) all (sym (parts_cons x xs) ∙ e) in
    let rest = joined_carry xs (λ i. load (suc i)) two.last two.last_is (λ i parts h known. each (suc i) parts (omega (arith, h)) known) in
    let one = each 0 two.first (omega arith) two.first_is in
    let first = below_first load (length xs) in
    let sums = two.load in
    omega (arith, rest, one, first, sums)
