-- The rates of services, and a row as the calls make it.
use Rattle.std.specs.Prelude.{◌≡◌, ◌<◌, ◌≤◌, ◌*◌, ◌/◌, ◌^◌, ◌+◌, ◌++◌, ℕ, zero, suc, List, [], All, length, get_or, sum, Option, Some, None}
use Rattle.std.specs.Option.{option_map}
use Rattle.std.specs.declared.vec.Vec.{Vec}
use Rattle.std.specs.declared.alloc.Global.{Global}
use Rattle.std.proofs.lemmas.Bool.{cases_lt}
use Rattle.std.proofs.lemmas.List.{get_or-map, length-map}
use Rattle.std.proofs.lemmas.List.Sums.{get_or-le-sum_by}
use Rattle.std.proofs.Math.Nat.{div-mul-le_self, mul-le-mul_left}
use Rattle.std.proofs.Common.{arith, sym, ap, ◌∙◌, subst, inl, inr}
use Rattle.arrival_lines.specs.declared.grid.Part.{Part}
use Rattle.arrival_lines.specs.declared.grid.Queue.{Queue}
use Rattle.arrival_lines.specs.declared.grid.Service.{Service}
use Rattle.arrival_stairs.specs.BelowLines.{line_parts}
use Rattle.arrival_stairs.specs.declared.stairs.Bundle.{Bundle}
use Rattle.tree_network.specs.Networks.{PortIsInRange, QuantaAreInRange, queues_of, longest_frame}
use Rattle.tree_network.specs.declared.network.Discipline.{Discipline}
use Rattle.tree_network.specs.declared.network.Discipline.TheVariants.{Fifo, Priority, Drr}
use Rattle.tree_network.specs.declared.network.Port.{Port}
use Rattle.port_bounds.specs.Incoming.{Incoming, incoming, queue_in, joined_parts, longest_frame_of, before, behind}
use Rattle.port_bounds.specs.Ports.{port_service}
use Rattle.port_bounds.specs.Services.{IsLeft, IsServiceAt, IsServiceOf, AreAll}
use Rattle.port_bounds.specs.declared.arrivals.Arrivals.{Arrivals}
use Rattle.port_bounds.proofs.Fewer.{at_queue}
use Rattle.port_bounds.specs.StairsIncoming.{AreStairsInRange, StairsIn, line_incoming, line_incomings, stairs_at, stairs_in, stairs_of}
use Rattle.arrival_stairs.specs.Queues.{IsLeastOfBoth}
use Rattle.port_bounds.specs.declared.stair_arrivals.StairArrivals.{StairArrivals}
use Rattle.port_bounds.proofs.StairsHeld.{at_line}
use Rattle.port_bounds.specs.StairRows.{IsLeastStairRow, IsStairRow, IsStairRowBy}

pub row_known : (port : Port) (queues : List StairsIn) (q : ℕ) (bundles : List Bundle) (row : Option Queue) → 0 < (stairs_at queues q).longest
    → (stairs_at queues q).bundles ≡ Some bundles → IsLeastStairRow port queues q bundles row → IsStairRow port queues q row
row_known port queues q bundles row some known least =
    subst (λ (o : Option (List Bundle)). IsStairRowBy port queues q (stairs_at queues q).longest o row) (sym known) (by_length (stairs_at queues q).longest some)
  where
    by_length : (l : ℕ) → 0 < l → IsStairRowBy port queues q l (Some bundles) row
    by_length zero h = absurd (omega (arith, h))
    by_length (suc l) h = least

-- ---- the calls
pub at_stairs : (queues : List StairArrivals) (q : ℕ) (e : StairArrivals) → q < length queues → stairs_at (stairs_in queues) q ≡ stairs_of (get_or queues q e)
at_stairs queues q e h = get_or-map stairs_of queues q e record { bundles = None; longest = 0 } h

-- the parts of a queue are the lines of its bundles
pub parts_known : (queues : List StairsIn) (by_lines : List Arrivals) (q : ℕ) (bundles : List Bundle) (e : Arrivals) → q < length by_lines
    → incoming by_lines ≡ line_incomings queues → (stairs_at queues q).bundles ≡ Some bundles → option_map (λ v. v.items) (get_or by_lines q e).parts ≡ Some (line_parts bundles)
parts_known queues by_lines q bundles e inside lines known =
    sym (ap (λ (w : Incoming). w.parts) (at_queue by_lines q e inside)) ∙ ap (λ (ws : List Incoming). (queue_in ws q).parts) lines
    ∙ ap (λ (w : Incoming). w.parts) (at_line queues q) ∙ ap (option_map line_parts) known

-- where they are none there are none
pub no_parts : (o : Option (Vec Part Global)) (parts : List Part) → option_map (λ v. v.items) o ≡ Some parts → o ≡ None → ⊥
no_parts None parts h e = absurd (cc)
no_parts (Some v) parts h e = absurd (cc)

some_parts : Option (List Part) → List Part
some_parts None = []
some_parts (Some parts) = parts

pub same_parts : (o : Option (Vec Part Global)) (v : Vec Part Global) (parts : List Part) → option_map (λ v. v.items) o ≡ Some parts → o ≡ Some v → v.items ≡ parts
unfolding some_parts
same_parts o v parts h e = sym (ap (λ (x : Option (Vec Part Global)). some_parts (option_map (λ w. w.items) x)) e) ∙ ap some_parts h

-- ---- no service of a queue is faster than its port
share_slower : (own Q F : ℕ) → Q ≤ F → 0 < F → own * Q / F ≤ own
share_slower own Q F h some = elim (cases_lt own (own * Q / F)) [
  | inr l ↦ l
  | inl l ↦
      let a : own * Q / F * F ≤ own * Q = div-mul-le_self (own * Q) F in
      let b : own * Q ≤ own * F = mul-le-mul_left own h in
      let c : F * (own + 1) ≤ F * (own * Q / F) = mul-le-mul_left F (omega (arith, l)) in
      absurd (omega (arith, a, b, c, some))
]

left_slower : (own : Service) (parts : Option (List Part)) (frame : ℕ) (s : Service) → IsLeft own parts frame s → s.rate ≤ own.rate
left_slower own None frame s is = absurd is
left_slower own (Some parts) frame s is = let e = ap (λ (w : Service). w.rate) is.is in omega (arith, e)

slower_by : (d : Discipline) (own : Service) (queues : List Incoming) (q : ℕ) (s : Service) → QuantaAreInRange d → q < queues_of d → IsServiceAt d own queues q s → s.rate ≤ own.rate
slower_by Fifo own queues q s range inside is = let e = ap (λ (w : Service). w.rate) is in omega (arith, e)
slower_by (Priority n) own queues q s range inside is = left_slower own (joined_parts (before q queues)) (1024 * longest_frame_of (behind q queues)) s is
slower_by (Drr quanta) own queues q s range inside (inl is) =
    let e = ap (λ (w : Service). w.rate) is in
    let one = (range q 0 inside).0 in
    let all : get_or quanta.items q 0 ≤ sum quanta.items = get_or-le-sum_by (λ x. x) quanta.items q 0 inside in
    let h = share_slower own.rate (get_or quanta.items q 0) (sum quanta.items) all (omega (arith, one, all)) in
    omega (arith, e, h)
slower_by (Drr quanta) own queues q s range inside (inr is) = left_slower own (joined_parts (before q queues ++ behind q queues)) 0 s is

pub slow_at : (port : Port) (queues : List Incoming) (q : ℕ) (services : List Service) → PortIsInRange port → q < queues_of port.discipline → (port_service port).rate < 2 ^ 61
    → AreAll (IsServiceOf port queues q) services → All (λ (s : Service). s.rate < 2 ^ 62) services
slow_at port queues q services range inside own all = λ k d h.
    let m = slower_by port.discipline (port_service port) queues q (get_or services k d) range.quanta inside (all.each k d h) in omega (arith, m, own)

-- ---- the row of the calls
pub frame_most : (queues : List StairArrivals) (q : ℕ) (e : StairArrivals) → AreStairsInRange (stairs_in queues) → q < length queues → (get_or queues q e).longest ≤ 2 ^ 24
unfolding longest_frame
frame_most queues q e range h =
    let m = length-map (stairs_in queues) line_incoming in
    let n = length-map queues stairs_of in
    let most = range.lines.longest q record { parts = None; longest = 0 } (omega (arith, h, m, n)) in
    let a = ap (λ (w : Incoming). w.longest) (at_line (stairs_in queues) q) in
    let b = ap (λ (w : StairsIn). w.longest) (at_stairs queues q e h) in
    omega (arith, most, a, b)

pub least_row : (port : Port) (queues : List StairsIn) (q : ℕ) (bundles : List Bundle) (row : Option Queue) (services ss : List Service) (n : ℕ)
    → ss ≡ services → n ≡ 1024 * (stairs_at queues q).longest → AreAll (IsServiceOf port (line_incomings queues) q) services
    → IsLeastOfBoth bundles ss n row → IsLeastStairRow port queues q bundles row
least_row port queues q bundles row services ss n b c all least = record {
  services = services;
  all = all;
  least = subst (λ (xs : List Service). IsLeastOfBoth bundles xs (1024 * (stairs_at queues q).longest) row) b
      (subst (λ (k : ℕ). IsLeastOfBoth bundles ss k row) c least);
}
