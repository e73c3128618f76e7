-- Each service of a queue serves it in every lawful view of its port.
use Rattle.std.specs.Prelude.{◌≡◌, ◌<◌, ◌≤◌, ◌+◌, ◌-◌, ◌*◌, ◌/◌, ◌^◌, ◌++◌, ◌∷◌, [], ℕ, zero, suc, true, List, length, get_or, map, sum, Option, Some, None}
use Rattle.std.specs.Int.{div_ceil}
use Rattle.std.proofs.Common.{arith, sym, ap, ◌∙◌, refl, inl, inr, subst}
use Rattle.std.proofs.Math.Nat.{div-mul-le_self}
use Rattle.std.proofs.lemmas.Bool.{eq-eqb, ltb-true}
use Rattle.std.proofs.lemmas.List.{get_or-map, get_or-drop, length-map, length-drop}
use Rattle.std.proofs.lemmas.List.Sums.{sum-map}
use Rattle.rational.specs.Rational.{ℚ, ◌+ℚ◌, ◌-ℚ◌, ◌*ℚ◌, ◌/ℚ◌, ◌≤ℚ◌}
use Rattle.rational.specs.Extended.{Ext, ◌≤ₑ◌}
use Rattle.rational.specs.declared.Extended.TheVariants.{Fin}
use Rattle.rational.proofs.Laws.{le_refl, mul_zero}
use Rattle.rational.proofs.Linear.{with2}
use Rattle.rational.proofs.MinMax.{max_q_le}
use Rattle.min_plus.specs.Functions.{zero_q, whole}
use Rattle.min_plus.specs.Formulas.{bucket_value}
use Rattle.min_plus.specs.Pointwise.{excess, scaled}
use Rattle.run_laws.specs.Cards.{Card, of_queue, before_queue, after_queue, ServerStep, Arrives, Works, Leaves, Visits}
use Rattle.run_laws.specs.Servers as servers
use Rattle.run_laws.specs.Allows.{MayArrive}
use Rattle.run_laws.specs.Premises.{EachArrival, KeepsSizes, IsZeroAtStart}
use Rattle.run_laws.specs.Serves.{Serves}
use Rattle.run_laws.specs.Weaker.{IsNowhereAbove}
use Rattle.run_laws.proofs.Arrivals.{arrivals_map, arrivals_both}
use Rattle.run_laws.proofs.Sizes.{whole_sum, whole_times}
use Rattle.run_laws.proofs.Weaker.{greater_kept, lesser_kept, lesser_serves}
use Rattle.residual_laws.specs.DrrLaws.{share, owed, drr_left}
use Rattle.residual_laws.specs.RestLaws.{others}
use Rattle.residual_laws.proofs.DrrLaw.{drr_serves}
use Rattle.residual_laws.proofs.Owed.{in_sum}
use Rattle.residual_laws.specs.lines.RateDebt.{rate_debt_value, IsAtLeastRate}
use Rattle.residual_laws.proofs.lines.RateDebt.{compare}
use Rattle.residual_laws.proofs.lines.Lines.{fifo_serves, priority_line, rest_line}
use Rattle.arrival_lines.specs.Grid.{bits, speed, parts_value, service_value}
use Rattle.arrival_lines.specs.Steps.{IsStep}
use Rattle.arrival_lines.specs.declared.grid.Line.{Line}
use Rattle.arrival_lines.specs.declared.grid.Part.{Part}
use Rattle.arrival_lines.specs.declared.grid.Service.{Service}
use Rattle.arrival_lines.proofs.Units.{bits_add, bits_nonneg, bits_whole, speed_add, speed_le, up_covers}
use Rattle.arrival_lines.proofs.OnGrid.{late_on_grid, gate_on_grid}
use Rattle.arrival_lines.proofs.Shared.{share_below}
use Rattle.tree_network.specs.Networks.{PortIsInRange, GateIsInRange, QuantaAreInRange, queues_of}
use Rattle.tree_network.specs.declared.network.Discipline.{Discipline}
use Rattle.tree_network.specs.declared.network.Discipline.TheVariants.{Fifo, Priority, Drr}
use Rattle.tree_network.specs.declared.network.Gate.{Gate}
use Rattle.tree_network.specs.declared.network.Port.{Port}
use Rattle.port_bounds.specs.Ports.{discipline_of, server_of, curve_behind, service_curve, late_debt, closed_debt, rate_behind, port_service}
use Rattle.port_bounds.specs.Incoming.{Incoming, queue_in, joined_parts, longest_frame_of, longest_frames_of, before, behind}
use Rattle.port_bounds.specs.Services.{IsLeftBy, IsLeft, round_robin_share, IsServiceAt, IsServiceOf}
use Rattle.port_bounds.specs.Promises.{IsSeenAt}
use Rattle.port_bounds.proofs.Brought.{above_bring, others_bring, arrive_known}

-- ---- the port itself
cover : (n q : ℕ) → q ≡ div_ceil n (10 ^ 12) → n ≤ q * 10 ^ 12
cover n q is =
    let h = up_covers n (10 ^ 12) q (omega arith) is in
    omega (arith, h)

by_gate : (port : Port) (gate : Option Gate) → GateIsInRange gate
    → IsAtLeastRate (curve_behind gate port) (speed (rate_behind gate port.rate)) (bits (late_debt port + closed_debt gate port.rate))
by_gate port None range =
    let late = cover (port.rate * port.latency) (late_debt port) refl in
    record {
      debt_on = bits_nonneg (late_debt port + 0);
      below = λ t h. (late_on_grid port.rate port.latency (late_debt port + 0) (omega (arith, late))).below t h;
    }
by_gate port (Some gate) range =
    let slower = port.rate * gate.slot / gate.cycle in
    let late = cover (port.rate * port.latency) (late_debt port) refl in
    let closed = cover (slower * (gate.cycle - gate.slot)) (closed_debt (Some gate) port.rate) refl in
    record {
      debt_on = bits_nonneg (late_debt port + closed_debt (Some gate) port.rate);
      below = λ t h. (gate_on_grid port.rate port.latency record { cycle = gate.cycle; slot = gate.slot } slower (late_debt port)
          (closed_debt (Some gate) port.rate) (omega (arith, range.0, range.1)) range.1 (div-mul-le_self (port.rate * gate.slot) gate.cycle) late closed).below t h;
    }

own_below : (port : Port) → PortIsInRange port → IsAtLeastRate (service_curve port) (speed (port_service port).rate) (bits (port_service port).debt)
own_below port range = by_gate port port.gate range.gate

-- ---- what is left
abbrev pub value_of : Service → ℚ → Ext
value_of s t = Fin (service_value s t)

-- a service in place of a rate with a debt
pub served_so : (end : ℚ) (V : List ServerStep) (q : ℕ) (s : Service) (rate debt : ℚ) → speed s.rate ≤ℚ rate → debt ≤ℚ bits s.debt
    → Serves (of_queue q) (rate_debt_value rate debt) end V → Serves (of_queue q) (value_of s) end V
served_so end V q s rate debt slower greater serves =
    lesser_serves end V (of_queue q) (rate_debt_value rate debt) (value_of s) (compare rate debt (speed s.rate) (bits s.debt) slower greater) serves

less_equal : (a b c : ℚ) → c ≡ a +ℚ b → a ≤ℚ c -ℚ b
less_equal a b c h = rw h (with2 a b (λ k. omega (arith, k.le, k.lt, k.same)))

left_rate : (own line : ℕ) → line < own → speed (own - line) ≤ℚ speed own -ℚ speed line
left_rate own line h =
    let whole_rate : (own - line) + line ≡ own = omega (arith, h) in
    less_equal (speed (own - line)) (speed line) (speed own) (ap speed (sym whole_rate) ∙ speed_add (own - line) line)

same_three : (x a b c d : ℚ) → x ≡ d +ℚ c → d ≡ a +ℚ b → (a +ℚ b) +ℚ c ≤ℚ x
same_three x a b c d h k = rw (h, k) (le_refl ((a +ℚ b) +ℚ c))

left_debt : (own burst frame : ℕ) → (bits own +ℚ bits burst) +ℚ whole frame ≤ℚ bits (own + burst + 1024 * frame)
left_debt own burst frame =
    same_three (bits (own + burst + 1024 * frame)) (bits own) (bits burst) (whole frame) (bits (own + burst))
    (bits_add (own + burst) (1024 * frame) ∙ ap (λ (y : ℚ). bits (own + burst) +ℚ y) (bits_whole frame)) (bits_add own burst)

same_two : (x a b : ℚ) → x ≡ a +ℚ b → a +ℚ b ≤ℚ x
same_two x a b h = rw h (le_refl (a +ℚ b))

rest_debt : (own burst : ℕ) → bits own +ℚ bits burst ≤ℚ bits (own + burst + 0)
rest_debt own burst =
    let none : own + burst ≡ own + burst + 0 = omega arith in
    same_two (bits (own + burst + 0)) (bits own) (bits burst) (ap bits (sym none) ∙ bits_add own burst)

-- a class that keeps the parts keeps each of their steps
above_line : (parts : List Part) (line : Line) → IsStep parts line
    → IsNowhereAbove (λ t. Fin (parts_value parts t)) (bucket_value (bits line.burst) (speed line.rate))
above_line parts line step t on = step.above.above t on

-- ---- by the discipline
fifo_queue : (port : Port) (queues : List Incoming) (q : ℕ) (end : ℚ) (V : List ServerStep) (s : Service) → PortIsInRange port → IsSeenAt port queues end V
    → (server_of port).discipline ≡ servers.Fifo → q ≡ 0 → s ≡ port_service port → Serves (of_queue q) (value_of s) end V
fifo_queue port queues q end V s range seen fifo is own =
    subst (λ (k : ℕ). Serves (of_queue k) (value_of s) end V) (sym is)
    (subst (λ (w : Service). Serves (of_queue 0) (value_of w) end V) (sym own)
    (fifo_serves (server_of port) end V (service_curve port) (speed (port_service port).rate) (bits (port_service port).debt) seen.lawful fifo seen.service (own_below port range)))

priority_queue : (port : Port) (queues : List Incoming) (q n : ℕ) (end : ℚ) (V : List ServerStep) (s : Service) (parts : List Part) (lower : ℕ)
    → PortIsInRange port → IsSeenAt port queues end V
    → (server_of port).discipline ≡ servers.Priority n → q < length queues → joined_parts (before q queues) ≡ Some parts
    → KeepsSizes (after_queue q) lower V → IsLeftBy (port_service port) parts (1024 * lower) s → Serves (of_queue q) (value_of s) end V
priority_queue port queues q n end V s parts lower range seen priority inside known sizes left =
    let own = port_service port in
    let line = left.line in
    let brought = greater_kept V (before_queue q) (λ t. Fin (parts_value parts t)) (bucket_value (bits line.burst) (speed line.rate)) (above_line parts line left.step)
    (above_bring queues q V parts seen.arrivals (omega (arith, inside)) known) in
    let serves = priority_line (server_of port) end V n q lower (service_curve port) (speed own.rate) (bits own.debt) (bits line.burst) (speed line.rate)
    seen.lawful priority seen.service (own_below port range) (speed_le line.rate own.rate (omega (arith, left.slower))) brought sizes in
    subst (λ (w : Service). Serves (of_queue q) (value_of w) end V) (sym left.is)
    (served_so end V q record { rate = own.rate - line.rate; debt = own.debt + line.burst + 1024 * lower } (speed own.rate -ℚ speed line.rate) ((bits own.debt +ℚ bits line.burst) +ℚ whole lower)
    (left_rate own.rate line.rate left.slower) (left_debt own.debt line.burst lower) serves)

rest_queue : (port : Port) (queues : List Incoming) (q : ℕ) (end : ℚ) (V : List ServerStep) (s : Service) (parts : List Part)
    → PortIsInRange port → IsSeenAt port queues end V → servers.queue_count (server_of port).discipline ≡ length queues → q < length queues
    → joined_parts (before q queues ++ behind q queues) ≡ Some parts → IsLeftBy (port_service port) parts 0 s → Serves (of_queue q) (value_of s) end V
rest_queue port queues q end V s parts range seen count inside known left =
    let own = port_service port in
    let line = left.line in
    let brought = greater_kept V (others (of_queue q)) (λ t. Fin (parts_value parts t)) (bucket_value (bits line.burst) (speed line.rate)) (above_line parts line left.step)
    (others_bring (server_of port) end queues q V parts seen.lawful count seen.arrivals inside known) in
    let serves = rest_line (server_of port) end V (of_queue q) (service_curve port) (speed own.rate) (bits own.debt) (bits line.burst) (speed line.rate)
    seen.lawful seen.service (own_below port range) (speed_le line.rate own.rate (omega (arith, left.slower))) brought in
    subst (λ (w : Service). Serves (of_queue q) (value_of w) end V) (sym left.is)
    (served_so end V q record { rate = own.rate - line.rate; debt = own.debt + line.burst + 0 } (speed own.rate -ℚ speed line.rate) (bits own.debt +ℚ bits line.burst)
    (left_rate own.rate line.rate left.slower) (rest_debt own.debt line.burst) serves)

-- ---- deficit round robin
flat : (s : Service) → IsZeroAtStart (value_of s)
flat s =
    let none = mul_zero (speed s.rate) in
    let on = bits_nonneg s.debt in
    max_q_le zero_q (speed s.rate *ℚ zero_q -ℚ bits s.debt) zero_q (le_refl zero_q) (with2 (speed s.rate *ℚ zero_q) (bits s.debt) (λ c. omega (arith, c.le, c.lt, c.same)))

less_whole : (a b : ℕ) → b ≤ a → whole (a - b) ≡ whole a -ℚ whole b
less_whole a b h =
    let same : (a - b) + b ≡ a = omega (arith, h) in
    minus (whole (a - b)) (whole b) (whole a) (ap whole (sym same) ∙ whole_sum (a - b) b)
  where
    minus : (x y z : ℚ) → z ≡ x +ℚ y → x ≡ z -ℚ y
    minus x y z e = rw e (with2 x y (λ c. omega (arith, c.le, c.lt, c.same)))

-- what is owed, on the grid
owed_on_grid : (Q F l Λ : ℕ) → Q ≤ F → l ≤ Λ → bits (1024 * (Q * (Λ - l) + (F - Q) * (Q + l))) /ℚ whole F ≡ owed Q l F Λ
owed_on_grid Q F l Λ part own =
    let first = whole_times Q (Λ - l) ∙ ap (λ (x : ℚ). whole Q *ℚ x) (less_whole Λ l own) in
    let visits = whole_times (F - Q) (Q + l) ∙ ap (λ (x : ℚ). x *ℚ whole (Q + l)) (less_whole F Q part) ∙ ap (λ (x : ℚ). (whole F -ℚ whole Q) *ℚ x) (whole_sum Q l) in
    let both = whole_sum (Q * (Λ - l)) ((F - Q) * (Q + l)) ∙ ap (λ (x : ℚ). x +ℚ whole ((F - Q) * (Q + l))) first
    ∙ ap (λ (x : ℚ). whole Q *ℚ (whole Λ -ℚ whole l) +ℚ x) visits in
    ap (λ (x : ℚ). x /ℚ whole F) (bits_whole (Q * (Λ - l) + (F - Q) * (Q + l)) ∙ both)

covers : (n d q : ℕ) → 0 < d → q ≡ div_ceil n d → n ≤ q * d
covers n d q some is =
    let h = up_covers n d q some is in
    omega (arith, h)

share_serves : (port : Port) (queues : List Incoming) (q : ℕ) (end : ℚ) (V : List ServerStep) (quanta : List ℕ) (s : Service)
    → PortIsInRange port → IsSeenAt port queues end V → (server_of port).discipline ≡ servers.Drr quanta → length queues ≡ length quanta → q < length queues
    → 1 ≤ get_or quanta q 0 → s ≡ round_robin_share (port_service port) (get_or quanta q 0) (sum quanta) (queue_in queues q).longest (longest_frames_of queues)
    → Serves (of_queue q) (value_of s) end V
share_serves port queues q end V quanta s range seen drr count inside some is =
    let own = port_service port in
    let longest = map (λ (w : Incoming). w.longest) queues in
    let Q = get_or quanta q 0 in
    let F = sum quanta in
    let l = (queue_in queues q).longest in
    let Λ = longest_frames_of queues in
    let paired : length longest ≡ length quanta = length-map queues (λ (w : Incoming). w.longest) ∙ count in
    let total : sum longest ≡ Λ = sum-map (λ (w : Incoming). w.longest) queues in
    let among : q < length quanta = omega (arith, inside, count) in
    let part = in_sum quanta q among in
    let its : get_or longest q 0 ≡ l = get_or-map (λ (w : Incoming). w.longest) queues q record { parts = None; longest = 0 } 0 inside in
    let own_frame : l ≤ Λ = let h = in_sum longest q (omega (arith, paired, among)) in omega (arith, h, its, total) in
    let sizes = λ (j : ℕ). each_size queues V seen.sizes j in
    let left = drr_left (value_of own) Q (get_or longest q 0) F (sum longest) in
    let serves = drr_serves (server_of port) end V quanta longest q (value_of own) left seen.lawful drr paired among some sizes
    (lesser_kept end V (service_curve port) (value_of own) (own_below port range).below seen.service) (flat own) (λ t on. refl) in
    let n = 1024 * (Q * (Λ - l) + (F - Q) * (Q + l)) in
    let on_grid = share_below own Q F n (own.rate * Q / F) (div_ceil (own.debt * Q + n) F) (omega (arith, some, part))
    (div-mul-le_self (own.rate * Q) F) (covers (own.debt * Q + n) F (div_ceil (own.debt * Q + n) F) (omega (arith, some, part)) refl) in
    let lesser : IsNowhereAbove (value_of (round_robin_share own Q F l Λ)) (drr_left (value_of own) Q l F Λ) =
    λ t on. subst (λ (x : ℚ). value_of (round_robin_share own Q F l Λ) t ≤ₑ excess (scaled (share Q F) (value_of own t)) (Fin x)) (owed_on_grid Q F l Λ part own_frame)
    (on_grid.below (value_of own) record { served = λ u h. own_itself own u } t on) in
    let same = λ (t : ℚ). ap (λ (k : ℕ). drr_left (value_of own) Q k F (sum longest) t) its ∙ ap (λ (k : ℕ). drr_left (value_of own) Q l F k t) total in
    subst (λ (w : Service). Serves (of_queue q) (value_of w) end V) (sym is)
    (lesser_serves end V (of_queue q) left (value_of (round_robin_share own Q F l Λ))
    (λ t on. subst (λ (x : Ext). value_of (round_robin_share own Q F l Λ) t ≤ₑ x) (sym (same t)) (lesser t on)) serves)
  where
    own_itself : (s : Service) (u : ℚ) → value_of s u ≤ₑ value_of s u
    own_itself s u = le_refl (service_value s u)

    at_each : (queues : List Incoming) (j : ℕ) → get_or (map (λ (w : Incoming). w.longest) queues) j 0 ≡ (queue_in queues j).longest
    at_each [] j = refl
    at_each (w ∷ ws) zero = refl
    at_each (w ∷ ws) (suc j) = at_each ws j

    each_size : (queues : List Incoming) (V : List ServerStep) → ((j : ℕ) → KeepsSizes (of_queue j) (queue_in queues j).longest V) → (j : ℕ)
        → KeepsSizes (of_queue j) (get_or (map (λ (w : Incoming). w.longest) queues) j 0) V
    each_size queues V sizes j = subst (λ (b : ℕ). KeepsSizes (of_queue j) b V) (sym (at_each queues j)) (sizes j)

-- ---- sizes behind a queue
all_each : (P : ℕ → Card → Type 0) (V : List ServerStep) → ((j : ℕ) → EachArrival (P j) V) → EachArrival (λ c. (j : ℕ) → P j c) V
all_each P [] h = tt
all_each P (Arrives c t ∷ V) h = (λ j. (h j).0, all_each P V (λ j. (h j).1))
all_each P (Works c a b w ∷ V) h = all_each P V h
all_each P (Leaves c t ∷ V) h = all_each P V h
all_each P (Visits q t ∷ V) h = all_each P V h

longest_at : (queues : List Incoming) (i : ℕ) → i < length queues → (queue_in queues i).longest ≤ longest_frame_of queues
unfolding longest_frame_of
longest_at [] i h = absurd (omega (arith, h))
longest_at (w ∷ ws) zero h = omega arith
longest_at (w ∷ ws) (suc i) h =
    let rest = longest_at ws i (omega (arith, h)) in
    omega (arith, rest)

longest_behind : (queues : List Incoming) (q p : ℕ) → q < p → p < length queues → (queue_in queues p).longest ≤ longest_frame_of (behind q queues)
longest_behind queues q p after inside =
    let i = p - suc q in
    let place : suc q + i ≡ p = omega (arith, after) in
    let at = get_or-drop (suc q) queues i record { parts = None; longest = 0 } in
    let here = longest_at (behind q queues) i (omega (arith, length-drop (suc q) queues, after, inside)) in
    let same : (queue_in (behind q queues) i).longest ≡ (queue_in queues p).longest = ap (λ (w : Incoming). w.longest) at ∙ ap (λ (k : ℕ). (queue_in queues k).longest) place in
    omega (arith, here, same)

pub lower_sizes : (queues : List Incoming) (q : ℕ) (port : Port) (end : ℚ) (V : List ServerStep) → IsSeenAt port queues end V
    → servers.queue_count (server_of port).discipline ≡ length queues → KeepsSizes (after_queue q) (longest_frame_of (behind q queues)) V
lower_sizes queues q port end V seen count =
    let n = length queues in
    let size = λ (j : ℕ) (c : Card). of_queue j c ≡ true → c.bits ≤ (queue_in queues j).longest in
    arrivals_map (λ c. MayArrive (server_of port).discipline c × ((j : ℕ) → size j c)) (λ c. after_queue q c ≡ true → c.bits ≤ longest_frame_of (behind q queues))
    (λ c both after. small c both.0.known_queue (both.1 c.queue (eq-eqb c.queue c.queue refl)) (ltb-true q c.queue after)) V
    (arrivals_both (MayArrive (server_of port).discipline) (λ c. (j : ℕ) → size j c) V (arrive_known (server_of port) end V seen.lawful) (all_each size V seen.sizes))
  where
    small : (c : Card) → c.queue < servers.queue_count (server_of port).discipline → c.bits ≤ (queue_in queues c.queue).longest → q < c.queue
        → c.bits ≤ longest_frame_of (behind q queues)
    small c known bits after =
        let most = longest_behind queues q c.queue after (omega (arith, known, count)) in
        omega (arith, bits, most)

-- ---- each service
by_discipline : (port : Port) (d : Discipline) (queues : List Incoming) (q : ℕ) (end : ℚ) (V : List ServerStep) (s : Service) → PortIsInRange port
    → IsSeenAt port queues end V → QuantaAreInRange d → (server_of port).discipline ≡ discipline_of d → length queues ≡ queues_of d → q < length queues
    → IsServiceAt d (port_service port) queues q s → Serves (of_queue q) (value_of s) end V
by_discipline port Fifo queues q end V s range seen quanta is count inside service =
    fifo_queue port queues q end V s range seen is (omega (arith, count, inside)) service
by_discipline port (Priority n) queues q end V s range seen quanta is count inside service =
    by_parts (joined_parts (before q queues)) refl service
  where
    by_parts : (known : Option (List Part)) → joined_parts (before q queues) ≡ known → IsLeft (port_service port) known (1024 * longest_frame_of (behind q queues)) s
        → Serves (of_queue q) (value_of s) end V
    by_parts None known left = absurd left
    by_parts (Some parts) known left =
        priority_queue port queues q n end V s parts (longest_frame_of (behind q queues)) range seen is inside known
        (lower_sizes queues q port end V seen (ap servers.queue_count is ∙ sym count)) left
by_discipline port (Drr quanta) queues q end V s range seen fine is count inside (inl share) =
    share_serves port queues q end V quanta.items s range seen is count inside (fine q 0 (omega (arith, inside, count))).0 share
by_discipline port (Drr quanta) queues q end V s range seen fine is count inside (inr rest) =
    by_parts (joined_parts (before q queues ++ behind q queues)) refl rest
  where
    by_parts : (known : Option (List Part)) → joined_parts (before q queues ++ behind q queues) ≡ known → IsLeft (port_service port) known 0 s
        → Serves (of_queue q) (value_of s) end V
    by_parts None known left = absurd left
    by_parts (Some parts) known left = rest_queue port queues q end V s parts range seen (ap servers.queue_count is ∙ sym count) inside known left

pub service_serves : (port : Port) (queues : List Incoming) (q : ℕ) (end : ℚ) (V : List ServerStep) (s : Service) → PortIsInRange port
    → IsSeenAt port queues end V → length queues ≡ queues_of port.discipline → q < length queues → IsServiceOf port queues q s
    → Serves (of_queue q) (value_of s) end V
service_serves port queues q end V s range seen count inside service =
    by_discipline port port.discipline queues q end V s range seen range.quanta refl count inside service
