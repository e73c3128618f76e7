-- The ranges of ports on the grid.
use Rattle.std.proofs.Common.{◌≡◌, ℕ, ◌+◌, ◌-◌, ◌*◌, ◌/◌, ◌<◌, ◌≤◌, true, Option, Some, None, option_map, sym, ap, subst, arith}
use Rattle.std.proofs.lemmas.Bool.{leb-true}
use Rattle.std.proofs.lemmas.List.Elements.{All-weaker}
use Rattle.std.proofs.Math.Nat.{le-div_iff_mul-le, div-lt_iff_lt-mul, div-mul-le_self}
use Rattle.tree_network.specs.declared.network.Discipline.{Discipline}
use Rattle.tree_network.specs.declared.network.Discipline.TheVariants as discipline
use Rattle.tree_network.specs.declared.network.Port.{Port}
use Rattle.tree_network.specs.Networks.{longest_time, fastest, longest_frame, queues_of, GateIsInRange, QuantaAreInRange, PortIsInRange}
use Rattle.table_cells.specs.declared.amount.Amount.{Amount}
use Rattle.table_cells.specs.Amounts.{is_at_most, is_within, reaches_one, rounded_down, rounded_up}
use Rattle.document_rows.specs.declared.disciplines.GateRow.{GateRow}
use Rattle.document_rows.specs.Disciplines.{discipline_view}
use Rattle.document_rows.specs.PortRows.{PortText}
use Rattle.document_tables.specs.Ranges.{IsWithin, IsTime, IsGateOrNone, IsQuantum, IsDiscipline, IsPortText}
use Rattle.document_tables.specs.Grids.{microsecond, millisecond, megabit, gate_on_grid, port_on_grid, grid_port, PortOnGrid}
use Rattle.document_tables.proofs.SameRounded.{down_within}

-- ---- numbers
down_to_up : (n b : ℕ) → 0 < b → n / b ≤ (n + (b - 1)) / b
down_to_up n b some = let d = div-mul-le_self n b in (le-div_iff_mul-le some).1 (omega (arith, d))

reaches : (a : Amount) (times : ℕ) → reaches_one a times ≡ true → a.bottom ≤ a.top * times
reaches a times h = leb-true a.bottom (a.top * times) h

at_most : (a : Amount) (most : ℕ) → is_at_most a most ≡ true → a.top ≤ most * a.bottom
at_most a most h = leb-true a.top (most * a.bottom) h

within : (a b : Amount) → is_within a b ≡ true → a.top * b.bottom ≤ b.top * a.bottom
within a b h = leb-true (a.top * b.bottom) (b.top * a.bottom) h

pub rate_range : (a : Amount) → IsWithin 1000000 1000000 a → (1 ≤ rounded_down megabit a) × (rounded_down megabit a ≤ rounded_up megabit a) × (rounded_up megabit a ≤ fastest)
unfolding fastest
rate_range a r =
    let some = r.amount.some in
    let low = reaches a 1000000 r.not_under in
    let high = at_most a 1000000 r.not_over in
    let up : (a.top * 1024000000 + (a.bottom - 1)) / a.bottom < 1024000000000001 = (div-lt_iff_lt-mul some).1 (omega (arith, high, some)) in
    ((le-div_iff_mul-le some).1 (omega (arith, low)), down_to_up (a.top * 1024000000) a.bottom some, omega (arith, up))

pub time_range : (a : Amount) → IsTime a → rounded_up microsecond a ≤ longest_time
unfolding longest_time
time_range a t =
    let some = t.amount.some in
    let high = at_most a 1000000000 t.most in
    let up : (a.top * 1000000 + (a.bottom - 1)) / a.bottom < 1000000000000001 = (div-lt_iff_lt-mul some).1 (omega (arith, high, some)) in
    omega (arith, up)

pub gap_range : (a : Amount) → IsWithin 1000000000 1000000 a → (1 ≤ rounded_down millisecond a) × (rounded_down millisecond a ≤ longest_time)
unfolding longest_time
gap_range a r =
    let some = r.amount.some in
    let low = reaches a 1000000000 r.not_under in
    let high = at_most a 1000000 r.not_over in
    let down : a.top * 1000000000 / a.bottom < 1000000000000001 = (div-lt_iff_lt-mul some).1 (omega (arith, high, some)) in
    ((le-div_iff_mul-le some).1 (omega (arith, low)), omega (arith, down))

-- ---- gates
-- a slot within its cycle is so on the grid
slot_within : (st sb ct cb : ℕ) → 0 < sb → 0 < cb → st * cb ≤ ct * sb → st * 1000000 / sb ≤ (ct * 1000000 + (cb - 1)) / cb
slot_within st sb ct cb some_slot some_cycle h =
    let down = down_within st sb ct cb 1000000 some_slot some_cycle h in
    let up = down_to_up (ct * 1000000) cb some_cycle in
    omega (arith, down, up)

gate_range : (gate : Option GateRow) → IsGateOrNone gate → GateIsInRange (option_map gate_on_grid gate)
gate_range None g = tt
gate_range (Some gate) g =
    let low = reaches gate.slot 1000000 g.some in
    let some = g.slot.amount.some in (
      (le-div_iff_mul-le some).1 (omega (arith, low)),
      slot_within gate.slot.top gate.slot.bottom gate.cycle.top gate.cycle.bottom some g.cycle.amount.some (within gate.slot gate.cycle g.within),
      time_range gate.cycle g.cycle,
    )

-- ---- ports
quanta_range : (q : ℕ) → IsQuantum q → (1 ≤ q) × (q ≤ longest_frame)
unfolding longest_frame
quanta_range q h = let b = h.1 in (omega (arith, h), omega (arith, b))

discipline_range : (d : Discipline) → IsDiscipline (discipline_view d) → (1 ≤ queues_of d) × (queues_of d ≤ 8) × QuantaAreInRange d
discipline_range discipline.Fifo h = (omega arith, omega arith, tt)
discipline_range (discipline.Priority n) h = (h.0, h.1, tt)
discipline_range (discipline.Drr quanta) h = (h.0, h.1, All-weaker IsQuantum (λ q. (1 ≤ q) × (q ≤ longest_frame)) quanta_range quanta.items h.2)

pub port_range : (port : Port) (text : PortText) → grid_port port ≡ port_on_grid text → IsPortText text → PortIsInRange port
port_range port text e r =
    let rate = rate_range text.rate r.rate in
    let down : port.rate ≡ rounded_down megabit text.rate = ap (λ (p : PortOnGrid). p.rate) e in
    let up : port.pace ≡ rounded_up megabit text.rate = ap (λ (p : PortOnGrid). p.pace) e in
    let latency : port.latency ≡ rounded_up microsecond text.latency = ap (λ (p : PortOnGrid). p.latency) e in
    let link : port.link ≡ rounded_up microsecond text.link = ap (λ (p : PortOnGrid). p.link) e in
    let gate : port.gate ≡ option_map gate_on_grid text.gate = ap (λ (p : PortOnGrid). p.gate) e in
    let d = discipline_range port.discipline (subst IsDiscipline (sym (ap (λ (p : PortOnGrid). p.discipline) e)) r.discipline) in record {
      some_rate = subst (λ (n : ℕ). 1 ≤ n) (sym down) rate.0;
      rate = subst (λ (n : ℕ). n ≤ port.pace) (sym down) (subst (λ (n : ℕ). rounded_down megabit text.rate ≤ n) (sym up) rate.1);
      pace = subst (λ (n : ℕ). n ≤ fastest) (sym up) rate.2;
      latency = subst (λ (n : ℕ). n ≤ longest_time) (sym latency) (time_range text.latency r.latency);
      link = subst (λ (n : ℕ). n ≤ longest_time) (sym link) (time_range text.link r.link);
      gate = subst GateIsInRange (sym gate) (gate_range text.gate r.gate);
      some_queue = d.0;
      queues = d.1;
      quanta = d.2;
    }
