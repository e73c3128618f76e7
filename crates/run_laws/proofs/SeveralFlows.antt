-- Several flows that enter at a first in, first out server: the two deviations bound its queue, and each flow that ends there.
use Rattle.std.specs.Prelude.{◌≡◌, ◌≤◌, ℕ, true}
use Rattle.std.proofs.Common.{arith}
use Rattle.std.proofs.lemmas.Bool.{eqb-true, and_parts}
use Rattle.rational.specs.Rational.{ℚ}
use Rattle.rational.specs.Extended.{Ext, ◌+ₑ◌}
use Rattle.rational.specs.declared.Extended.TheVariants.{Fin}
use Rattle.min_plus.specs.Functions.{IsRising}
use Rattle.min_plus.specs.Pointwise.{packetised}
use Rattle.min_plus.specs.Deviations.{IsHorizontalDeviation, IsVerticalDeviation}
use Rattle.run_laws.specs.Runs.{SpecRun}
use Rattle.run_laws.specs.Cards.{whole, of_queue}
use Rattle.run_laws.specs.Premises.{KeepsArrivals, KeepsSizes, IsZeroAtStart}
use Rattle.run_laws.specs.Routes.{Routes, link_at, route_of}
use Rattle.run_laws.specs.Views.{view}
use Rattle.run_laws.specs.Lawful.{run_start, IsLawful}
use Rattle.run_laws.specs.RunPremises.{KeepsPremises}
use Rattle.run_laws.specs.Totals.{is_in, is_on, total_curve}
use Rattle.run_laws.specs.Bounds.{IsEntrance, IsOneHop, IsQueueBounded, IsFlowBounded}
use Rattle.run_laws.proofs.Arrivals.{arrivals_map, IsPassing}
use Rattle.run_laws.proofs.FirstHop.{first_hop_keeps}
use Rattle.run_laws.proofs.OneHop.{one_hop_delays}
use Rattle.run_laws.proofs.Totals.{queue_keeps_total, its_flow_is_in, on_passes}
use Rattle.run_laws.proofs.QueueBound.{passing, queue_is_bounded}

total_kept : (net : Routes) (run : SpecRun) (packet : ℕ → ℕ) (α β : ℕ → ℚ → Ext) (s : ℕ) → IsEntrance net s → IsLawful net run
    → KeepsPremises net packet α β run → KeepsArrivals (of_queue 0) (total_curve net s 0 α) (view net run s)
total_kept net run packet α β s entrance lawful keeps =
    queue_keeps_total net packet s 0 α (view net run s) (passing net run packet α β s lawful keeps)
    (λ i e.
    let both = and_parts (route_of net i).live (is_on s 0 (route_of net i).hops) e in
    first_hop_keeps net run i s (α i) lawful (entrance.begins i both.0 (on_passes s 0 (route_of net i).hops both.1)) (keeps.arrivals i both.0))

sizes_kept : (net : Routes) (run : SpecRun) (packet : ℕ → ℕ) (α β : ℕ → ℚ → Ext) (s bits : ℕ)
    → ((i : ℕ) → is_in net s 0 i ≡ true → packet i ≤ bits) → IsLawful net run → KeepsPremises net packet α β run
    → KeepsSizes (of_queue 0) bits (view net run s)
sizes_kept net run packet α β s bits most lawful keeps =
    arrivals_map (IsPassing net packet s) (λ c. of_queue 0 c ≡ true → c.bits ≤ bits)
    (λ c p e.
    let own = most c.flow (its_flow_is_in net packet s 0 c p (eqb-true c.queue 0 e)) in
    let small = p.small in
    omega arith)
    (view net run s) (passing net run packet α β s lawful keeps)

pub several_flows_are_bounded : (net : Routes) (run : SpecRun) (s bits : ℕ) (packet : ℕ → ℕ) (α β : ℕ → ℚ → Ext) (delay most : Ext)
    → IsEntrance net s → IsLawful net run → KeepsPremises net packet α β run → IsZeroAtStart (β s) → IsRising (β s)
    → ((i : ℕ) → is_in net s 0 i ≡ true → packet i ≤ bits) → IsHorizontalDeviation (total_curve net s 0 α) (β s) delay
    → IsVerticalDeviation (total_curve net s 0 α) (packetised (β s) (whole bits)) most
    → IsQueueBounded net run s 0 delay most × ((i : ℕ) → IsOneHop net i s 0 → IsFlowBounded net run i (delay +ₑ Fin (link_at net s)))
several_flows_are_bounded net run s bits packet α β delay most entrance lawful keeps zero rises small dh dv =
    let bounded =
    queue_is_bounded net run s bits (total_curve net s 0 α) (β s) delay most lawful entrance.known entrance.is_fifo (keeps.service s entrance.known) zero rises
    (total_kept net run packet α β s entrance lawful keeps) (sizes_kept net run packet α β s bits small lawful keeps) dh dv in
    (bounded, λ i hop. one_hop_delays net run.end (run_start net) run.steps i s 0 delay hop lawful.allowed bounded.delays)
