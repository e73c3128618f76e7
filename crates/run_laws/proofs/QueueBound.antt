-- The queue of a first in, first out server of a network: the two deviations bound its delays and its backlog.
use Rattle.std.specs.Prelude.{◌≡◌, ◌<◌, ℕ, length}
use Rattle.std.proofs.Common.{arith}
use Rattle.std.proofs.lemmas.Bool.{eqb-true}
use Rattle.rational.specs.Rational.{ℚ}
use Rattle.rational.specs.Extended.{Ext}
use Rattle.min_plus.specs.Functions.{IsRising}
use Rattle.min_plus.specs.Pointwise.{packetised}
use Rattle.min_plus.specs.Deviations.{IsHorizontalDeviation, IsVerticalDeviation}
use Rattle.run_laws.specs.Runs.{SpecRun}
use Rattle.run_laws.specs.Cards.{whole, of_queue}
use Rattle.run_laws.specs.Servers.{Fifo}
use Rattle.run_laws.specs.Premises.{EachArrival, KeepsArrivals, KeepsService, KeepsSizes, IsZeroAtStart}
use Rattle.run_laws.specs.Routes.{Routes, server_at}
use Rattle.run_laws.specs.Views.{view}
use Rattle.run_laws.specs.Lawful.{run_start, IsLawful}
use Rattle.run_laws.specs.RunPremises.{KeepsPremises}
use Rattle.run_laws.specs.Bounds.{IsQueueBounded}
use Rattle.run_laws.proofs.Arrivals.{IsPassing, all_pass}
use Rattle.run_laws.proofs.FifoQueue.{fifo_queue_is_served}
use Rattle.run_laws.proofs.Views.{views_are_lawful}
use Rattle.run_laws.proofs.Delay.{delay_always}
use Rattle.run_laws.proofs.Backlog.{backlog_from_service}

-- the packets that arrive at a server of a run that keeps its premises
pub passing : (net : Routes) (run : SpecRun) (packet : ℕ → ℕ) (α β : ℕ → ℚ → Ext) (s : ℕ) → IsLawful net run
    → KeepsPremises net packet α β run → EachArrival (IsPassing net packet s) (view net run s)
passing net run packet α β s lawful keeps = all_pass net packet run.end (run_start net) run.steps s lawful.allowed keeps.sizes record { entries = λ p h. absurd (omega arith); dues = tt }

pub queue_is_bounded : (net : Routes) (run : SpecRun) (s bits : ℕ) (α β : ℚ → Ext) (delay most : Ext) → IsLawful net run
    → s < length net.servers → (server_at net s).discipline ≡ Fifo → KeepsService β run.end (view net run s) → IsZeroAtStart β → IsRising β
    → KeepsArrivals (of_queue 0) α (view net run s) → KeepsSizes (of_queue 0) bits (view net run s) → IsHorizontalDeviation α β delay
    → IsVerticalDeviation α (packetised β (whole bits)) most → IsQueueBounded net run s 0 delay most
queue_is_bounded net run s bits α β delay most lawful known is_fifo service zero rises arrivals sizes dh dv =
    let server = server_at net s in
    let V = view net run s in
    let view_lawful = views_are_lawful net run s lawful known in
    let serves = fifo_queue_is_served server run.end V β view_lawful is_fifo service zero in
    record {
      delays = delay_always server run.end V (of_queue 0) 0 α β delay view_lawful (λ c h. eqb-true c.queue 0 h) arrivals serves rises dh;
      backlogs = backlog_from_service server run.end V (of_queue 0) bits α β most view_lawful sizes arrivals serves dv;
    }
