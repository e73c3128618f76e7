-- The same by parts: where each server bounds its queues by the sums of parts that these keep, those over a link cut
-- by the pace of the server before, all hold. What an analysis of switched networks has to show is this of each port.
use Rattle.std.specs.Prelude.{◌<◌, ℕ, pos, length}
use Rattle.rational.specs.Rational.{ℚ, int}
use Rattle.rational.specs.Extended.{Ext, ◌≤ₑ◌}
use Rattle.rational.specs.declared.Extended.TheVariants.{Fin}
use Rattle.run_laws.specs.Runs.{SpecRun}
use Rattle.run_laws.specs.Cards.{of_queue}
use Rattle.run_laws.specs.Premises.{KeepsArrivals}
use Rattle.run_laws.specs.Views.{view}
use Rattle.net_laws.specs.Orders.{EntersKept}
use Rattle.tree_runs.specs.Trees.{TreeRoutes, IsOverTrees, flat, IsLawfulTree}
use Rattle.tree_runs.specs.Orders.{TreeGoesForward}
use Rattle.tree_runs.specs.Packets.{KeepsTreeSizes}
use Rattle.tree_runs.specs.Parts.{tree_parts_curve, AreTreePaced}
use Rattle.tree_runs.specs.Bounded.{GrowsByStays, stay_in, QueuesAreBounded, IsBoundedByQueues}

-- each queue of server s keeps the sum of its parts; `longest` tells of a server, a queue there and a server before the
-- longest packet that comes from it
abbrev pub QueuesKeepParts : TreeRoutes → SpecRun → (ℕ → ℕ → ℚ → Ext) → (ℕ → ℕ → ℕ → ℕ) → (ℕ → ℚ) → ℕ → Type 0
QueuesKeepParts net run arrival longest rate s = (q : ℕ) →
    KeepsArrivals (of_queue q) (tree_parts_curve net s q (λ i. arrival i s) (longest s q) rate) (view (flat net) run s)

abbrev pub TreesAreBoundedByParts : Type 0
TreesAreBoundedByParts = (net : TreeRoutes) (run : SpecRun) (place packet : ℕ → ℕ) (longest : ℕ → ℕ → ℕ → ℕ)
    (rate : ℕ → ℚ) (arrival : ℕ → ℕ → ℚ → Ext) (delay held : ℕ → ℕ → Ext) →
    IsLawfulTree net run → IsOverTrees net → TreeGoesForward net place → KeepsTreeSizes net packet run →
    EntersKept (flat net) run arrival →
    ((s q : ℕ) → s < length net.servers → AreTreePaced net s q packet (longest s q) rate) →
    ((s q : ℕ) → Fin (int (pos 0)) ≤ₑ delay s q) → GrowsByStays net arrival (stay_in net delay) →
    ((s : ℕ) → s < length net.servers → QueuesKeepParts net run arrival longest rate s →
    QueuesAreBounded net run delay held s) →
    IsBoundedByQueues net run arrival delay held
