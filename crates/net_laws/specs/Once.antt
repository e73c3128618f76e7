-- No packet arrives twice at a server of a lawful run over paths that pass no server twice; so a class of one queue, as
-- a flow, leaves a server by the delays of its packets there. (Own choice.)
use Rattle.std.specs.Prelude.{◌≡◌, ◌<◌, ℕ, pos, true, length}
use Rattle.rational.specs.Rational.{ℚ, int, ◌-ℚ◌, ◌≤ℚ◌}
use Rattle.rational.specs.Extended.{Ext, ◌≤ₑ◌}
use Rattle.rational.specs.declared.Extended.TheVariants.{Fin}
use Rattle.min_plus.specs.Pointwise.{shifted}
use Rattle.run_laws.specs.Runs.{SpecRun}
use Rattle.run_laws.specs.Cards.{Class}
use Rattle.run_laws.specs.Counts.{departed_in}
use Rattle.run_laws.specs.Premises.{KeepsArrivals, NoneTwice}
use Rattle.run_laws.specs.Classes.{IsOfQueue}
use Rattle.run_laws.specs.Delays.{hop_delays, AreAtMost}
use Rattle.run_laws.specs.Routes.{Routes, route_of}
use Rattle.run_laws.specs.Views.{view}
use Rattle.run_laws.specs.Lawful.{IsLawful}
use Rattle.net_laws.specs.Paths.{IsPath}

-- each live flow has a path
abbrev pub IsOverPaths : Routes → Type 0
IsOverPaths net = (i : ℕ) → (route_of net i).live ≡ true → IsPath net (route_of net i).hops

abbrev pub NoneArrivesTwice : Type 0
NoneArrivesTwice = (net : Routes) (run : SpecRun) (s : ℕ) → IsLawful net run → IsOverPaths net →
    NoneTwice (view net run s)

-- where no packet of a class of one queue stays longer than d at a server, at most its curve, moved left by d, leaves
-- in a closed window
abbrev pub ClassLeavesByDelay : Type 0
ClassLeavesByDelay = (net : Routes) (run : SpecRun) (s : ℕ) (C : Class) (queue : ℕ) (α : ℚ → Ext) (d : Ext) (a b : ℚ) →
    IsLawful net run → IsOverPaths net → s < length net.servers → IsOfQueue C queue (view net run s) →
    KeepsArrivals C α (view net run s) → Fin (int (pos 0)) ≤ₑ d → AreAtMost d (hop_delays C run.end (view net run s)) →
    a ≤ℚ b → Fin (departed_in C (view net run s) a b) ≤ₑ shifted α d (b -ℚ a)
