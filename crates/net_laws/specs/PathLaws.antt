-- What a path promises a flow: its service, and its delay from end to end.
use Rattle.std.specs.Prelude.{ℕ, List}
use Rattle.rational.specs.Rational.{ℚ, ◌≤ℚ◌}
use Rattle.rational.specs.Extended.{Ext, ◌+ₑ◌}
use Rattle.rational.specs.declared.Extended.TheVariants.{Fin}
use Rattle.min_plus.specs.Functions.{IsRising}
use Rattle.min_plus.specs.Deviations.{IsHorizontalDeviation}
use Rattle.run_laws.specs.Runs.{SpecRun}
use Rattle.run_laws.specs.Cards.{of_flow}
use Rattle.run_laws.specs.Premises.{KeepsArrivals}
use Rattle.run_laws.specs.Routes.{Routes, route_of, first_server}
use Rattle.run_laws.specs.Views.{view}
use Rattle.run_laws.specs.Lawful.{IsLawful}
use Rattle.run_laws.specs.Bounds.{IsFlowBounded}
use Rattle.net_laws.specs.Paths.{IsPath, links_along}
use Rattle.net_laws.specs.Paths.{IsServedAlong, IsWithinSplits, IsServedOver, StaysAtMost, sum_along}

-- a path serves its flow by what each hop serves it
abbrev pub PathIsServed : Type 0
PathIsServed = (net : Routes) (run : SpecRun) (i : ℕ) (γ : ℚ → Ext) (curves : List (ℚ → Ext)) →
    IsLawful net run → IsPath net (route_of net i).hops → IsServedAlong net run i (route_of net i).hops curves →
    IsWithinSplits γ curves → (t : ℚ) → t ≤ℚ run.end → (s : ℚ) × IsServedOver net run i (route_of net i).hops γ t s

-- no packet of the flow takes longer than the horizontal deviation of its curve and the path's, and the links
abbrev pub DelayFromPathService : Type 0
DelayFromPathService = (net : Routes) (run : SpecRun) (i : ℕ) (α γ : ℚ → Ext) (delay : Ext) (curves : List (ℚ → Ext)) →
    IsLawful net run → IsPath net (route_of net i).hops →
    KeepsArrivals (of_flow i) α (view net run (first_server (route_of net i).hops)) →
    IsServedAlong net run i (route_of net i).hops curves → IsWithinSplits γ curves → IsRising γ →
    IsHorizontalDeviation α γ delay → IsFlowBounded net run i (delay +ₑ Fin (links_along net (route_of net i).hops))

-- nor longer than at each hop, and the links; a packet that is still inside at the end too
abbrev pub DelayFromHops : Type 0
DelayFromHops = (net : Routes) (run : SpecRun) (i : ℕ) (stays : List Ext) → IsLawful net run →
    IsPath net (route_of net i).hops → StaysAtMost net run i (route_of net i).hops stays →
    IsFlowBounded net run i (sum_along net (route_of net i).hops stays)
