-- The path of a flow: the links on it, how the flow is served along it, and how long it is at each of its servers.
-- (Le Boudec and Thiran, concatenation of service curves; that whole packets count at all hops but the last is our own
-- choice.)
use Rattle.std.specs.Prelude.{◌≡◌, ◌<◌, ℕ, pos, List, [], ◌∷◌, length}
use Rattle.rational.specs.Rational.{ℚ, int, ◌+ℚ◌, ◌-ℚ◌, ◌≤ℚ◌}
use Rattle.rational.specs.Extended.{Ext, ◌≤ₑ◌, ◌+ₑ◌}
use Rattle.rational.specs.declared.Extended.TheVariants.{Fin}
use Rattle.min_plus.specs.Functions.{IsNonnegative}
use Rattle.min_plus.specs.Convolution.{AllNonneg, sum_of}
use Rattle.run_laws.specs.Runs.{SpecRun}
use Rattle.run_laws.specs.Cards.{of_flow}
use Rattle.run_laws.specs.Counts.{arrived, worked, departed}
use Rattle.run_laws.specs.Serves.{Serves, ServesPackets}
use Rattle.run_laws.specs.Delays.{hop_delays, AreAtMost}
use Rattle.run_laws.specs.Routes.{Hop, Routes, PassesServer, link_at, first_server, last_server}
use Rattle.run_laws.specs.Views.{view}

-- over servers of the network, none of them twice, and no link takes less than no time
abbrev pub IsPath : Routes → List Hop → Type 0
IsPath net [] = Unit {0}
IsPath net (h ∷ hs) =
    (h.server < length net.servers) × (int (pos 0) ≤ℚ link_at net h.server) × (¬ PassesServer h.server hs) ×
    IsPath net hs

-- the links between the servers of a path; that of the last is not one of them
abbrev pub links_between : Routes → List Hop → ℚ
links_between net [] = int (pos 0)
links_between net (h ∷ []) = int (pos 0)
links_between net (h ∷ g ∷ hs) = link_at net h.server +ℚ links_between net (g ∷ hs)

-- all of them
abbrev pub links_along : Routes → List Hop → ℚ
links_along net hs = links_between net hs +ℚ link_at net (last_server hs)

-- ---- service
-- a curve for each hop: the flow is served by it, in whole packets where the path goes on
abbrev pub IsServedAlong : Routes → SpecRun → ℕ → List Hop → List (ℚ → Ext) → Type 0
IsServedAlong net run i [] γs = ⊥
IsServedAlong net run i (h ∷ []) [] = ⊥
IsServedAlong net run i (h ∷ []) (γ ∷ []) = Serves (of_flow i) γ run.end (view net run h.server)
IsServedAlong net run i (h ∷ []) (γ ∷ δ ∷ γs) = ⊥
IsServedAlong net run i (h ∷ g ∷ hs) [] = ⊥
IsServedAlong net run i (h ∷ g ∷ hs) (γ ∷ γs) =
    IsNonnegative γ × ServesPackets (of_flow i) γ run.end (view net run h.server) × IsServedAlong net run i (g ∷ hs) γs

-- the sum of the curves' values, each at its own time
abbrev pub sum_of_values : List (ℚ → Ext) → List ℚ → Ext
sum_of_values [] xs = Fin (int (pos 0))
sum_of_values (f ∷ fs) [] = Fin (int (pos 0))
sum_of_values (f ∷ fs) (x ∷ xs) = f x +ₑ sum_of_values fs xs

-- γ is at most each such sum over a split of its time, as the curves' convolution is
abbrev pub IsWithinSplits : (ℚ → Ext) → List (ℚ → Ext) → Type 0
IsWithinSplits γ fs = (xs : List ℚ) → AllNonneg xs → length xs ≡ length fs → γ (sum_of xs) ≤ₑ sum_of_values fs xs

-- what arrived at the first server before s has left the last before t, and since s, the links taken off, the work
-- there kept up with γ
pub record IsServedOver (net : Routes) (run : SpecRun) (i : ℕ) (hs : List Hop) (γ : ℚ → Ext) (t s : ℚ) : Type 0 where
  pub earlier : s ≤ℚ t -ℚ links_between net hs
  pub left : arrived (of_flow i) (view net run (first_server hs)) s
      ≤ℚ departed (of_flow i) (view net run (last_server hs)) t
  pub kept_up : (Fin (arrived (of_flow i) (view net run (first_server hs)) s) +ₑ γ (t -ℚ links_between net hs -ℚ s))
      ≤ₑ Fin (worked (of_flow i) (view net run (last_server hs)) t)

-- ---- delays
-- a number for each hop, which no packet of the flow stays longer there
abbrev pub StaysAtMost : Routes → SpecRun → ℕ → List Hop → List Ext → Type 0
StaysAtMost net run i [] [] = Unit {0}
StaysAtMost net run i [] (d ∷ ds) = ⊥
StaysAtMost net run i (h ∷ hs) [] = ⊥
StaysAtMost net run i (h ∷ hs) (d ∷ ds) =
    (Fin (int (pos 0)) ≤ₑ d) × AreAtMost d (hop_delays (of_flow i) run.end (view net run h.server)) ×
    StaysAtMost net run i hs ds

-- these numbers and the links along the path
abbrev pub sum_along : Routes → List Hop → List Ext → Ext
sum_along net [] ds = Fin (int (pos 0))
sum_along net (h ∷ hs) [] = Fin (int (pos 0))
sum_along net (h ∷ hs) (d ∷ ds) = (d +ₑ Fin (link_at net h.server)) +ₑ sum_along net hs ds
